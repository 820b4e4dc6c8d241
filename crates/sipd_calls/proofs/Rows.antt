-- The rows of the table, one after the other.
use Rattle.std.proofs.Common.{◌≡◌, ◌<◌, ◌≤◌, ℕ, ◌+◌, Bool, true, false, List, [], ◌∷◌, ◌++◌, length, drop, get_or, refl, sym, ◌∙◌, ap, append_assoc, Some}
use Rattle.std.specs.Prelude.{filter, fold, if◌then◌else◌}
use Rattle.std.proofs.lemmas.List.{at_drop_more, drop_all}
use Rattle.sip_days.specs.declared.call.Call.{Call}
use Rattle.sipd_calls.specs.declared.choice.CallFilter.{CallFilter}
use Rattle.sipd_calls.specs.declared.table.Rows.{Rows}
use Rattle.sipd_calls.specs.declared.totals.CallTotals.{CallTotals}
use Rattle.sipd_calls.specs.Cells.{clock_of}
use Rattle.sipd_calls.specs.Choices.{is_shown}
use Rattle.sipd_calls.specs.Table.{left_of, no_rows, rest_of, row_behind, rows_behind, rows_with, shown_row, shown_with, table_text}
use Rattle.sipd_calls.specs.Totals.{totals_text, with_call}

abbrev counted : CallTotals → List Call → CallTotals
counted totals calls = fold (λ t call. with_call call t) totals calls

left_is : (rows : Rows) (calls : List Call) → left_of rows calls ≡ rows_behind rows.clock calls ++ totals_text (counted rows.totals calls)
left_is rows [] = refl
left_is rows (call ∷ calls) =
    ap (λ (text : List ℕ). row_behind rows call ++ text) (left_is (rows_with rows call) calls)
    ∙ sym (append_assoc (row_behind rows call) (rows_behind (Some (clock_of call)) calls) (totals_text (counted (with_call call rows.totals) calls)))

-- ---- those that are shown

rest_by : (choice : CallFilter) (rows : Rows) (call : Call) (calls : List Call) (shown : Bool)
    → rest_of choice (if shown then rows_with rows call else rows) calls ≡ left_of (if shown then rows_with rows call else rows) (filter (is_shown choice) calls)
    → (if shown then row_behind rows call else []) ++ rest_of choice (if shown then rows_with rows call else rows) calls
    ≡ left_of rows (if shown then call ∷ filter (is_shown choice) calls else filter (is_shown choice) calls)
rest_by choice rows call calls true h = ap (λ (text : List ℕ). row_behind rows call ++ text) h
rest_by choice rows call calls false h = h

rest_is : (choice : CallFilter) (rows : Rows) (calls : List Call) → rest_of choice rows calls ≡ left_of rows (filter (is_shown choice) calls)
rest_is choice rows [] = refl
rest_is choice rows (call ∷ calls) = rest_by choice rows call calls (is_shown choice call) (rest_is choice (shown_with choice rows call) calls)

pub whole : (choice : CallFilter) (calls : List Call) → rest_of choice no_rows calls ≡ table_text choice calls
whole choice calls = rest_is choice no_rows calls ∙ left_is no_rows (filter (is_shown choice) calls)

-- ---- the loop

-- one more row was written, if its call is shown
pub one_more : (choice : CallFilter) (out made : List ℕ) (rows then_rows : Rows) (calls : List Call) (i : ℕ) (call : Call) (text : List ℕ) → i < length calls
    → call ≡ get_or calls i call → out ++ rest_of choice rows (drop i calls) ≡ text → made ≡ out ++ shown_row choice rows call
    → then_rows ≡ shown_with choice rows call
    → made ++ rest_of choice then_rows (drop (i + 1) calls) ≡ text
one_more choice out made rows then_rows calls i call text lt is so_far written then_is = rw (written, then_is) (
    append_assoc out (shown_row choice rows call) (rest_of choice (shown_with choice rows call) (drop (i + 1) calls))
    ∙ ap (λ (l : List ℕ). out ++ l) (ap (λ (c : Call). rest_of choice rows (c ∷ drop (i + 1) calls)) is)
    ∙ ap (λ (l : List ℕ). out ++ l) (sym (at_drop_more (rest_of choice rows) calls i call lt))
    ∙ so_far
    )

-- no call is left, and what is counted stands behind the rows
pub at_end : (choice : CallFilter) (out made : List ℕ) (rows : Rows) (calls : List Call) (i : ℕ) → length calls ≤ i
    → out ++ rest_of choice rows (drop i calls) ≡ rest_of choice no_rows calls → made ≡ out ++ totals_text rows.totals → made ≡ table_text choice calls
at_end choice out made rows calls i past so_far written =
    written ∙ ap (λ (l : List Call). out ++ rest_of choice rows l) (sym (drop_all i calls past)) ∙ so_far ∙ whole choice calls
