-- What one line more changes of what is counted.
use Rattle.std.proofs.Common.{◌≡◌, ℕ, suc, ◌+◌, ◌<◌, ◌≤◌, Bool, true, false, cond, List, [], ◌∷◌, ◌++◌, length, take, map, filter, Option, None, Some, is_none, refl, sym}
use Rattle.std.proofs.Common.{◌∙◌, ap, arith, append-nil, if◌then◌else◌}
use Rattle.std.specs.Prelude.{count_by, nat_lt, not, ◌&&◌, option_map}
use Rattle.std.specs.Borrow.{Bor}
use Rattle.std.specs.List.{flat_map, filter_map, cons_option}
use Rattle.std.proofs.lemmas.Bool.{ltb-true, ltb-false}
use Rattle.std.proofs.lemmas.Grind.{flat_map-append}
use Rattle.std.proofs.lemmas.List.{map-append, take_all, take-append-le, length_push}
use Rattle.std.proofs.lemmas.List.Elements.{filter_map-append, filter-append}
use Rattle.std.proofs.lemmas.List.Sums.{fold_push, sum_by-append}
use Rattle.sip_audit.specs.Lines.{who_text}
use Rattle.sip_audit.specs.declared.record.Record.{Record}
use Rattle.sip_audit.specs.Reading.{record_of, parts_of}
use Rattle.sipd_report.specs.declared.query.Query.{Query}
use Rattle.sip_audit.specs.declared.record.AuditOutcome.{AuditOutcome}
use Rattle.sip_audit.specs.declared.record.AuditOutcome.TheVariants.{Challenge, Deny, Sent, Answer}
use Rattle.sipd_report.specs.Entries.{is_challenge, is_left_out, is_of_outcome, left_of, meets}
use Rattle.sipd_report.specs.Entries.{told_by, is_asked, is_filled, is_servers_own, is_foreign, asked_of, ruling_of}
use Rattle.sipd_report.specs.Rows.{ruling_text, outcome_kind}
use Rattle.sipd_report.specs.Totals.{capped, one_more, totals_of}
use Rattle.sipd_report.specs.Report.{no_entries, no_entry_text, row_of, tally_from, tally_of, rows_text}
use Rattle.sipd_report.specs.Steps.{after_line, with_line, with_filled, with_left_out, with_no_entry, with_record, with_entry, line_text, entry_text}

-- ---- counts that are capped

capped_more : (n : ℕ) → capped (capped n + 1) ≡ capped (n + 1)
capped_more n = omega arith

-- ---- one more of each

totals_more : (texts : List (List ℕ)) (text : List ℕ) → one_more (totals_of texts) text ≡ totals_of (texts ++ text ∷ [])
totals_more texts text = sym (fold_push one_more [] texts text)

keys_more : (key : Record → List ℕ) (asked : List Record) (r : Record) → one_more (totals_of (map key asked)) (key r) ≡ totals_of (map key (asked ++ r ∷ []))
keys_more key asked r = totals_more (map key asked) (key r) ∙ ap totals_of (sym (map-append key asked (r ∷ [])))

length_more : {X : Type 0} (xs : List X) (x : X) → capped (capped (length xs) + 1) ≡ capped (length (xs ++ x ∷ []))
length_more xs x = capped_more (length xs) ∙ ap capped (sym (length_push xs x))

line_more : (asked : List Record) (left lines filled : ℕ) (none : List (ℕ × List ℕ)) → with_line (tally_from asked left lines filled none)
    ≡ tally_from asked left (lines + 1) filled none
line_more asked left lines filled none = ap (λ n. record (tally_from asked left lines filled none) { lines = n }) (capped_more lines)

filled_more : (asked : List Record) (left lines filled : ℕ) (none : List (ℕ × List ℕ)) → with_filled (tally_from asked left lines filled none)
    ≡ tally_from asked left lines (filled + 1) none
filled_more asked left lines filled none = ap (λ n. record (tally_from asked left lines filled none) { filled = n }) (capped_more filled)

record_more : (asked : List Record) (left lines filled : ℕ) (none : List (ℕ × List ℕ)) (r : Record)
    → with_record r (tally_from asked left lines filled none) ≡ tally_from (asked ++ r ∷ []) left lines filled none
record_more asked left lines filled none r =
    let users = keys_more (λ q. who_text q.who) asked r in
    let rules = keys_more (λ q. ruling_text (ruling_of q.outcome)) asked r in
    let outcomes = keys_more (λ q. outcome_kind q.outcome) asked r in
    let count = length_more asked r in
    λ i. record (tally_from asked left lines filled none) { users = users i; rules = rules i; outcomes = outcomes i; asked = count i }

-- ---- the lines that are no audit lines

shown_more : (none : List (ℕ × List ℕ)) (line : ℕ × List ℕ)
    → (if nat_lt (capped (length none)) 20 then flat_map no_entry_text (take 20 none) ++ no_entry_text line else flat_map no_entry_text (take 20 none))
    ≡ flat_map no_entry_text (take 20 (none ++ line ∷ []))
shown_more none line = by (nat_lt (capped (length none)) 20) refl
  where
    by : (few : Bool) → nat_lt (capped (length none)) 20 ≡ few
        → (if few then flat_map no_entry_text (take 20 none) ++ no_entry_text line else flat_map no_entry_text (take 20 none))
        ≡ flat_map no_entry_text (take 20 (none ++ line ∷ []))
    by true is =
        let few : capped (length none) < 20 = ltb-true (capped (length none)) 20 is in
        let size : length (none ++ line ∷ []) ≡ length none + 1 = length_push none line in
        ap (λ l. flat_map no_entry_text l ++ no_entry_text line) (take_all 20 none (omega (arith, few)))
        ∙ ap (λ l. flat_map no_entry_text none ++ l) (sym (append-nil (no_entry_text line)))
        ∙ sym (flat_map-append no_entry_text none (line ∷ []))
        ∙ ap (flat_map no_entry_text) (sym (take_all 20 (none ++ line ∷ []) (omega (arith, few, size))))
    by false is =
        let many : 20 ≤ capped (length none) = ltb-false (capped (length none)) 20 is in
        ap (flat_map no_entry_text) (sym (take-append-le 20 none (line ∷ []) (omega (arith, many))))

no_entry_more : (asked : List Record) (left lines filled : ℕ) (none : List (ℕ × List ℕ)) (line : List ℕ)
    → with_no_entry line (tally_from asked left lines filled none) ≡ tally_from asked left lines filled (none ++ (lines, line) ∷ [])
no_entry_more asked left lines filled none line =
    let count = length_more none (lines, line) in
    let shown = shown_more none (lines, line) in
    λ i. record (tally_from asked left lines filled none) { none = count i; shown = shown i }

no_entries_more : (n : ℕ) (lines : List (List ℕ)) (line : List ℕ) → no_entries n (lines ++ line ∷ []) ≡ no_entries n lines
    ++ (if is_foreign line then (n + length lines, line) ∷ [] else [])
no_entries_more n [] line = ap (λ m. if is_foreign line then (m, line) ∷ [] else []) same
  where
    same : n ≡ n + 0
    same = omega arith
no_entries_more n (l ∷ ls) line = by (is_foreign l) (no_entries_more (n + 1) ls line
    ∙ ap (λ m. no_entries (n + 1) ls ++ (if is_foreign line then (m, line) ∷ [] else [])) same)
  where
    same : (n + 1) + length ls ≡ n + suc (length ls)
    same = omega arith

    by : (b : Bool) → no_entries (n + 1) (ls ++ line ∷ []) ≡ no_entries (n + 1) ls ++ (if is_foreign line then (n + suc (length ls), line) ∷ [] else [])
        → (if b then (n, l) ∷ no_entries (n + 1) (ls ++ line ∷ []) else no_entries (n + 1) (ls ++ line ∷ []))
        ≡ (if b then (n, l) ∷ no_entries (n + 1) ls else no_entries (n + 1) ls) ++ (if is_foreign line then (n + suc (length ls), line) ∷ [] else [])
    by true rest = ap (λ more. (n, l) ∷ more) rest
    by false rest = rest

-- ---- the records that are asked for

pub asked_more : (q : Query) (lines : List (List ℕ)) (line : List ℕ) → asked_of q (lines ++ line ∷ []) ≡ asked_of q lines ++ asked_of q (line ∷ [])
asked_more q lines line = ap (filter (is_asked q)) (filter_map-append told_by lines (line ∷ []))
    ∙ filter-append (is_asked q) (filter_map told_by lines) (filter_map told_by (line ∷ []))

-- what one entry adds
abbrev asked_from : Query → Option Record → List Record
asked_from q None = []
asked_from q (Some r) = if is_asked q r then r ∷ [] else []

empty_line : told_by [] ≡ None
unfolding record_of parts_of
empty_line = refl

asked_line : (q : Query) (line : List ℕ) → asked_of q (line ∷ []) ≡ asked_from q (told_by line)
asked_line q line = by (told_by line)
  where
    by : (entry : Option Record) → filter (is_asked q) (cons_option entry []) ≡ asked_from q entry
    by None = refl
    by (Some r) = refl

-- ---- a line more

-- where nothing is added to a list
with_none : {X : Type 0} (xs : List X) → xs ≡ xs ++ []
with_none xs = sym (append-nil xs)

-- a record that is asked for isn't left out
asked_stays : (q : Query) (r : Record) → is_asked q r ≡ true → is_left_out q r ≡ false
asked_stays q r = by (meets q r) q.outcome r.outcome
  where
    by : (met : Bool) (word : Option (Bor (List ℕ))) (outcome : AuditOutcome) → (met && is_of_outcome (option_map (λ w. w.now) word) outcome) ≡ true
        → (met && (is_none word && is_challenge outcome)) ≡ false
    by false word outcome e = refl
    by true (Some w) outcome e = refl
    by true None (Challenge status) e = absurd cc
    by true None (Deny rule) e = refl
    by true None (Sent rule targets) e = refl
    by true None (Answer rule status) e = refl

unasked_if : (q : Query) (asked : List Record) (left lines filled : ℕ) (none : List (ℕ × List ℕ)) (l : Bool)
    → (if l then with_left_out (tally_from asked left lines filled none) else tally_from asked left lines filled none)
    ≡ tally_from (asked ++ []) (left + cond l 1 0) lines filled (none ++ [])
unasked_if q asked left lines filled none true =
    ap (λ n. record (tally_from asked left lines filled none) { left_out = n }) (capped_more left)
    ∙ (λ i. tally_from (with_none asked i) (left + 1) lines filled (with_none none i))
unasked_if q asked left lines filled none false =
    let same : left ≡ left + 0 = omega arith in
    (λ i. tally_from (with_none asked i) (same i) lines filled (with_none none i))

asked_if : (q : Query) (asked : List Record) (left lines filled : ℕ) (none : List (ℕ × List ℕ)) (r : Record) (b l : Bool) → (b ≡ true → l ≡ false)
    → (if b then with_record r (tally_from asked left lines filled none)
    else (if l then with_left_out (tally_from asked left lines filled none) else tally_from asked left lines filled none))
    ≡ tally_from (asked ++ (if b then r ∷ [] else [])) (left + cond l 1 0) lines filled (none ++ [])
asked_if q asked left lines filled none r true l stays =
    let same : left ≡ left + cond {A = ℕ} l 1 0 = omega (arith, ap (λ (c : Bool). cond {A = ℕ} c 1 0) (stays refl)) in
    record_more asked left lines filled none r ∙ (λ i. tally_from (asked ++ r ∷ []) (same i) lines filled (with_none none i))
asked_if q asked left lines filled none r false l stays = unasked_if q asked left lines filled none l

-- a line that tells no record is foreign, if the server doesn't write it
untold_if : (asked : List Record) (left lines filled : ℕ) (none : List (ℕ × List ℕ)) (line : List ℕ) (own : Bool)
    → (if own then tally_from asked left lines filled none else with_no_entry line (tally_from asked left lines filled none))
    ≡ tally_from (asked ++ []) left lines filled (none ++ (if not own then (lines, line) ∷ [] else []))
untold_if asked left lines filled none line true = (λ i. tally_from (with_none asked i) left lines filled (with_none none i))
untold_if asked left lines filled none line false =
    no_entry_more asked left lines filled none line ∙ ap (λ a. tally_from a left lines filled (none ++ (lines, line) ∷ [])) (with_none asked)

-- what an entry adds to those that are left out
abbrev left_from : Query → Option Record → ℕ
left_from q None = 0
left_from q (Some r) = cond (is_left_out q r) 1 0

-- what an entry adds
entry_more : (q : Query) (asked : List Record) (left lines filled : ℕ) (none : List (ℕ × List ℕ)) (line : List ℕ) (entry : Option Record)
    → with_entry q line entry (tally_from asked left lines filled none) ≡ tally_from (asked ++ asked_from q entry) (left + left_from q entry) lines filled
    (none ++ (if is_none entry && not (is_servers_own line) then (lines, line) ∷ [] else []))
entry_more q asked left lines filled none line None =
    let same : left ≡ left + 0 = omega arith in
    untold_if asked left lines filled none line (is_servers_own line)
    ∙ ap (λ n. tally_from (asked ++ []) n lines filled (none ++ (if not (is_servers_own line) then (lines, line) ∷ [] else []))) same
entry_more q asked left lines filled none line (Some r) = asked_if q asked left lines filled none r (is_asked q r) (is_left_out q r) (asked_stays q r)

-- those that are left out, with one line more
left_more : (q : Query) (lines : List (List ℕ)) (line : List ℕ) → left_of q (lines ++ line ∷ []) ≡ left_of q lines + left_from q (told_by line)
left_more q lines line =
    ap (count_by (is_left_out q)) (filter_map-append told_by lines (line ∷ []))
    ∙ sum_by-append (λ r. cond (is_left_out q r) 1 0) (filter_map told_by lines) (filter_map told_by (line ∷ []))
    ∙ ap (λ n. left_of q lines + n) (by (told_by line))
  where
    from_zero : (n : ℕ) → 0 + n ≡ n
    from_zero n = omega arith

    by : (entry : Option Record) → count_by (is_left_out q) (cons_option entry []) ≡ left_from q entry
    by None = refl
    by (Some r) = from_zero (cond (is_left_out q r) 1 0)

filled_count : (lines : List (List ℕ)) (line : List ℕ) → count_by is_filled (lines ++ line ∷ []) ≡ count_by is_filled lines + cond (is_filled line) 1 0
filled_count lines line =
    sum_by-append (λ l. cond (is_filled l) 1 0) lines (line ∷ []) ∙ ap (λ n. count_by is_filled lines + n) (from_zero (cond (is_filled line) 1 0))
  where
    from_zero : (n : ℕ) → 0 + n ≡ n
    from_zero n = omega arith

-- what a line adds to all that is counted
added : (q : Query) (asked : List Record) (left lines filled : ℕ) (none : List (ℕ × List ℕ)) (line : List ℕ)
    → after_line q line (tally_from asked left lines filled none)
    ≡ tally_from (asked ++ asked_from q (told_by line)) (left + left_from q (told_by line)) (lines + 1) (filled + cond (is_filled line) 1 0)
    (none ++ (if is_foreign line then (lines + 1, line) ∷ [] else []))
added q asked left lines filled none [] =
    let nobody : asked ≡ asked ++ asked_from q (told_by []) = with_none asked ∙ ap (λ e. asked ++ asked_from q e) (sym empty_line) in
    let same : filled ≡ filled + 0 = omega arith in
    let zero_more : left ≡ left + 0 = omega arith in
    let left_same : left ≡ left + left_from q (told_by []) = zero_more ∙ ap (λ e. left + left_from q e) (sym empty_line) in
    line_more asked left lines filled none ∙ (λ i. tally_from (nobody i) (left_same i) (lines + 1) (same i) (with_none none i))
added q asked left lines filled none (b ∷ bs) =
    ap (λ t. with_entry q (b ∷ bs) (told_by (b ∷ bs)) (with_filled t)) (line_more asked left lines filled none)
    ∙ ap (with_entry q (b ∷ bs) (told_by (b ∷ bs))) (filled_more asked left (lines + 1) filled none)
    ∙ entry_more q asked left (lines + 1) (filled + 1) none (b ∷ bs) (told_by (b ∷ bs))

-- what is counted of one line more
pub tally_more : (q : Query) (lines : List (List ℕ)) (line : List ℕ) → after_line q line (tally_of q lines) ≡ tally_of q (lines ++ line ∷ [])
tally_more q lines line =
    let asked : asked_of q (lines ++ line ∷ []) ≡ asked_of q lines ++ asked_from q (told_by line) = asked_more q lines line
    ∙ ap (λ l. asked_of q lines ++ l) (asked_line q line) in
    let number : 1 + length lines ≡ length lines + 1 = omega arith in
    let none : no_entries 1 (lines ++ line ∷ []) ≡ no_entries 1 lines ++ (if is_foreign line then (length lines + 1, line) ∷ [] else []) =
    no_entries_more 1 lines line ∙ ap (λ n. no_entries 1 lines ++ (if is_foreign line then (n, line) ∷ [] else [])) number in
    let count : length (lines ++ line ∷ []) ≡ length lines + 1 = length_push lines line in
    let filled = filled_count lines line in
    let left = left_more q lines line in
    added q (asked_of q lines) (left_of q lines) (length lines) (count_by is_filled lines) (no_entries 1 lines) line
    ∙ sym (λ i. tally_from (asked i) (left i) (count i) (filled i) (none i))

-- what is written for it
entry_row : (q : Query) (entry : Option Record) → rows_text q (asked_from q entry) ≡ entry_text q entry
entry_row q None = refl
entry_row q (Some r) = by (is_asked q r)
  where
    by : (b : Bool) → rows_text q (if b then r ∷ [] else []) ≡ (if b then row_of q r else [])
    by true = append-nil (row_of q r)
    by false = refl

line_row : (q : Query) (line : List ℕ) → rows_text q (asked_from q (told_by line)) ≡ line_text q line
line_row q [] = ap (λ e. rows_text q (asked_from q e)) empty_line
line_row q (b ∷ bs) = entry_row q (told_by (b ∷ bs))

pub rows_more : (q : Query) (lines : List (List ℕ)) (line : List ℕ) → rows_text q (asked_of q (lines ++ line ∷ [])) ≡ rows_text q (asked_of q lines) ++ line_text q line
rows_more q lines line =
    ap (rows_text q) (asked_more q lines line ∙ ap (λ l. asked_of q lines ++ l) (asked_line q line))
    ∙ flat_map-append (row_of q) (asked_of q lines) (asked_from q (told_by line))
    ∙ ap (λ l. rows_text q (asked_of q lines) ++ l) (line_row q line)
