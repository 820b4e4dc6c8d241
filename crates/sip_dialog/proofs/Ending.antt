-- Until which moment the dialogs of all rows are known, whatever happens to the rows.
use Rattle.std.proofs.Common.{◌≡◌, ℕ, ◌+◌, ◌-◌, ◌≤◌, ◌<◌, List, [], ◌∷◌, ◌++◌, length, cond, Bool, true, false, refl, sym, ◌∙◌, ap, arith, slice_get, get_or, take}
use Rattle.std.proofs.Common.{Some, swap, set}
use Rattle.std.specs.Prelude.{◌&&◌, not, count_by, nat_le, nat_lt}
use Rattle.std.proofs.lemmas.Bool.{lt-ltb}
use Rattle.std.proofs.lemmas.Bool.Decides.{nat_tests}
use Rattle.std.proofs.lemmas.List.{take_more}
use Rattle.std.proofs.lemmas.List.Sums.{sum_by_push}
use Rattle.std.proofs.lemmas.Option.{slice_get-get_or}
use Rattle.sip_dialog.specs.declared.dialog.Dialog.{Dialog}
use Rattle.sip_dialog.specs.Dialogs.{known}
use Rattle.sip_dialog.specs.Rows.{dialogs_in, is_recent, has_ended, AreKnownBefore, IsTakenOut}
use Rattle.sip_dialog.proofs.Alone.{Row}
use Rattle.sip_dialog.proofs.Places.{count_swapped}
use Rattle.sip_dialog.proofs.Sameness.{count_alike, length_counts, split_by}
use Rattle.sip_dialog.proofs.Tables.{counted, put_in}

-- a dialog is known for twelve hours after its last request
recent_until : (until since now : ℕ) → until ≤ since + 43200000 → now < until → nat_lt (now - since) 43200000 ≡ true
recent_until until since now ends lt = lt-ltb (now - since) 43200000 (omega (arith, ends, lt))

still_known : (until now : ℕ) (row : Row) → until ≤ row.1.since + 43200000 → now < until → cond {A = ℕ} (has_ended now row) 1 0 ≡ 0
still_known until now row ends lt = ap (λ (b : Bool). cond {A = ℕ} (not b) 1 0) (recent_until until row.1.since now ends lt)

at_limit : (n : ℕ) → 4096 ≤ n → false ≡ not (nat_le 4096 n)
at_limit n le = grind (arith, nat_tests)

true_behind : (b : Bool) → (b && true) ≡ b
true_behind true = refl
true_behind false = refl

-- no row
pub known_none : (until : ℕ) → AreKnownBefore until []
known_none until = record { none_ended = λ now lt. refl }

module _ (until : ℕ) (rows : List Row) (h : AreKnownBefore until rows) where
  -- where as many stand as may be known, there is no place for one more
  pub no_place : (now : ℕ) → now < until → 4096 ≤ length rows → false ≡ not (nat_le 4096 (length (known now (dialogs_in rows))))
  no_place now lt many =
      let all : 4096 ≤ length (known now (dialogs_in rows)) = omega (
        arith,
        many,
        length_counts rows,
        split_by (λ (r : Row). is_recent now r.1) (λ (r : Row). true) rows,
        count_alike (λ (r : Row). not (is_recent now r.1) && true) (has_ended now) rows (λ r. true_behind (has_ended now r)),
        h.none_ended now lt,
        counted now (λ (d : Dialog). true) rows,
        length_counts (known now (dialogs_in rows)),
      ) in
      at_limit (length (known now (dialogs_in rows))) all

  -- where a row is taken out
  pub known_taken : (at : ℕ) (other : Row) (new : List Row) → at < length rows → IsTakenOut rows at new → AreKnownBefore until new
  known_taken at other new inside taken = record {
    none_ended = λ now lt.
        omega (arith, h.none_ended now lt, taken (get_or rows at other) (slice_get-get_or rows at other inside) (has_ended now));
  }

  -- where two rows change places
  pub known_swapped : (a b : ℕ) → a < length rows → b < length rows → AreKnownBefore until (swap rows a b)
  known_swapped a b inside_a inside_b = record {
    none_ended = λ now lt. count_swapped rows a b inside_a inside_b (has_ended now) ∙ h.none_ended now lt;
  }

  -- where one more stands at the end, by a moment at which it hasn't ended
  pub known_more : (row : Row) (earlier : ℕ) (new : List Row) → new ≡ rows ++ row ∷ [] → earlier ≤ until → earlier ≤ row.1.since + 43200000
      → AreKnownBefore earlier new
  known_more row earlier new is le ends = record {
    none_ended = λ now lt.
        let here : cond {A = ℕ} (has_ended now row) 1 0 ≡ 0 = still_known earlier now row ends lt in
        let none : count_by (has_ended now) (rows ++ row ∷ []) ≡ 0 = omega (
          arith,
          sum_by_push (λ r. cond {A = ℕ} (has_ended now r) 1 0) rows row,
          h.none_ended now (omega (arith, lt, le)),
          here,
        ) in
        ap (λ (l : List Row). count_by (has_ended now) l) is ∙ none;
  }

  -- where one is set, by a moment at which it hasn't ended
  pub known_set : (at : ℕ) (x y : Row) (earlier : ℕ) → slice_get rows at ≡ Some x → earlier ≤ until → earlier ≤ y.1.since + 43200000
      → AreKnownBefore earlier (set rows at y)
  known_set at x y earlier there le ends = record {
    none_ended = λ now lt.
        let here : cond {A = ℕ} (has_ended now y) 1 0 ≡ 0 = still_known earlier now y ends lt in
        omega (arith, put_in (has_ended now) rows at x y there, h.none_ended now (omega (arith, lt, le)), here);
  }

  -- where one is set whose last request is that of before
  pub known_kept : (at : ℕ) (x y : Row) → slice_get rows at ≡ Some x → y.1.since ≡ x.1.since → AreKnownBefore until (set rows at y)
  known_kept at x y there same = record {
    none_ended = λ now lt.
        let here : cond {A = ℕ} (has_ended now y) 1 0 ≡ cond {A = ℕ} (has_ended now x) 1 0 =
        ap (λ (since : ℕ). cond {A = ℕ} (not (nat_lt (now - since) 43200000)) 1 0) same in
        omega (arith, put_in (has_ended now) rows at x y there, h.none_ended now lt, here);
  }

-- the rows so far, and one more
pub known_next : (until : ℕ) (rows : List Row) (i : ℕ) (row : Row) (earlier : ℕ) → AreKnownBefore until (take i rows) → i < length rows → row ≡ get_or rows i row
    → earlier ≤ until → earlier ≤ row.1.since + 43200000 → AreKnownBefore earlier (take (i + 1) rows)
known_next until rows i row earlier h lt is le ends =
    known_more until (take i rows) h row earlier (take (i + 1) rows)
    (take_more rows i row lt ∙ ap (λ (r : Row). take i rows ++ r ∷ []) (sym is)) le ends
