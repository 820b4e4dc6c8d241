-- Rows whose numbers rise.
use Rattle.std.proofs.Common.{◌≡◌, ℕ, ◌≤◌, ◌<◌, ◌==◌, false, List, length, get_or, set, slice_get, position, remove, Some, None, Result, Ok, Err, sym, ◌∙◌, ap, arith}
use Rattle.std.proofs.Common.{◌⊎◌, inl, inr}
use Rattle.std.specs.List.{AllPairs, HoldsAt}
use Rattle.std.specs.List.Sorted.{IsNonDecreasingBy, IsPartitionPoint, IsSearchInRange, IsBinarySearchResult}
use Rattle.std.specs.Result.{result_ok}
use Rattle.std.specs.Ordering.{nat_cmp, ordering_index}
use Rattle.std.specs.declared.cmp.Ordering.TheVariants.{Less, Equal, Greater}
use Rattle.std.proofs.lemmas.Bool.{cases_lt}
use Rattle.std.proofs.lemmas.Bool.Decides.{nat_tests}
use Rattle.std.proofs.lemmas.Cmp.{ranked}
use Rattle.std.proofs.lemmas.List.{length-set}
use Rattle.std.proofs.lemmas.List.Quantifiers.{all_pairs_remove}
use Rattle.std.proofs.lemmas.List.Edits.{length-remove}
use Rattle.std.proofs.lemmas.Option.{slice_get_within, get_or_from_slice_get}
use Rattle.sip_transaction_table.specs.Numbered.{IsNumbered}
use Rattle.sip_transaction_table.proofs.Places.{at_place, first_at, nowhere, all_pairs_set}

module _ {R : Type 0} (number : R → ℕ) where
  -- a row's number is below another's
  abbrev Below : R → R → Type 0
  Below a b = number a < number b

  -- a row is the only one with its number
  pub place_of : (rows : List R) (i : ℕ) (r : R) (n : ℕ) → AllPairs Below rows → slice_get rows i ≡ Some r → number r ≡ n → position (λ x. number x == n) rows ≡ Some i
  place_of rows i r n rise at e =
      let is : number (get_or rows i r) ≡ number r = ap number (get_or_from_slice_get rows i r r at) in
      first_at (λ x. number x == n) rows i r at (grind (arith, nat_tests, e)) (λ k lt. let below = rise k i r lt (slice_get_within rows i r at) in
      grind (arith, nat_tests, below, is, e))

  -- where bisection comes upon the number
  found_at : (rows : List R) (i n : ℕ) → AllPairs Below rows → i < length rows → HoldsAt (λ y. nat_cmp (number y) n ≡ Equal) rows i
      → Some i ≡ position (λ x. number x == n) rows
  found_at rows i n rise within equal =
      let there = at_place rows i within in
      let r : R = there.0 in
      let is : number (get_or rows i r) ≡ number r = ap number (get_or_from_slice_get rows i r r there.1) in
      let same : number (get_or rows i r) ≡ n = ranked (number (get_or rows i r)) n Equal (sym (equal r)) in
      sym (place_of rows i r n rise there.1 (sym is ∙ same))

  -- the answers of bisection rise
  answers_rise : (rows : List R) (n : ℕ) → AllPairs Below rows → IsNonDecreasingBy (λ y. ordering_index (nat_cmp (number y) n)) rows
  answers_rise rows n rise i j d le within = by_place (cases_lt i j) where
    by_place : (i < j) ⊎ (j ≤ i) → ordering_index (nat_cmp (number (get_or rows i d)) n) ≤ ordering_index (nat_cmp (number (get_or rows j d)) n)
    by_place (inl lt) = let below = rise i j d lt within in grind (arith, nat_tests, below)
    by_place (inr ge) =
        let same : i ≡ j = omega (arith, le, ge) in
        let alike : ordering_index (nat_cmp (number (get_or rows i d)) n) ≡ ordering_index (nat_cmp (number (get_or rows j d)) n) =
        ap (λ k. ordering_index (nat_cmp (number (get_or rows k d)) n)) same in
        omega (arith, alike)

  -- where it doesn't
  found_nowhere : (rows : List R) (i n : ℕ) → AllPairs Below rows
      → (IsNonDecreasingBy (λ y. ordering_index (nat_cmp (number y) n)) rows → IsPartitionPoint (λ y. nat_cmp (number y) n ≡ Less) (λ y. nat_cmp (number y) n ≡ Greater)
      rows i)
      → None ≡ position (λ x. number x == n) rows
  found_nowhere rows i n rise parted = sym (nowhere (λ x. number x == n) rows (λ k d lt. by_place k d lt (cases_lt k i))) where
    by_place : (k : ℕ) (d : R) → k < length rows → (k < i) ⊎ (i ≤ k) → (number (get_or rows k d) == n) ≡ false
    by_place k d lt (inl before) = let below = ranked (number (get_or rows k d)) n Less (sym ((parted (answers_rise rows n rise)).0 k d (omega arith) before)) in
        grind (arith, nat_tests, below)
    by_place k d lt (inr behind) = let above = ranked (number (get_or rows k d)) n Greater (sym ((parted (answers_rise rows n rise)).1 k d behind lt)) in
        grind (arith, nat_tests, above)

  -- what bisection gives
  pub searched : (rows : List R) (n : ℕ) (r : Result ℕ ℕ) → AllPairs Below rows → IsSearchInRange r (length rows)
      → IsBinarySearchResult (λ y. nat_cmp (number y) n) rows r → result_ok r ≡ position (λ x. number x == n) rows
  searched rows n (Ok i) rise within equal = found_at rows i n rise within equal
  searched rows n (Err i) rise within parted = found_nowhere rows i n rise parted

  -- another row in the place of one with its number
  pub replaced : (rows : List R) (capacity i : ℕ) (r row : R) → IsNumbered number rows capacity → slice_get rows i ≡ Some r → number row ≡ number r
      → IsNumbered number (set rows i row) capacity
  replaced rows capacity i r row h at same = record {
    rise = all_pairs_set Below rows i r row at (λ a lt. omega (arith, lt, same)) (λ b lt. omega (arith, lt, same)) h.rise;
    few = omega (arith, h.few, length-set rows i row);
    room = h.room;
  }

  -- one row less
  pub removed : (rows : List R) (capacity i : ℕ) → IsNumbered number rows capacity → i < length rows → IsNumbered number (remove rows i) capacity
  removed rows capacity i h within = record {
    rise = all_pairs_remove Below rows i within h.rise;
    few = omega (arith, h.few, length-remove rows i within);
    room = h.room;
  }
