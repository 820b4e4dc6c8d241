-- Which rows stand in front, and what moves where one is taken out, put in or set.
use Rattle.std.proofs.Common.{◌≡◌, ◌≢◌, ℕ, zero, suc, ◌+◌, ◌-◌, ◌<◌, ◌≤◌, ◌⊎◌, inl, inr, List, [], ◌∷◌, ◌++◌, length, cond, Bool, true, false, refl, sym, subst, ◌∙◌, ap}
use Rattle.std.proofs.Common.{arith, slice_get, get_or, Some, swap, swap_remove, set, length-append, length-set}
use Rattle.std.specs.Prelude.{◌==◌, count_by}
use Rattle.std.proofs.lemmas.Bool.Decides.{nat_tests}
use Rattle.std.proofs.lemmas.List.{get_or-take, get_or-set_same, get_or-set_other, get_or_append_left, get_or_at}
use Rattle.std.proofs.lemmas.List.Edits.{swapped_from_swap, length-swap}
use Rattle.std.proofs.lemmas.List.Sorted.{IsPermutation-swap, sum_by-IsPermutation}
use Rattle.std.proofs.lemmas.List.Sums.{sum_by-swap_remove}
use Rattle.std.proofs.lemmas.Option.{get_or_from_slice_get, slice_get_within}
use Rattle.sip_dialog.specs.Rows.{IsFront, IsTakenOut, StoodBehind}
use Rattle.sip_dialog.proofs.Alone.{Row}

pub either : (a b : ℕ) → (a ≡ b) ⊎ (a ≢ b)
either a b = by_test (a == b) refl where
  by_test : (t : Bool) → (a == b) ≡ t → (a ≡ b) ⊎ (a ≢ b)
  by_test true e = inl (grind (arith, nat_tests))
  by_test false e = inr (grind (arith, nat_tests))

pub past : (a b : ℕ) → a ≤ b → b ≢ a → a + 1 ≤ b
past a b le apart = grind (arith, nat_tests)

under : (a b : ℕ) → a < b + 1 → a ≢ b → a < b
under a b lt apart = grind (arith, nat_tests)

-- ---- two rows that change places

module _ {X : Type 0} (rows : List X) (a b : ℕ) (inside_a : a < length rows) (inside_b : b < length rows) where
  pub count_swapped : (test : X → Bool) → count_by test (swap rows a b) ≡ count_by test rows
  count_swapped test = sum_by-IsPermutation (λ r. cond (test r) 1 0) rows (swap rows a b) (IsPermutation-swap rows (swap rows a b) a b inside_a inside_b refl)

  pub swapped_first : (d : X) → get_or (swap rows a b) a d ≡ get_or rows b d
  swapped_first d = (swapped_from_swap rows (swap rows a b) a b d inside_a inside_b refl).0

  pub swapped_second : (d : X) → get_or (swap rows a b) b d ≡ get_or rows a d
  swapped_second d = (swapped_from_swap rows (swap rows a b) a b d inside_a inside_b refl).1

  pub swapped_other : (k : ℕ) (d : X) → k ≢ a → k ≢ b → get_or (swap rows a b) k d ≡ get_or rows k d
  swapped_other k d not_a not_b = (swapped_from_swap rows (swap rows a b) a b d inside_a inside_b refl).2 k not_a not_b

-- ---- a row that is taken out

module _ {X : Type 0} (rows : List X) (at : ℕ) (other : X) (inside : at < length rows) where
  -- the last takes its place
  pub last_there : (d : X) → at < length rows - 1 → get_or (swap_remove rows at other) at d ≡ get_or rows (length rows - 1) d
  last_there d lt =
      get_or-take (length rows - 1) _ at d lt
      ∙ get_or-set_same rows at (get_or rows (length rows - 1) other) d inside
      ∙ same_default rows (length rows - 1) other d (omega arith)
    where
      same_default : (xs : List X) (i : ℕ) (x y : X) → i < length xs → get_or xs i x ≡ get_or xs i y
      same_default [] i x y lt = absurd (omega arith)
      same_default (z ∷ xs) zero x y lt = refl
      same_default (z ∷ xs) (suc i) x y lt = same_default xs i x y (omega arith)

  pub others_stay : (k : ℕ) (d : X) → k ≢ at → k < length rows - 1 → get_or (swap_remove rows at other) k d ≡ get_or rows k d
  others_stay k d apart lt = get_or-take (length rows - 1) _ k d lt ∙ get_or-set_other rows at k (get_or rows (length rows - 1) other) d apart

-- tests count all of the others as before
pub taken_plain : (rows : List Row) (at : ℕ) (other : Row) → at < length rows → IsTakenOut rows at (swap_remove rows at other)
taken_plain rows at other inside = λ row there test.
    let is : get_or rows at other ≡ row = get_or_from_slice_get rows at row other there in
    let here : cond (test (get_or rows at other)) 1 0 ≡ cond (test row) 1 0 = ap (λ (r : Row). cond {A = ℕ} (test r) 1 0) is in
    omega (arith, sum_by-swap_remove (λ r. cond {A = ℕ} (test r) 1 0) rows at other inside, here)

pub taken_swapped : (rows : List Row) (at place : ℕ) (other : Row) → at < length rows → place < length rows
    → IsTakenOut rows at (swap_remove (swap rows at place) place other)
taken_swapped rows at place other inside_at inside = λ row there test.
    let long : length (swap rows at place) ≡ length rows = length-swap rows at place in
    let is : get_or (swap rows at place) place other ≡ row = swapped_second rows at place inside_at inside other ∙ get_or_from_slice_get rows at row other there in
    let here : cond (test (get_or (swap rows at place) place other)) 1 0 ≡ cond (test row) 1 0 = ap (λ (r : Row). cond {A = ℕ} (test r) 1 0) is in
    omega (
      arith,
      sum_by-swap_remove (λ r. cond {A = ℕ} (test r) 1 0) (swap rows at place) place other (omega (arith, long, inside)),
      count_swapped rows at place inside_at inside test,
      here,
    )

-- what stands behind the place stood behind it
pub behind_plain : (rows : List Row) (at : ℕ) (other : Row) → at < length rows → (k : ℕ) → at ≤ k → k < length rows - 1
    → StoodBehind rows at (swap_remove rows at other) k
behind_plain rows at other inside k le lt = by_place (either k at) where
  by_place : (k ≡ at) ⊎ (k ≢ at) → StoodBehind rows at (swap_remove rows at other) k
  by_place (inl e) = record {
    from = length rows - 1;
    behind = omega (arith, e, lt);
    within = omega (arith, lt);
    same = λ d. ap (λ (n : ℕ). get_or (swap_remove rows at other) n d) e ∙ last_there rows at other inside d (omega (arith, e, lt));
  }
  by_place (inr apart) = record {
    from = k;
    behind = omega (arith, past at k le apart);
    within = omega (arith, lt);
    same = λ d. others_stay rows at other inside k d apart lt;
  }

module _ (rows : List Row) (at place : ℕ) (other : Row) (order : at ≤ place) (inside : place < length rows) where
  abbrev pub mid : List Row
  mid = swap rows at place

  long : length mid ≡ length rows
  long = length-swap rows at place

  inside_mid : place < length mid
  inside_mid = omega (arith, long, inside)

  -- the last row takes the place
  from_last : (d : Row) → place < length rows - 1 → get_or (swap_remove mid place other) place d ≡ get_or rows (length rows - 1) d
  from_last d lt =
      last_there mid place other inside_mid d (omega (arith, long, lt))
      ∙ ap (λ (n : ℕ). get_or mid (n - 1) d) long
      ∙ swapped_other rows at place (omega arith) inside (length rows - 1) d (λ e. absurd (omega (arith, e, order, lt))) (λ e. absurd (omega (arith, e, lt)))

  -- the row of the place goes to where the one that is taken stood
  from_place : (k : ℕ) (d : Row) → k ≡ at → k ≢ place → k < length rows - 1 → get_or (swap_remove mid place other) k d ≡ get_or rows place d
  from_place k d e apart lt =
      others_stay mid place other inside_mid k d apart (omega (arith, long, lt)) ∙ ap (λ (n : ℕ). get_or mid n d) e ∙ swapped_first rows at place (omega arith) inside d

  from_same : (k : ℕ) (d : Row) → k ≢ at → k ≢ place → k < length rows - 1 → get_or (swap_remove mid place other) k d ≡ get_or rows k d
  from_same k d not_at apart lt =
      others_stay mid place other inside_mid k d apart (omega (arith, long, lt)) ∙ swapped_other rows at place (omega arith) inside k d not_at apart

  pub behind_swapped : (k : ℕ) → at ≤ k → k < length rows - 1 → StoodBehind rows at (swap_remove mid place other) k
  behind_swapped k le lt = by_place (either k place) (either k at) where
    by_place : (k ≡ place) ⊎ (k ≢ place) → (k ≡ at) ⊎ (k ≢ at) → StoodBehind rows at (swap_remove mid place other) k
    by_place (inl e) here = record {
      from = length rows - 1;
      behind = omega (arith, e, order, lt);
      within = omega (arith, lt);
      same = λ d. ap (λ (n : ℕ). get_or (swap_remove mid place other) n d) e ∙ from_last d (omega (arith, e, lt));
    }
    by_place (inr apart) (inl e) = record {
      from = place;
      behind = omega (arith, past at place order (λ same. apart (e ∙ sym same)));
      within = inside;
      same = λ d. from_place k d e apart lt;
    }
    by_place (inr apart) (inr not_at) = record {
      from = k;
      behind = omega (arith, past at k le not_at);
      within = omega (arith, lt);
      same = λ d. from_same k d not_at apart lt;
    }

-- what a removal leaves
pub record Removal (rows : List Row) (at : ℕ) (new : List Row) : Type 0 where
  pub other : Row
  pub is : new ≡ swap_remove rows at other
  pub long : length new + 1 ≡ length rows

pub removal_from : (rows swapped new : List Row) (at place : ℕ) → swapped ≡ swap rows at place → Removal swapped place new → Removal (swap rows at place) place new
removal_from rows swapped new at place is r = subst (λ (l : List Row). Removal l place new) is r

module _ (rows new : List Row) (at : ℕ) (inside : at < length rows) (r : Removal rows at new) where
  pub plain_taken : IsTakenOut rows at new
  plain_taken = subst (IsTakenOut rows at) (sym r.is) (taken_plain rows at r.other inside)

  pub plain_behind : (k : ℕ) → at ≤ k → k < length new → StoodBehind rows at new k
  plain_behind k le lt = subst (λ (l : List Row). StoodBehind rows at l k) (sym r.is) (behind_plain rows at r.other inside k le (omega (arith, lt, r.long)))

module _ (rows new : List Row) (at place : ℕ) (order : at ≤ place) (inside : place < length rows) (r : Removal (swap rows at place) place new) where
  pub swapped_taken : IsTakenOut rows at new
  swapped_taken = subst (IsTakenOut rows at) (sym r.is) (taken_swapped rows at place r.other (omega (arith, order, inside)) inside)

  pub swapped_len : length new + 1 ≡ length rows
  swapped_len = omega (arith, r.long, length-swap rows at place)

  pub swapped_behind : (k : ℕ) → at ≤ k → k < length new → StoodBehind rows at new k
  swapped_behind k le lt = subst (λ (l : List Row). StoodBehind rows at l k) (sym r.is)
      (behind_swapped rows at place r.other order inside k le (omega (arith, lt, swapped_len)))

-- ---- what stands in front

module _ (early : ℕ) (rows : List Row) (front : IsFront early rows) where
  -- where a row behind them is taken out
  pub front_taken : (at : ℕ) (other : Row) (new : List Row) → early ≤ at → at < length rows → new ≡ swap_remove rows at other → length new + 1 ≡ length rows
      → IsFront early new
  front_taken at other new le inside is long = record {
    within = omega (arith, le, inside, long);
    success = λ k d from lt. ap (λ (l : List Row). (get_or l k d).1.has_success) is ∙ by_place k d from (omega (arith, lt, long)) (either k at);
  } where
    by_place : (k : ℕ) (d : Row) → early ≤ k → k < length rows - 1 → (k ≡ at) ⊎ (k ≢ at) → (get_or (swap_remove rows at other) k d).1.has_success ≡ true
    by_place k d from lt (inl e) =
        ap (λ (r : Row). r.1.has_success) (ap (λ (n : ℕ). get_or (swap_remove rows at other) n d) e ∙ last_there rows at other inside d (omega (arith, e, lt)))
        ∙ front.success (length rows - 1) d (omega (arith, from, lt)) (omega (arith, lt))
    by_place k d from lt (inr apart) = ap (λ (r : Row). r.1.has_success) (others_stay rows at other inside k d apart lt) ∙ front.success k d from (omega (arith, lt))

  -- where one of them is, and the last of them takes its place
  pub front_less : (at place : ℕ) (other : Row) (new : List Row) → at < early → early ≡ place + 1 → new ≡ swap_remove (swap rows at place) place other
      → length new + 1 ≡ length rows → IsFront place new
  front_less at place other new below one is long = record {
    within = omega (arith, front.within, one, long);
    success = λ k d from lt. ap (λ (l : List Row). (get_or l k d).1.has_success) is ∙ by_place k d from (omega (arith, lt, long)) (either k place);
  } where
    by_place : (k : ℕ) (d : Row) → place ≤ k → k < length rows - 1 → (k ≡ place) ⊎ (k ≢ place)
        → (get_or (swap_remove (swap rows at place) place other) k d).1.has_success ≡ true
    by_place k d from lt (inl e) =
        ap (λ (r : Row). r.1.has_success)
        (ap (λ (n : ℕ). get_or (swap_remove (swap rows at place) place other) n d) e ∙ from_last rows at place other (omega (arith, below, one))
        (omega (arith, front.within, one)) d (omega (arith, e, lt)))
        ∙ front.success (length rows - 1) d (omega (arith, e, one, lt)) (omega (arith, lt))
    by_place k d from lt (inr apart) =
        ap (λ (r : Row). r.1.has_success) (from_same rows at place other (omega (arith, below, one)) (omega (arith, front.within, one)) k d
        (λ e. absurd (omega (arith, past place k from apart, e, below, one))) apart lt)
        ∙ front.success k d (omega (arith, past place k from apart, one)) (omega (arith, lt))

  -- where one of them has a 2xx now, and goes behind them
  pub front_settled : (at place : ℕ) (s : Row) → at < early → early ≡ place + 1 → slice_get rows at ≡ Some s → s.1.has_success ≡ true → IsFront place (swap rows at place)
  front_settled at place s below one there success = record {
    within = omega (arith, front.within, one, length-swap rows at place);
    success = λ k d from lt. by_place k d from (omega (arith, lt, length-swap rows at place)) (either k place);
  } where
    inside_at : at < length rows
    inside_at = omega (arith, below, front.within)

    inside : place < length rows
    inside = omega (arith, one, front.within)

    by_place : (k : ℕ) (d : Row) → place ≤ k → k < length rows → (k ≡ place) ⊎ (k ≢ place) → (get_or (swap rows at place) k d).1.has_success ≡ true
    by_place k d from lt (inl e) =
        ap (λ (r : Row). r.1.has_success) (ap (λ (n : ℕ). get_or (swap rows at place) n d) e ∙ swapped_second rows at place inside_at inside d)
        ∙ ap (λ (r : Row). r.1.has_success) (get_or_from_slice_get rows at s d there) ∙ success
    by_place k d from lt (inr apart) =
        ap (λ (r : Row). r.1.has_success) (swapped_other rows at place inside_at inside k d (λ e. absurd (omega (arith, past place k from apart, e, below, one))) apart)
        ∙ front.success k d (omega (arith, past place k from apart, one)) lt

  -- where one more stands at the end, which has a 2xx
  pub front_more : (row : Row) (new : List Row) → new ≡ rows ++ row ∷ [] → row.1.has_success ≡ true → IsFront early new
  front_more row new is success = record {
    within = omega (arith, front.within, ap (λ (l : List Row). length l) is, length-append rows (row ∷ []));
    success = λ k d from lt. ap (λ (l : List Row). (get_or l k d).1.has_success) is
        ∙ by_place k d from (omega (arith, lt, ap (λ (l : List Row). length l) is, length-append rows (row ∷ []))) (either k (length rows));
  } where
    by_place : (k : ℕ) (d : Row) → early ≤ k → k < length rows + 1 → (k ≡ length rows) ⊎ (k ≢ length rows) → (get_or (rows ++ row ∷ []) k d).1.has_success ≡ true
    by_place k d from lt (inl e) = ap (λ (r : Row). r.1.has_success) (get_or_at rows row [] d k (sym e)) ∙ success
    by_place k d from lt (inr apart) = ap (λ (r : Row). r.1.has_success) (get_or_append_left rows (row ∷ []) d k (under k (length rows) lt apart))
        ∙ front.success k d from (under k (length rows) lt apart)

  -- and where one more stands among them
  pub front_one_more : (row : Row) (pushed new : List Row) → pushed ≡ rows ++ row ∷ [] → new ≡ swap pushed early (length rows) → IsFront (early + 1) new
  front_one_more row pushed new pushed_is is = record {
    within = omega (arith, front.within, long, ap (λ (l : List Row). length l) is, length-swap pushed early (length rows));
    success = λ k d from lt. ap (λ (l : List Row). (get_or l k d).1.has_success) is
        ∙ by_place k d from (omega (arith, lt, long, ap (λ (l : List Row). length l) is, length-swap pushed early (length rows))) (either k (length rows));
  } where
    long : length pushed ≡ length rows + 1
    long = omega (arith, ap (λ (l : List Row). length l) pushed_is, length-append rows (row ∷ []))

    before : (k : ℕ) (d : Row) → k < length rows → get_or pushed k d ≡ get_or rows k d
    before k d lt = ap (λ (l : List Row). get_or l k d) pushed_is ∙ get_or_append_left rows (row ∷ []) d k lt

    by_place : (k : ℕ) (d : Row) → early + 1 ≤ k → k < length rows + 1 → (k ≡ length rows) ⊎ (k ≢ length rows)
        → (get_or (swap pushed early (length rows)) k d).1.has_success ≡ true
    by_place k d from lt (inl e) =
        ap (λ (r : Row). r.1.has_success)
        (ap (λ (n : ℕ). get_or (swap pushed early (length rows)) n d) e ∙ swapped_second pushed early (length rows) (omega (arith, front.within, long))
        (omega (arith, long)) d ∙ before early d (omega (arith, from, e)))
        ∙ front.success early d (omega arith) (omega (arith, from, e))
    by_place k d from lt (inr apart) =
        ap (λ (r : Row). r.1.has_success)
        (swapped_other pushed early (length rows) (omega (arith, front.within, long)) (omega (arith, long)) k d (λ e. absurd (omega (arith, e, from))) apart
        ∙ before k d (under k (length rows) lt apart))
        ∙ front.success k d (omega (arith, from)) (under k (length rows) lt apart)

-- where a row is set, which has a 2xx where it had one
pub front_set : (early : ℕ) (rows : List Row) (at : ℕ) (x y : Row) → IsFront early rows → slice_get rows at ≡ Some x → (x.1.has_success ≡ true → y.1.has_success ≡ true)
    → IsFront early (set rows at y)
front_set early rows at x y front there keeps = record {
  within = omega (arith, front.within, length-set rows at y);
  success = λ k d from lt. by_place k d from (omega (arith, lt, length-set rows at y)) (either k at);
} where
  by_place : (k : ℕ) (d : Row) → early ≤ k → k < length rows → (k ≡ at) ⊎ (k ≢ at) → (get_or (set rows at y) k d).1.has_success ≡ true
  by_place k d from lt (inl e) =
      ap (λ (r : Row). r.1.has_success) (ap (λ (n : ℕ). get_or (set rows at y) n d) e ∙ get_or-set_same rows at y d (slice_get_within rows at x there))
      ∙ keeps (ap (λ (r : Row). r.1.has_success) (sym (ap (λ (n : ℕ). get_or rows n d) e ∙ get_or_from_slice_get rows at x d there)) ∙ front.success k d from lt)
  by_place k d from lt (inr apart) = ap (λ (r : Row). r.1.has_success) (get_or-set_other rows at k y d apart) ∙ front.success k d from lt
