-- Lists whose elements are replaced one by one.
use Rattle.std.proofs.Common.{◌≡◌, ℕ, zero, suc, ◌+◌, ◌<◌, List, [], ◌∷◌, ◌++◌, length, map, take, drop, refl, ap, arith, slice_set, slice_index_or, Bool, true, false}
use Rattle.std.proofs.Common.{cond}
use Rattle.std.specs.Prelude.{count_by}
use Rattle.std.specs.List.{flat_map}
use Rattle.std.proofs.lemmas.List.Sums.{sum_by-cons}
use Rattle.model_context.specs.state.declared.branch.Branch.{Branch}
use Rattle.model_context.specs.Branches.{is_cancellable, cancel_branch, held_branch, with_cancel}

pub set_map : {X : Type 0} (f : X → X) (xs : List X) (i : ℕ) (d : X) → i < length xs
    → slice_set (map f (take i xs) ++ drop i xs) i (f (slice_index_or (map f (take i xs) ++ drop i xs) i d)) ≡ map f (take (suc i) xs) ++ drop (suc i) xs
set_map f [] i d lt = absurd (omega arith)
set_map f (x ∷ xs) zero d lt = refl
set_map f (x ∷ xs) (suc i) d lt = ap (λ ys. f x ∷ ys) (set_map f xs i d (omega arith))

-- one more element is replaced
pub one_more : {X : Type 0} (f : X → X) (xs ys : List X) (i : ℕ) (y d : X) → ys ≡ map f (take i xs) ++ drop i xs → i < length xs → y ≡ f (slice_index_or ys i d)
    → slice_set ys i y ≡ map f (take (i + 1) xs) ++ drop (i + 1) xs
one_more f xs ys i y d is lt made = let n : i + 1 ≡ suc i = omega arith in rw (n, made, is) (set_map f xs i d lt)

-- one more that may pass a test
counted : {X : Type 0} (p : X → Bool) (x : X) (xs : List X) → count_by p (x ∷ xs) ≡ cond (p x) 1 0 + count_by p xs
counted p x xs = sum_by-cons (λ y. cond (p y) 1 0) x xs

-- where no branch is sent a CANCEL they stay as they are
pub none_cancelled : (now : ℕ) (branches : List Branch) → count_by is_cancellable branches ≡ 0 → flat_map (with_cancel now) branches ≡ branches
none_cancelled now [] none = refl
none_cancelled now (b ∷ bs) none = by_test (is_cancellable b) (counted is_cancellable b bs) (λ h. none_cancelled now bs h) where
  by_test : (t : Bool) → count_by is_cancellable (b ∷ bs) ≡ cond t 1 0 + count_by is_cancellable bs
      → (count_by is_cancellable bs ≡ 0 → flat_map (with_cancel now) bs ≡ bs)
      → cond t (held_branch now b ∷ cancel_branch now b ∷ []) (b ∷ []) ++ flat_map (with_cancel now) bs ≡ b ∷ bs
  by_test true e rest = absurd (omega arith)
  by_test false e rest = ap (λ (v : List Branch). b ∷ v) (rest (omega arith))
