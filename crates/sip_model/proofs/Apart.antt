-- No two branches of a request go to one target: their numbers tell them apart.
use Rattle.std.proofs.Common.{◌≡◌, inl, inr, ℕ, ◌+◌, ◌≤◌, ◌<◌, Bool, true, false, not, ◌&&◌, ◌==◌, cond, List, [], ◌∷◌, ◌++◌, map, flat_map, refl, sym, ap, ap₂, ◌∙◌}
use Rattle.std.proofs.Common.{arith, count_by}
use Rattle.std.proofs.lemmas.Bool.Decides.{nat_tests}
use Rattle.sip_targets.specs.declared.target.Target.{Target}
use Rattle.model_steps.specs.state.declared.branch.Branch.{Branch}
use Rattle.model_steps.specs.context_model.Branches.{is_cancellable, cancel_branch, held_branch, with_cancel}
use Rattle.model_steps.specs.context_model.Opening.{branch_to, branches_from}
use Rattle.sip_model.proofs.Places.{IsIn, count_cons, one_at, none_at, counts_in, same_number}

-- whether a branch goes to the target of this number
abbrev pub goes_to : ℕ → Branch → Bool
goes_to number b = b.number == number && not b.is_cancel

-- no number is that of two branches to targets
abbrev pub TargetsDiffer : List Branch → Type 0
TargetsDiffer bs = (number : ℕ) → count_by (goes_to number) bs ≤ 1

-- ---- changes

-- a change that keeps where each branch goes keeps how many go to a target
count_edited : (number : ℕ) (edit : Branch → Branch) → ((x : Branch) → goes_to number (edit x) ≡ goes_to number x) → (bs : List Branch)
    → count_by (goes_to number) (map edit bs) ≡ count_by (goes_to number) bs
count_edited number edit keeps [] = refl
count_edited number edit keeps (b ∷ bs) =
    let here = ap (λ (t : Bool). cond {A = ℕ} t 1 0) (keeps b) in
    omega (arith, count_cons (goes_to number) (edit b) (map edit bs), count_cons (goes_to number) b bs, here, count_edited number edit keeps bs)

-- it keeps them apart
pub differ_edited : (edit : Branch → Branch) → ((number : ℕ) (x : Branch) → goes_to number (edit x) ≡ goes_to number x) → (bs : List Branch) → TargetsDiffer bs
    → TargetsDiffer (map edit bs)
differ_edited edit keeps bs h = λ number. omega (arith, count_edited number edit (keeps number) bs, h number)

-- a CANCEL goes to no target
no_target : (number now : ℕ) (b : Branch) → goes_to number (cancel_branch now b) ≡ false
no_target number now b = by_test (b.number == number) where
  by_test : (t : Bool) → (t && false) ≡ false
  by_test true = refl
  by_test false = refl

-- so CANCELs add none that does
count_with_cancels : (number now : ℕ) (bs : List Branch) → count_by (goes_to number) (flat_map (with_cancel now) bs) ≡ count_by (goes_to number) bs
count_with_cancels number now [] = refl
count_with_cancels number now (b ∷ bs) = by_test (is_cancellable b) (count_with_cancels number now bs) where
  by_test : (t : Bool) → count_by (goes_to number) (flat_map (with_cancel now) bs) ≡ count_by (goes_to number) bs
      → count_by (goes_to number) (cond t (held_branch now b ∷ cancel_branch now b ∷ []) (b ∷ []) ++ flat_map (with_cancel now) bs) ≡ count_by (goes_to number) (b ∷ bs)
  by_test true rest =
      omega (
        arith,
        rest,
        count_cons (goes_to number) b bs,
        count_cons (goes_to number) (held_branch now b) (cancel_branch now b ∷ flat_map (with_cancel now) bs),
        count_cons (goes_to number) (cancel_branch now b) (flat_map (with_cancel now) bs),
        none_at (goes_to number (cancel_branch now b)) (no_target number now b),
      )
  by_test false rest = omega (arith, rest, count_cons (goes_to number) b bs, count_cons (goes_to number) b (flat_map (with_cancel now) bs))

-- and keep them apart
pub differ_with_cancels : (now : ℕ) (bs : List Branch) → TargetsDiffer bs → TargetsDiffer (flat_map (with_cancel now) bs)
differ_with_cancels now bs h = λ number. omega (arith, count_with_cancels number now bs, h number)

-- ---- the branches of a new request

-- one that passes a test or doesn't
pub at_most_one : (t : Bool) → cond {A = ℕ} t 1 0 ≤ 1
at_most_one true = omega arith
at_most_one false = omega arith

-- one branch
pub one_differs : (b : Branch) → TargetsDiffer (b ∷ [])
one_differs b = λ number. let none : count_by (goes_to number) [] ≡ 0 = refl in omega (arith, count_cons (goes_to number) b [], at_most_one (goes_to number b), none)

-- no number is below the first
from_above : (number now first : ℕ) (targets : List Target) → number < first → count_by (goes_to number) (branches_from now first targets) ≡ 0
from_above number now first [] low = refl
from_above number now first (t ∷ ts) low =
    let b : Branch = branch_to now first t in
    let other : goes_to number b ≡ false = ap (λ (u : Bool). u && true) (differs first number low) in
    omega (
      arith,
      count_cons (goes_to number) b (branches_from now (first + 1) ts),
      none_at (goes_to number b) other,
      from_above number now (first + 1) ts (omega arith),
    ) where
      differs : (a b : ℕ) → b < a → (a == b) ≡ false
      differs a b lt = grind (arith, nat_tests)

-- those to targets are numbered one after another
pub from_differ : (now first : ℕ) (targets : List Target) → TargetsDiffer (branches_from now first targets)
from_differ now first [] = λ number. omega arith
from_differ now first (t ∷ ts) = λ number. by_test (from_differ now (first + 1) ts) number (first == number) refl where
  b : Branch
  b = branch_to now first t

  by_test : TargetsDiffer (branches_from now (first + 1) ts) → (number : ℕ) (u : Bool) → (first == number) ≡ u
      → count_by (goes_to number) (b ∷ branches_from now (first + 1) ts) ≤ 1
  by_test rest number true is =
      let same : first ≡ number = grind (arith, nat_tests) in
      omega (
        arith,
        count_cons (goes_to number) b (branches_from now (first + 1) ts),
        at_most_one (goes_to number b),
        from_above number now (first + 1) ts (omega (arith, same)),
      )
  by_test rest number false is =
      omega (arith, count_cons (goes_to number) b (branches_from now (first + 1) ts), none_at (goes_to number b) (ap (λ (u : Bool). u && true) is), rest number)

-- ---- one branch for each target

-- a branch to a target goes to the target of its number
goes_to_own : (b : Branch) (number : ℕ) → b.number ≡ number → b.is_cancel ≡ false → goes_to number b ≡ true
goes_to_own b number e target = ap₂ (λ (t u : Bool). t && not u) (same_number b.number number e) target

-- two branches to targets of one number are one
pub only_target : (bs : List Branch) (b c : Branch) → TargetsDiffer bs → IsIn b bs → IsIn c bs → b.is_cancel ≡ false → c.is_cancel ≡ false → b.number ≡ c.number → b ≡ c
only_target [] b c h first second target other same = absurd first
only_target (x ∷ xs) b c h (inl here) (inl there) target other same = sym here ∙ there
only_target (x ∷ xs) b c h (inl here) (inr later) target other same =
    let one = one_at (goes_to c.number x) (ap (goes_to c.number) here ∙ goes_to_own b c.number same target) in
    let another = counts_in (goes_to c.number) xs c later (goes_to_own c c.number refl other) in
    absurd (omega (arith, h c.number, count_cons (goes_to c.number) x xs, one, another))
only_target (x ∷ xs) b c h (inr later) (inl here) target other same =
    let one = one_at (goes_to c.number x) (ap (goes_to c.number) here ∙ goes_to_own c c.number refl other) in
    let another = counts_in (goes_to c.number) xs b later (goes_to_own b c.number same target) in
    absurd (omega (arith, h c.number, count_cons (goes_to c.number) x xs, one, another))
only_target (x ∷ xs) b c h (inr first) (inr second) target other same =
    only_target xs b c (λ number. omega (arith, h number, count_cons (goes_to number) x xs)) first second target other same
