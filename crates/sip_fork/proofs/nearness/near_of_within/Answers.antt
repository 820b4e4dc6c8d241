use Rattle.std.proofs.Common.{ℕ, ◌+◌, ◌<◌, ◌≤◌, ◌^◌, List, [], ◌∷◌, arith}
use Rattle.std.specs.List.{AllByRecursion}
use Rattle.sip_timers.specs.declared.letter.Letter.{Letter}
use Rattle.sip_request.specs.Near.{AreBefore}
use Rattle.sip_request.specs.transactions_model.Near.{IsBranchWithin}
use Rattle.sip_fork.proofs.nearness.near_of_within.Goals as goal

-- what follows for each element follows for all
all_weaker : {X : Type 0} (P Q : X → Type 0) → ((x : X) → P x → Q x) → (xs : List X) → AllByRecursion P xs → AllByRecursion Q xs
all_weaker P Q f [] all = tt
all_weaker P Q f (x ∷ xs) all = (f x all.0, all_weaker P Q f xs all.1)

-- timers at near moments are due before a moment further away
before : (bound moment : ℕ) → bound + 185000 < moment → (ts : List (Letter × ℕ)) → AllByRecursion (λ (t : Letter × ℕ). t.1 ≤ bound + 185000) ts → AreBefore moment ts
before bound moment far ts near = all_weaker (λ (t : Letter × ℕ). t.1 ≤ bound + 185000) (λ (t : Letter × ℕ). t.1 < moment) (λ t e. earlier t.1 e) ts near where
  earlier : (due : ℕ) → due ≤ bound + 185000 → due < moment
  earlier due e = omega arith

soon : (bound reached : ℕ) → bound ≤ reached + 1 → bound + 185000 < reached + 2 ^ 30
soon bound reached later = omega arith

early : (bound : ℕ) → bound < 2 ^ 62 → bound + 185000 < 2 ^ 64
early bound few = omega arith

pub returns-clause-before : goal.returns-clause-before
returns-clause-before c = λ bound moment r far within.
    record {
      side = before bound moment far _ (c.timers_are_near.ensures.side bound r within);
      branches = all_weaker (IsBranchWithin bound) _ (λ b h. before bound moment far _ (c.timers_are_near.ensures.branch bound r b h)) r.branches within.branches_within;
    }

pub returns-clause-set : goal.returns-clause-set
returns-clause-set c = λ bound reached r later within. returns-clause-before c bound (reached + 2 ^ 30) r (soon bound reached later) within

pub returns-clause-counted : goal.returns-clause-counted
returns-clause-counted c = λ bound r few within. returns-clause-before c bound (2 ^ 64) r (early bound few) within
