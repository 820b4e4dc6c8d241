-- Branches, and right behind each the CANCEL that it is sent.
use Rattle.std.proofs.Common.{ℕ, Bool, true, false, cond, List, [], ◌∷◌, ◌++◌, flat_map}
use Rattle.std.specs.List.{AllByRecursion}
use Rattle.model_steps.specs.state.declared.branch.Branch.{Branch}
use Rattle.model_steps.specs.context_model.Branches.{is_cancellable, cancel_branch, held_branch, with_cancel}

-- what holds of each branch, of one that is sent a CANCEL, and of the CANCEL, holds of all of them
pub all_with_cancels : (P Q : Branch → Type 0) (now : ℕ) (bs : List Branch) → ((x : Branch) → P x → Q x) → ((x : Branch) → P x → Q (held_branch now x))
    → ((x : Branch) → P x → Q (cancel_branch now x))
    → AllByRecursion P bs → AllByRecursion Q (flat_map (with_cancel now) bs)
all_with_cancels P Q now [] stays held sent all = tt
all_with_cancels P Q now (b ∷ bs) stays held sent all = by_test (is_cancellable b) (all_with_cancels P Q now bs stays held sent all.1) where
  by_test : (t : Bool) → AllByRecursion Q (flat_map (with_cancel now) bs) → AllByRecursion Q
      (cond t (held_branch now b ∷ cancel_branch now b ∷ []) (b ∷ []) ++ flat_map (with_cancel now) bs)
  by_test true rest = (held b all.0, (sent b all.0, rest))
  by_test false rest = (stays b all.0, rest)
