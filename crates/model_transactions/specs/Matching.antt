-- The branches of an open request before and after an event: those that stay, and the CANCELs that join them (RFC 3261 9.1, 16.10).
use Rattle.std.specs.Prelude.{ℕ, ◌≡◌, ◌≢◌, Bool, true, false, List, [], ◌∷◌, if◌then◌else◌}
use Rattle.std.specs.List.{AllByRecursion}
use Rattle.sip_timers.specs.declared.timer.Owner.{Owner}
use Rattle.sip_context_branches.specs.context_model.Branches.{is_same_branch}
use Rattle.sip_context_branches.specs.state.declared.branch.Branch.{Branch}
use Rattle.sip_context_branches.specs.state.declared.branch.Phase.{Phase}
use Rattle.sip_context_branches.specs.state.declared.branch.Phase.TheVariants.{Unheard, Heard, Cancelled, Done, Ended}
use Rattle.model_transactions.specs.Ties.{owner_of}

-- ---- branches that stay, and those that join them

-- none of some branches has timers of this owner
abbrev pub IsAlone : Owner → List Branch → Type 0
IsAlone owner bs = AllByRecursion (λ b. owner_of b ≢ owner) bs

-- the first of some branches is this one
abbrev pub is_next : List Branch → Branch → Bool
is_next [] b = false
is_next (w ∷ ws) b = is_same_branch w b

-- the branches that are left once it was met
abbrev pub past : List Branch → Branch → List Branch
past [] b = []
past (w ∷ ws) b = if is_same_branch w b then ws else w ∷ ws

-- Each branch is the first of those before that are left, and no further one, or it is none of them.
abbrev pub AreMatched : List Branch → List Branch → Type 0
AreMatched ws [] = Unit {0}
AreMatched ws (b ∷ bs) =
    IsAlone (owner_of b) (past ws b) × (is_next ws b ≡ true → IsAlone (owner_of b) bs)
    × AreMatched (past ws b) bs

-- ---- branches with their CANCELs

-- whether a branch may still be sent a CANCEL: it has no final answer, and was sent none
abbrev pub may_be_cancelled : Phase → Bool
may_be_cancelled (Unheard due) = true
may_be_cancelled (Heard due) = true
may_be_cancelled (Cancelled due) = false
may_be_cancelled (Done due status) = false
may_be_cancelled Ended = false

-- no branch has this number
abbrev pub IsNewNumber : ℕ → List Branch → Type 0
IsNewNumber number bs = AllByRecursion (λ b. b.number ≢ number) bs

-- Branches to targets, each with a number of its own, and right behind some of them the CANCEL that was sent to it.
pub data AreBranched : List Branch → Type 0 where
  NoBranch : AreBranched []
  OneBranch : (b : Branch) (bs : List Branch) → b.is_cancel ≡ false → IsNewNumber b.number bs → AreBranched bs → AreBranched (b ∷ bs)
  WithCancel : (b c : Branch) (bs : List Branch) → b.is_cancel ≡ false → c.is_cancel ≡ true → c.number ≡ b.number
      → may_be_cancelled b.phase ≡ false → IsNewNumber b.number bs → AreBranched bs
      → AreBranched (b ∷ c ∷ bs)
