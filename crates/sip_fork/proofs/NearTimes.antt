-- The timers of an open request whose moments are near can be set.
use Rattle.std.proofs.Common.{ℕ, ◌+◌, ◌<◌, ◌≤◌, Bool, true, false, cond, List, [], ◌∷◌, ◌++◌, Option, arith}
use Rattle.std.specs.Prelude.{◌&&◌, not}
use Rattle.std.specs.List.{AllByRecursion}
use Rattle.sip_timers.specs.declared.letter.Letter.TheVariants as By
use Rattle.sip_dialog_updates.specs.state.State.{is_invite, is_success}
use Rattle.sip_dialog_updates.specs.state.declared.branch.Branch.{Branch}
use Rattle.sip_dialog_updates.specs.state.declared.branch.Phase.{Phase}
use Rattle.sip_dialog_updates.specs.state.declared.branch.Phase.TheVariants.{Unheard, Heard, Cancelled, Done, Ended}
use Rattle.sip_dialog_updates.specs.state.declared.open_request.LastAnswer.{LastAnswer}
use Rattle.sip_dialog_updates.specs.state.declared.open_request.OpenRequest.{OpenRequest}
use Rattle.sip_dialog_updates.specs.state.declared.open_request.Side.{Side}
use Rattle.sip_dialog_updates.specs.state.declared.open_request.Side.TheVariants.{Answering, Closing, Acknowledged, Closed}
use Rattle.sip_dialog_updates.specs.state.declared.resend.Resend.{Resend}
use Rattle.model_steps.specs.context_model.Branches.{was_refused}
use Rattle.sip_request.specs.transactions_model.InviteClient.{invite_timers, call_timers}
use Rattle.sip_request.specs.transactions_model.OtherClient.{other_timers}
use Rattle.sip_request.specs.transactions_model.InviteServer.{invite_side_timers}
use Rattle.sip_request.specs.transactions_model.OtherServer.{other_side_timers}
use Rattle.sip_request.specs.transactions_model.Near.{IsBranchWithin, IsPhaseNear, IsSideNear, IsWithin}
use Rattle.sip_request.specs.transactions_model.Ties.{branch_timers, side_timers}
use Rattle.sip_request.specs.Near.{AreBefore, IsNear}

-- of a bound, timers are due before a moment more than 185,000 ms behind it
module _ (bound moment : ℕ) (far : bound + 185000 < moment) where
  before_invite : (phase : Phase) (again : Resend) → IsPhaseNear bound phase → again.due ≤ bound + 185000
      → AreBefore moment (invite_timers phase again ++ call_timers phase)
  before_invite (Unheard until) again near soon = (omega (arith, soon, far), (omega (arith, near, far), (omega (arith, near, far), tt)))
  before_invite (Heard until) again near soon = (omega (arith, near, far), tt)
  before_invite (Cancelled until) again near soon = (omega (arith, near, far), tt)
  before_invite (Done until status) again near soon = by_test (is_success status) where
    by_test : (t : Bool) → AreBefore moment (cond t ((By.M, until) ∷ []) ((By.D, until) ∷ []) ++ [])
    by_test true = (omega (arith, near, far), tt)
    by_test false = (omega (arith, near, far), tt)
  before_invite Ended again near soon = tt

  before_other : (phase : Phase) (again : Resend) → IsPhaseNear bound phase → again.due ≤ bound + 185000 → AreBefore moment (other_timers phase again)
  before_other (Unheard until) again near soon = (omega (arith, soon, far), (omega (arith, near, far), tt))
  before_other (Heard until) again near soon = (omega (arith, soon, far), (omega (arith, near, far), tt))
  before_other (Cancelled until) again near soon = tt
  before_other (Done until status) again near soon = (omega (arith, near, far), tt)
  before_other Ended again near soon = tt

  before_branch : (r : OpenRequest) (b : Branch) → IsBranchWithin bound b → AreBefore moment (branch_timers r b)
  before_branch r b h = by_test (is_invite r && not b.is_cancel) where
    by_test : (t : Bool) → AreBefore moment (cond t (invite_timers b.phase b.again ++ call_timers b.phase) (other_timers b.phase b.again))
    by_test true = before_invite b.phase b.again h.phase_near h.again_near
    by_test false = before_other b.phase b.again h.phase_near h.again_near

  before_branches : (r : OpenRequest) (bs : List Branch) → AllByRecursion (IsBranchWithin bound) bs
      → AllByRecursion (λ (b : Branch). AreBefore moment (branch_timers r b)) bs
  before_branches r [] all = tt
  before_branches r (b ∷ bs) all = (before_branch r b all.0, before_branches r bs all.1)

  before_invite_side : (side : Side) (answer : Option LastAnswer) (again : Resend) → IsSideNear bound side → again.due ≤ bound + 185000
      → AreBefore moment (invite_side_timers side answer again)
  before_invite_side Answering answer again near soon = tt
  before_invite_side (Closing until) answer again near soon = by_test (was_refused answer) where
    by_test : (t : Bool) → AreBefore moment (cond t ((By.G, again.due) ∷ (By.H, until) ∷ []) ((By.L, until) ∷ []))
    by_test true = (omega (arith, soon, far), (omega (arith, near, far), tt))
    by_test false = (omega (arith, near, far), tt)
  before_invite_side (Acknowledged until) answer again near soon = (omega (arith, near, far), tt)
  before_invite_side Closed answer again near soon = tt

  before_other_side : (side : Side) → IsSideNear bound side → AreBefore moment (other_side_timers side)
  before_other_side Answering near = tt
  before_other_side (Closing until) near = (omega (arith, near, far), tt)
  before_other_side (Acknowledged until) near = tt
  before_other_side Closed near = tt

  before_side : (r : OpenRequest) → IsWithin bound r → AreBefore moment (side_timers r)
  before_side r h = by_test (is_invite r) where
    by_test : (t : Bool) → AreBefore moment (cond t (invite_side_timers r.side r.answer r.again) (other_side_timers r.side))
    by_test true = before_invite_side r.side r.answer r.again h.side_near h.again_near
    by_test false = before_other_side r.side h.side_near

  pub IsNear-within : (r : OpenRequest) → IsWithin bound r → IsNear moment r
  IsNear-within r h = record { side = before_side r h; branches = before_branches r r.branches h.branches_within }
