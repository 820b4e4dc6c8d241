use Rattle.std.proofs.Common.{◌≡◌, ℕ, ◌≤◌, Bool, true, false, Some, refl}
use Rattle.std.specs.Prelude.{◌&&◌, not}
use Rattle.sip_dialog_updates.specs.state.declared.branch.Branch.{Branch}
use Rattle.sip_dialog_updates.specs.state.declared.open_request.OpenRequest.{OpenRequest}
use Rattle.sip_dialog_updates.specs.state.State.{is_invite, phase_deadline, side_deadline}
use Rattle.sip_request.specs.transactions_model.Fits.{BranchFits, Fits, HasOtherClient, HasOtherServer}
use Rattle.sip_request.specs.transactions_model.Ties.{branch_timers, due_at, side_timers}
use Rattle.sip_fork.proofs.timing.timers_stand_for_moments.Goals as goal

pub returns : goal.returns
returns c = record {
  branch_reasons = c.timers_have_reasons.ensures.branch;
  side_reasons = c.timers_have_reasons.ensures.side;
  branch_ends = λ r b due fits e. branch r b due fits e (is_invite r && not b.is_cancel) refl;
  branch_again = c.moments_are_named.ensures.branch_again;
  side_ends = λ r due fits e. side r due fits e (is_invite r) refl;
  answer_again = c.moments_are_named.ensures.answer_again;
} where
  branch : (r : OpenRequest) (b : Branch) (due : ℕ) → BranchFits (is_invite r) b → phase_deadline b.phase ≡ Some due → (t : Bool) → (is_invite r && not b.is_cancel) ≡ t
      → 1 ≤ due_at due (branch_timers r b)
  branch r b due fits e true is = c.moments_are_named.ensures.invite r b due is e
  branch r b due fits e false is = let has : HasOtherClient b = c.branches_have_states.ensures.other r b fits is in
      c.moments_are_named.ensures.other r b due has.state is has.runs e

  side : (r : OpenRequest) (due : ℕ) → Fits r → side_deadline r.side ≡ Some due → (t : Bool) → is_invite r ≡ t → 1 ≤ due_at due (side_timers r)
  side r due fits e true is = c.moments_are_named.ensures.invite_side r due is e
  side r due fits e false is = let has : HasOtherServer r = c.sides_have_states.ensures.other r fits is in
      c.moments_are_named.ensures.other_side r due has.state is has.runs e
