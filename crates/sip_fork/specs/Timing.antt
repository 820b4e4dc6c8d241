-- Why the timers of an open request stand, and which moments they stand for (RFC 3261 17).
use Rattle.std.specs.Prelude.{ℕ, ◌≡◌, ◌≤◌, Some}
use Rattle.std.specs.List.{AllByRecursion}
use Rattle.sip_dialog_updates.specs.state.declared.branch.Branch.{Branch}
use Rattle.sip_dialog_updates.specs.state.declared.open_request.OpenRequest.{OpenRequest}
use Rattle.sip_dialog_updates.specs.state.State.{is_invite, phase_deadline, side_deadline}
use Rattle.model_steps.specs.context_model.Retransmission.{answer_due, branch_due}
use Rattle.sip_request.specs.transactions_model.Ties.{IsFor, branch_timers, due_at, side_timers}
use Rattle.sip_request.specs.transactions_model.Fits.{BranchFits, Fits}

-- Each timer of a part has a reason; and where the part fits its transaction, its deadline, and the moment at which it goes
-- again, are those of timers that it names.
pub record Timing : Type 0 where
  pub branch_reasons : (r : OpenRequest) (b : Branch) → AllByRecursion (IsFor (branch_due r b) (phase_deadline b.phase)) (branch_timers r b)
  pub side_reasons : (r : OpenRequest) → AllByRecursion (IsFor (answer_due r) (side_deadline r.side)) (side_timers r)
  pub branch_ends : (r : OpenRequest) (b : Branch) (due : ℕ) → BranchFits (is_invite r) b → phase_deadline b.phase ≡ Some due → 1
      ≤ due_at due (branch_timers r b)
  pub branch_again : (r : OpenRequest) (b : Branch) (due : ℕ) → branch_due r b ≡ Some due → 1 ≤ due_at due (branch_timers r b)
  pub side_ends : (r : OpenRequest) (due : ℕ) → Fits r → side_deadline r.side ≡ Some due → 1 ≤ due_at due (side_timers r)
  pub answer_again : (r : OpenRequest) (due : ℕ) → answer_due r ≡ Some due → 1 ≤ due_at due (side_timers r)
