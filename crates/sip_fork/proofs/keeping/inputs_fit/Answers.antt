use Rattle.std.proofs.Common.{ℕ, ◌+◌, ◌<◌, ◌≤◌, ◌^◌, arith}
use Rattle.sip_dialog_updates.specs.state.declared.open_request.OpenRequest.{OpenRequest}
use Rattle.sip_context.specs.declared.input.Input.{Input}
use Rattle.sip_context.specs.declared.input.Input.TheVariants.{Response, BranchDeadline, SideDeadline, SendFault, Cancel, Ack, BranchAgain, AnswerAgain}
use Rattle.sip_context.specs.Inputs.{IsFit}
use Rattle.sip_request.specs.transactions_model.Near.{IsWithin}
use Rattle.sip_fork.specs.Keeping.{IsOf}
use Rattle.sip_fork.proofs.keeping.inputs_fit.Goals as goal

-- 32,000 ms behind a near moment is one of 64 bits
room : (bound due : ℕ) → bound < 2 ^ 62 → due ≤ bound + 185000 → due + 32000 < 2 ^ 64
room bound due early near = omega arith

pub returns : goal.returns
returns c = by_input where
  by_input : (bound now : ℕ) (r : OpenRequest) (input : Input) → bound < 2 ^ 62 → IsWithin bound r → IsOf r now input → IsFit r input
  by_input bound now r (Response branch status response) early within of = c.leaves_room.ensures.branch bound branch.now early
      (c.branches_are_within.ensures.each bound r branch.now within of)
  by_input bound now r (BranchDeadline branch) early within of = tt
  by_input bound now r SideDeadline early within of = tt
  by_input bound now r (SendFault branch) early within of = tt
  by_input bound now r Cancel early within of = tt
  by_input bound now r Ack early within of = tt
  by_input bound now r (BranchAgain branch) early within of = room bound branch.now.again.due early
      (c.branches_are_within.ensures.each bound r branch.now within of.there).again_near
  by_input bound now r AnswerAgain early within of = room bound r.again.due early within.again_near
