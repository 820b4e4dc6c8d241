-- What an input makes of an open request, and what is sent then: the change of its response context (RFC 3261 16.7 to 16.10, 17), or what
-- goes again.
use Rattle.std.specs.Prelude.{ℕ, ◌<◌, ◌+◌, ◌^◌, true, List, []}
use Rattle.sip_event.specs.declared.packet.Packet.{Packet}
use Rattle.sip_context.specs.state.declared.open_request.OpenRequest.{OpenRequest}
use Rattle.sip_context.specs.state.declared.open_request.Upward.{Upward}
use Rattle.sip_context.specs.state.declared.server.Server.{Server}
use Rattle.sip_context_branches.specs.Early.{IsEarly}
use Rattle.sip_context_branches.specs.context_model.Branches.{Change, responded, overdue, side_overdue, send_failed, cancelled, acknowledged}
use Rattle.sip_context_branches.specs.context_model.Sending.{branch_packets}
use Rattle.sip_context_branches.specs.context_model.Retransmission.{acked_again, answers_again, answer_next, with_resend}
use Rattle.sip_context.specs.declared.input.Input.{Input}
use Rattle.sip_context.specs.declared.input.Input.TheVariants.{Response, BranchDeadline, SideDeadline, SendFault, Cancel, Ack, BranchAgain}
use Rattle.sip_context.specs.declared.input.Input.TheVariants.{AnswerAgain}
use Rattle.sip_context.specs.declared.sent.Sent.{Sent}

-- the request after an input, and what is sent: ACKs, then what goes to the caller, then CANCELs; and what goes again
pub record Outcome : Type 0 where
  pub request : OpenRequest
  pub acks : List Packet
  pub upward : List Upward
  pub cancels : List Packet
  pub copies : List Packet

-- a change of a request, with what goes again beside it
abbrev pub changing : Change → List Packet → Outcome
changing change copies = record { request = change.request; acks = change.acks; upward = change.upward; cancels = change.cancels; copies = copies }

-- what only goes again, and the request after it
abbrev pub repeating : OpenRequest → List Packet → Outcome
repeating r copies = record { request = r; acks = []; upward = []; cancels = []; copies = copies }

-- a request with what is sent of it
abbrev pub outcome : OpenRequest → Sent → Outcome
outcome r sent = record { request = r; acks = sent.acks; upward = sent.upward; cancels = sent.cancels; copies = sent.copies }

-- ---- inputs

-- what an input makes of an open request of a server at a moment
abbrev pub outcome_of : Server → ℕ → OpenRequest → Input → Outcome
outcome_of server now r (Response branch status response) = changing (responded server now r branch.now status response.now)
    (acked_again server r branch.now status)
outcome_of server now r (BranchDeadline branch) = changing (overdue server now r branch.now) []
outcome_of server now r SideDeadline = changing (side_overdue server now r) []
outcome_of server now r (SendFault branch) = changing (send_failed server now r branch.now) []
outcome_of server now r Cancel = changing (cancelled server now r) []
outcome_of server now r Ack = repeating (acknowledged now r) []
outcome_of server now r (BranchAgain branch) = repeating (with_resend branch.now r) (branch_packets server true r branch.now)
outcome_of server now r AnswerAgain = repeating (record r { again = answer_next r }) (answers_again r r.answer)

-- moments that an input counts on from leave room for the next ones, which are numbers of 64 bits
abbrev pub IsFit : OpenRequest → Input → Type 0
IsFit r (Response branch status response) = IsEarly branch.now.phase
IsFit r (BranchDeadline branch) = Unit {0}
IsFit r SideDeadline = Unit {0}
IsFit r (SendFault branch) = Unit {0}
IsFit r Cancel = Unit {0}
IsFit r Ack = Unit {0}
IsFit r (BranchAgain branch) = branch.now.again.due + 32000 < 2 ^ 64
IsFit r AnswerAgain = r.again.due + 32000 < 2 ^ 64
