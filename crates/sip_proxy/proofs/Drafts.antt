-- Inputs, and what is drafted of them.
use Rattle.std.proofs.Common.{◌≡◌, ℕ, List, ap}
use Rattle.sip_forwarding.specs.Forwarding.{IsDraft, IsInputTo}
use Rattle.sip_hops.specs.declared.host_address.HostAddress.{HostAddress}
use Rattle.sip_fork.specs.context.declared.input.Input.{Input}
use Rattle.sip_fork.specs.context.declared.input.Input.TheVariants.{Response, BranchDeadline, SideDeadline, SendFault, Cancel, Ack, BranchAgain, AnswerAgain}
use Rattle.sip_fork.specs.context.declared.sent.Sent.{Sent}
use Rattle.sip_fork.specs.context.Inputs.{Outcome, outcome, outcome_of}
use Rattle.sip_dialog_updates.specs.state.declared.open_request.OpenRequest.{OpenRequest}
use Rattle.sip_dialog_updates.specs.state.declared.server.Server.{Server}
use Rattle.sip_fork.specs.Keeping.{IsKeptAs, IsOf}
use Rattle.sip_proxy.specs.declared.drafting.EventDraft.{EventDraft}
use Rattle.sip_proxy.specs.Drafts.{IsDrafted}

-- an input about a request is one to it
pub input_to : (r : OpenRequest) (now : ℕ) (input : Input) → IsOf r now input → IsInputTo r input
input_to r now (Response branch status response) of = of
input_to r now (BranchDeadline branch) of = tt
input_to r now SideDeadline of = tt
input_to r now (SendFault branch) of = tt
input_to r now Cancel of = tt
input_to r now Ack of = tt
input_to r now (BranchAgain branch) of = tt
input_to r now AnswerAgain of = tt

-- what was planned and drafted
pub drafted_is : (rows : List HostAddress) (server : Server) (now : ℕ) (r : OpenRequest) (input : Input) (draft : EventDraft) (sent : Sent)
    → outcome draft.change sent ≡ outcome_of server now r input
    → IsKeptAs now r draft.change → IsDraft rows server now (outcome_of server now r input) draft.drafted → IsDrafted rows server now r input draft
drafted_is rows server now r input draft sent same kept drafted = record { request = ap (λ (o : Outcome). o.request) same; kept = kept; drafted = drafted }
