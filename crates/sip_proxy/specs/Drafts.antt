-- What an input to an open request is going to do.
use Rattle.std.specs.Prelude.{ℕ, ◌≡◌, List}
use Rattle.sip_forwarding.specs.Forwarding.{IsDraft}
use Rattle.sip_hops.specs.declared.host_address.HostAddress.{HostAddress}
use Rattle.sip_fork.specs.context.declared.input.Input.{Input}
use Rattle.sip_fork.specs.context.Inputs.{outcome_of}
use Rattle.sip_dialog_updates.specs.state.declared.open_request.OpenRequest.{OpenRequest}
use Rattle.sip_dialog_updates.specs.state.declared.server.Server.{Server}
use Rattle.sip_fork.specs.Keeping.{IsKeptAs}
use Rattle.sip_proxy.specs.declared.drafting.EventDraft.{EventDraft}

-- What was drafted of an input to an open request: the request as it becomes, which is kept, with what is sent and what the dialogs learn.
pub record IsDrafted (rows : List HostAddress) (server : Server) (now : ℕ) (r : OpenRequest) (input : Input) (draft : EventDraft) : Type 0 where
  pub request : draft.change ≡ (outcome_of server now r input).request
  pub kept : IsKeptAs now r draft.change
  pub drafted : IsDraft rows server now (outcome_of server now r input) draft.drafted
