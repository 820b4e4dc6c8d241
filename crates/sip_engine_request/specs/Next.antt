-- What is due next of open requests (RFC 3261 17).
use Rattle.std.specs.Prelude.{ℕ, ◌⊎◌, List, Contains}
use Rattle.sip_proxy.specs.steps_model.Step.{NoneBefore, NoneAgainBefore}
use Rattle.sip_proxy.specs.context_model.Retransmission.{resends}
use Rattle.sip_dialog_updates.specs.state.State.{deadlines}
use Rattle.sip_dialog_updates.specs.state.declared.open_request.OpenRequest.{OpenRequest}

-- At this moment a deadline of open requests passes, or something of theirs goes again; no deadline stands before it, and nothing is
-- to go again before it.
pub record IsNext (requests : List OpenRequest) (due : ℕ) : Type 0 where
  pub is_due : Contains (deadlines requests) due ⊎ Contains (resends requests) due
  pub none_before : NoneBefore due requests
  pub none_again : NoneAgainBefore due requests
