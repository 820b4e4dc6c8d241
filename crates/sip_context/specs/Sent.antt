-- What an event makes of an open request.
use Rattle.sip_context_branches.specs.state.declared.open_request.OpenRequest.{OpenRequest}
use Rattle.sip_context_branches.specs.context_model.Branches.{Change}
use Rattle.sip_context.specs.declared.sent.Sent.{Sent}

-- the change to a request with which this is sent
abbrev pub change_of : OpenRequest → Sent → Change
change_of r sent = record { request = r; acks = sent.acks; upward = sent.upward; cancels = sent.cancels }
