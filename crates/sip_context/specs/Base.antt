-- What is sent of an open request (RFC 3261 16.6).
use Rattle.std.specs.Prelude.{ℕ, Bool, List}
use Rattle.sip_edit.specs.OwnVia.{branch_text, own_via}
use Rattle.sip_event.specs.declared.packet.Packet.{Packet}
use Rattle.sip_context_branches.specs.context_model.state.declared.server.Server.{Server}
use Rattle.sip_context_branches.specs.context_model.state.declared.branch.Branch.{Branch}
use Rattle.sip_context_branches.specs.context_model.state.declared.open_request.OpenRequest.{OpenRequest}
use Rattle.sip_context_branches.specs.context_model.Sending.{branch_packets}

-- the value of this server's Via on the request to a target
abbrev pub via_value : Server → ℕ → ℕ → List ℕ
via_value server number target = own_via server.config.own (branch_text server.word number target)

-- what a branch of an open request sends, as a packet
unfoldable pub sends : Server → Bool → OpenRequest → Branch → List Packet
sends server again r b = branch_packets server again r b
