-- What is sent of an open request: its answers, its requests to targets, their CANCELs and ACKs.
use Rattle.std.specs.Prelude.{ℕ, Bool, not, ◌&&◌, is_some, if◌then◌else◌, List, [], ◌∷◌, Option}
use Rattle.std.specs.Option.{option_map_or}
use Rattle.sip_message_fields.specs.declared.field.Field.{Field}
use Rattle.sip_message_form.specs.declared.message.Message.{Message}
use Rattle.sip_message_form.specs.Text.{text_of}
use Rattle.sip_uri.specs.declared.addr.Addr.{Addr}
use Rattle.sip_state.specs.edits.OwnVia.{branch_text}
use Rattle.sip_state.specs.edits.Onward.{onward_of, with_record_route}
use Rattle.sip_state.specs.edits.OwnRequests.{ack_with, cancel_of}
use Rattle.sip_state.specs.edits.ReceivedRequest.{received, response_address}
use Rattle.sip_edit_response.specs.Reply.{reply_of}
use Rattle.sip_edit_response.specs.Tags.{to_tag}
use Rattle.sip_event.specs.declared.packet.Packet.{Packet}
use Rattle.sip_state.specs.declared.server.Server.{Server}
use Rattle.sip_state.specs.declared.branch.Branch.{Branch}
use Rattle.sip_state.specs.declared.open_request.OpenRequest.{OpenRequest}
use Rattle.sip_state.specs.State.{is_invite}
use Rattle.sip_state.specs.Dialogs.{dialog_of}

-- ---- answers

-- an answer that is made here to a request that came from an address in the datagram of a number (RFC 3261 8.2.6)
abbrev pub made_answer : Server → ℕ → Message → Addr → ℕ → List Field → Message
made_answer server number m from status extras = reply_of (received m from) status (to_tag server.word number) extras

-- the packet of an answer to that request
abbrev pub answer_packet : Bool → ℕ → Message → Addr → List ℕ → Packet
answer_packet again number m from text =
    record { to = response_address m from; bytes = text; ticket = record { datagram = number; branch = 0 }; again = again }

-- the packet of an answer to an open request
abbrev pub answer_to : Bool → OpenRequest → List ℕ → Packet
answer_to again r text = answer_packet again r.number r.request.message r.request.source text

-- ---- requests to targets

-- an INVITE that begins a dialog
abbrev pub begins_dialog : OpenRequest → Bool
begins_dialog r = is_invite r && not (is_some (dialog_of r.request.message))

-- the request that goes onward with a Request-URI and the branch of a number
abbrev pub onward_as : Server → ℕ → Message → Addr → List ℕ → ℕ → Message
onward_as server number m from uri target = onward_of server.config.own server.config.realm uri (branch_text server.word number target)
    (received m from)

-- the request of a branch; an INVITE that begins a dialog has this server's Record-Route (RFC 3261 16.6)
abbrev pub request_of : Server → OpenRequest → Branch → Message
request_of server r b =
    let m = onward_as server r.number r.request.message r.request.source b.uri b.number in
    if begins_dialog r then with_record_route server.config.own m else m

-- what a branch sends: its request, or the CANCEL of that (RFC 3261 9.1)
abbrev pub sent_of : Server → OpenRequest → Branch → Message
sent_of server r b = if b.is_cancel then cancel_of (request_of server r b) else request_of server r b

-- the number of a branch on its tickets: a CANCEL's is 0
abbrev pub ticket_branch : Branch → ℕ
ticket_branch b = if b.is_cancel then 0 else b.number

-- a message of an open request to the address of a branch, if it has one
abbrev pub to_branch : OpenRequest → Branch → ℕ → Bool → Message → List Packet
to_branch r b target again m =
    option_map_or (λ address. record {
      to = address;
      bytes = text_of m;
      ticket = record { datagram = r.number; branch = target };
      again = again;
    } ∷ []) b.address []

-- what a branch sends, as a packet
abbrev pub branch_packets : Server → Bool → OpenRequest → Branch → List Packet
branch_packets server again r b = to_branch r b (ticket_branch b) again (sent_of server r b)

-- the ACK of a final answer of an INVITE that is no 2xx, with this To if that had one (RFC 3261 17.1.1.3)
abbrev pub ack_packets : Server → Bool → OpenRequest → Branch → Option (List ℕ) → List Packet
ack_packets server again r b to = to_branch r b 0 again (ack_with to (request_of server r b))
