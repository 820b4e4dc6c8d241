-- A server of the sample configuration, and requests that come to it, for the worked examples.
use Rattle.std.specs.Prelude.{ℕ, ◌==◌, Bool, false, not, List, [], ◌∷◌, ◌++◌, length, map, find, codes, Option, Some, None}
use Rattle.std.specs.Option.{option_map_or}
use Rattle.std.specs.List.{take_while}
use Rattle.std.specs.Str.{byte}
use Rattle.sip_uri.specs.declared.uri.Uri.{Uri}
use Rattle.sip_uri.specs.declared.aor.Aor.{Aor}
use Rattle.sip_uri.specs.Examples as Uris
use Rattle.sip_message_fields.specs.declared.field_name.FieldName.TheVariants as Name
use Rattle.sip_message_fields.specs.declared.field.Field.{Field}
use Rattle.sip_message_form.specs.declared.message.Start.TheVariants.{Request, Status}
use Rattle.sip_message_form.specs.declared.message.Message.{Message}
use Rattle.sip_uri.specs.declared.addr.Addr.{Addr}
use Rattle.sip_hops.specs.Examples as Places
use Rattle.sip_edit_response.specs.Examples as Replies
use Rattle.model_verdict.specs.edit.OnwardExamples as Onward
use Rattle.model_verdict.specs.edit.OwnVia.{branch_text}
use Rattle.sip_policy.specs.Examples.{mufasas_a1, alices_a1}
use Rattle.sip_config_types.specs.Sample as Settings
use Rattle.model_verdict.specs.auth.Examples.{credential}
use Rattle.sip_location.specs.declared.binding.Binding.{Binding}
use Rattle.sip_event.specs.declared.packet.Packet.{Packet}
use Rattle.model_verdict.specs.state.declared.server.Server.{Server}
use Rattle.model_verdict.specs.state.declared.proxy_state.ProxyState.{ProxyState}
use Rattle.model_verdict.specs.state.declared.open_request.OpenRequest.{OpenRequest}
use Rattle.model_verdict.specs.state.declared.branch.Branch.{Branch}
use Rattle.model_verdict.specs.state.State.{first_state, phase_deadline}
use Rattle.model_verdict.specs.context_model.Branches.{overdue, side_overdue}
use Rattle.model_verdict.specs.state.Arrival.{Arrival}
use Rattle.model_verdict.specs.Verdict.{message_verdict}
use Rattle.model_steps.specs.Effect.{Effect, counted, effect_of, changed, nothing}
use Rattle.model_steps.specs.Step.{fault_effect}

-- ---- the server

-- a server of the sample configuration, started with the word 0
abbrev pub sample : Server
sample = record { config = Settings.sample; word = 0 }

-- a datagram from a port of 127.0.0.1, with the nonce word of its number
abbrev pub arriving_at : ℕ → ℕ → ℕ → Arrival
arriving_at number now port = record { number = number; now = now; word = number; from = Places.local port }

-- what a message does to it, whose body came whole
abbrev pub whole_effect : ProxyState → Arrival → Message → Effect
whole_effect state a m = effect_of sample a m (message_verdict sample state a m false) (counted a state)

-- a packet of the request that a datagram brought
abbrev pub packet_of : ℕ → ℕ → ℕ → List ℕ → Packet
packet_of port number branch text = record {
  to = Places.local port;
  bytes = text;
  ticket = record { datagram = number; branch = branch };
  again = false;
}

-- ---- a REGISTER without credentials

-- the first REGISTER, which has no credential
abbrev pub challenge_effect : Effect
challenge_effect = whole_effect (first_state 1) (arriving_at 1 1000 5062) Replies.register

-- ---- a MESSAGE to the one binding of help@host.com

-- the address of record help@host.com
abbrev pub help : Aor
help = record { user = codes "help"; host = codes "host.com" }

-- its contact at port 5082
abbrev pub help_contact : Uri
help_contact = Places.at_port (Uris.user_at (codes "help") (codes "127.0.0.1")) (codes "5082")

-- help's binding, until a moment
abbrev pub binding_until : ℕ → Binding
binding_until expires_at = record { aor = help; uri = help_contact; call_id = codes "c2"; cseq = 2; expires_at = expires_at }

-- a server that knows it, before the datagram of a number
abbrev pub knowing_help : ℕ → ℕ → ProxyState
knowing_help number expires_at = record (first_state number) { bindings = binding_until expires_at ∷ [] }

-- the MESSAGE, while help's binding is live
abbrev pub message_sent : Effect
message_sent = whole_effect (knowing_help 3 3602000) (arriving_at 3 5000 5070) Onward.text_message

-- ---- calls to help@host.com

-- a contact at a port, and a server that knows several, before the datagram of a number
abbrev pub contact_at : List ℕ → Uri
contact_at port = Places.at_port (Uris.user_at (codes "help") (codes "127.0.0.1")) port

-- a binding of help's at a port
abbrev pub binding_at : List ℕ → Binding
binding_at port = record { aor = help; uri = contact_at port; call_id = codes "c2"; cseq = 2; expires_at = 3602000 }

-- a server that knows help's bindings at some ports
abbrev pub knowing : List (List ℕ) → ProxyState
knowing ports = record (first_state 4) { bindings = map binding_at ports }

-- the state after an INVITE to help@host.com, as the fourth datagram at 62,000
abbrev pub calling : List (List ℕ) → Effect
calling ports = whole_effect (knowing ports) (arriving_at 4 62000 5070) Onward.invite

-- the Via of a branch of that INVITE
abbrev pub branch_via : ℕ → List ℕ
branch_via target = codes "SIP/2.0/UDP sip.host.com:5060;branch=" ++ branch_text 0 4 target

-- an answer to the INVITE as it was sent to a target: a status and a reason, and a To tag
abbrev pub answer_with : ℕ → ℕ → List ℕ → List Field → Message
answer_with target code reason more =
    record {
      start = Status code reason;
      fields =
          record { name = Name.Via; value = branch_via target }
          ∷ record { name = Name.Via; value = codes "SIP/2.0/UDP pc.host.com:5070;branch=z9hG4bKinv1;rport=5070;received=127.0.0.1" }
          ∷ record { name = Name.From; value = codes "<sip:x@away.net>;tag=f1" }
          ∷ record { name = Name.To; value = codes "<sip:help@host.com>;tag=t1" }
          ∷ record { name = Name.CallId; value = codes "k1" }
          ∷ record { name = Name.CSeq; value = codes "7 INVITE" }
          ∷ more;
      body = [];
    }

-- a 180 from the branch to a target
abbrev pub ringing_from : ℕ → Message
ringing_from target = answer_with target 180 (codes "Ringing") []

-- a 200 from it
abbrev pub accepted_from : ℕ → Message
accepted_from target = answer_with target 200 (codes "OK") (record { name = Name.Contact; value = codes "<sip:help@127.0.0.1:5082>" } ∷ [])

-- an answer comes, at a moment
abbrev pub hearing : ProxyState → ℕ → Message → Effect
hearing state now m = whole_effect state (arriving_at state.next now 5082) m

-- whether a deadline is at a moment
abbrev pub has_deadline : ℕ → Option ℕ → Bool
has_deadline due None = false
has_deadline due (Some deadline) = deadline == due

-- the deadline of the first open request's branch that is due at a moment, or of its answering side
abbrev pub passing_in : ProxyState → ℕ → List OpenRequest → Effect
passing_in state due [] = nothing state
passing_in state due (r ∷ rs) =
    option_map_or (λ b. changed sample due state (overdue sample due r b))
    (find (λ (b : Branch). has_deadline due (phase_deadline b.phase)) r.branches)
    (changed sample due state (side_overdue sample due r))

-- the first open request's deadline at a moment passes
abbrev pub passing : ProxyState → ℕ → Effect
passing state due = passing_in state due state.requests

-- ---- what is seen of an effect

-- where each packet is sent, its branch, and its length
abbrev pub Seen : Type 0
Seen = ℕ × ℕ × ℕ

-- where a packet is sent, its branch, and its length
abbrev pub seen_of : Packet → Seen
seen_of p = (p.to.port, p.ticket.branch, length p.bytes)

-- the same of each packet of an effect
abbrev pub seen : Effect → List Seen
seen effect = map seen_of effect.originals

-- the start line of each packet
abbrev pub first_line : Packet → List ℕ
first_line p = take_while (λ b. not (b == byte "\r")) p.bytes

-- the start lines of all packets of an effect
abbrev pub first_lines : Effect → List (List ℕ)
first_lines effect = map first_line effect.originals

-- ---- the caller gives up

-- the CANCEL of the INVITE
abbrev pub cancel_request : Message
cancel_request =
    record {
      start = Request (codes "CANCEL") (codes "sip:help@host.com") (codes "SIP/2.0");
      fields =
          record { name = Name.Via; value = codes "SIP/2.0/UDP pc.host.com:5070;branch=z9hG4bKinv1;rport" }
          ∷ record { name = Name.From; value = codes "<sip:x@away.net>;tag=f1" }
          ∷ record { name = Name.To; value = codes "<sip:help@host.com>" }
          ∷ record { name = Name.CallId; value = codes "k1" }
          ∷ record { name = Name.CSeq; value = codes "7 CANCEL" }
          ∷ [];
      body = [];
    }

-- that CANCEL comes from an address
abbrev pub cancelled_call : ProxyState → Addr → Effect
cancelled_call state from = whole_effect state (record (arriving_at state.next 62500 5070) { from = from }) cancel_request

-- the packet to a target of the call could not be sent
abbrev pub failing : ProxyState → ℕ → Effect
failing state branch = fault_effect sample 62000 (record { datagram = 4; branch = branch }) state

-- ---- credentials

-- a right one of Mufasa's, with the nonce of the first challenge
abbrev pub mufasas : List ℕ → List ℕ → List ℕ
mufasas method uri = credential (codes "Mufasa") mufasas_a1 method uri (codes "00000001")

-- one of alice's
abbrev pub alices : List ℕ → List ℕ → List ℕ
alices method uri = credential (codes "alice") alices_a1 method uri (codes "00000001")

-- ---- the second REGISTER, with a credential

-- the REGISTER with this credential
abbrev pub authorized : List ℕ → Message
authorized value =
    record Replies.register {
      fields =
          record { name = Name.Via; value = codes "SIP/2.0/UDP 127.0.0.1:5062;branch=z9hG4bKreg2" }
          ∷ record { name = Name.MaxForwards; value = codes "70" }
          ∷ record { name = Name.From; value = codes "<sip:Mufasa@host.com>;tag=a1" }
          ∷ record { name = Name.To; value = codes "<sip:Mufasa@host.com>" }
          ∷ record { name = Name.CallId; value = codes "c1@127.0.0.1" }
          ∷ record { name = Name.CSeq; value = codes "2 REGISTER" }
          ∷ record { name = Name.Contact; value = codes "<sip:Mufasa@127.0.0.1:5062>" }
          ∷ record { name = Name.Authorization; value = value }
          ∷ [];
    }

-- it comes after the first challenge
abbrev pub registering_by : List ℕ → Effect
registering_by value = whole_effect challenge_effect.state (arriving_at 2 2000 5062) (authorized value)

-- it comes with Mufasa's own credential
abbrev pub register_effect : Effect
register_effect = registering_by (mufasas (codes "REGISTER") (codes "sip:host.com"))

-- the same REGISTER once more, after the transactions have ended
abbrev pub stale_effect : Effect
stale_effect =
    whole_effect (record register_effect.state { requests = []; next = 4 }) (arriving_at 4 40000 5062)
    (authorized (mufasas (codes "REGISTER") (codes "sip:host.com")))

-- ---- calls of proven users

-- an INVITE to a user of host.com with a credential
abbrev pub invite_by : List ℕ → List ℕ → Message
invite_by uri value =
    record {
      start = Request (codes "INVITE") uri (codes "SIP/2.0");
      fields =
          record { name = Name.Via; value = codes "SIP/2.0/UDP 127.0.0.1:5070;branch=z9hG4bKinv2;rport" }
          ∷ record { name = Name.From; value = codes "<sip:x@host.com>;tag=f2" }
          ∷ record { name = Name.To; value = codes "<" ++ uri ++ codes ">" }
          ∷ record { name = Name.CallId; value = codes "k3" }
          ∷ record { name = Name.CSeq; value = codes "1 INVITE" }
          ∷ record { name = Name.ProxyAuthorization; value = value }
          ∷ [];
      body = [];
    }

-- such an INVITE comes after the first challenge
abbrev pub calling_by : List ℕ → List ℕ → Effect
calling_by uri value = whole_effect challenge_effect.state (arriving_at 2 2000 5070) (invite_by uri value)

-- a number that is reached by the gateway
abbrev pub to_911 : List ℕ
to_911 = codes "sip:911@host.com"

-- ---- denials

-- an INVITE to vault@host.com
abbrev pub to_vault : Message
to_vault =
    record {
      start = Request (codes "INVITE") (codes "sip:vault@host.com") (codes "SIP/2.0");
      fields =
          record { name = Name.Via; value = codes "SIP/2.0/UDP pc.host.com:5070;branch=z9hG4bKinv1;rport" }
          ∷ record { name = Name.MaxForwards; value = codes "70" }
          ∷ record { name = Name.From; value = codes "<sip:x@away.net>;tag=f1" }
          ∷ record { name = Name.To; value = codes "<sip:vault@host.com>" }
          ∷ record { name = Name.CallId; value = codes "k1" }
          ∷ record { name = Name.CSeq; value = codes "7 INVITE" }
          ∷ record { name = Name.Contact; value = codes "<sip:x@127.0.0.1:5070>" }
          ∷ [];
      body = [];
    }

-- it comes from nobody who proved anything
abbrev pub vault_effect : Effect
vault_effect = whole_effect (first_state 1) (arriving_at 1 1000 5070) to_vault

-- an ACK of the denial
abbrev pub vault_ack : Message
vault_ack = record to_vault { start = Request (codes "ACK") (codes "sip:vault@host.com") (codes "SIP/2.0") }

-- ---- what goes again

-- the start lines of what goes again
abbrev pub lines_again : Effect → List (List ℕ)
lines_again effect = map first_line effect.again

-- ---- requests of the dialog that the call begins

-- the state after the 200 of the one binding
abbrev pub in_call : ProxyState
in_call = (hearing (calling (codes "5082" ∷ [])).state 63000 (accepted_from 1)).state

-- this server's Record-Route as the first Route
abbrev pub own_route : Field
own_route = record { name = Name.Route; value = codes "<sip:sip.host.com:5060;lr>" }

-- a request of the caller's in it, with this To tag and these Routes
abbrev pub request_within : List ℕ → List ℕ → List ℕ → List ℕ → List ℕ → List Field → Message
request_within method number uri branch tag routes =
    record {
      start = Request method uri (codes "SIP/2.0");
      fields =
          record { name = Name.Via; value = codes "SIP/2.0/UDP pc.host.com:5070;branch=" ++ branch ++ codes ";rport" }
          ∷ routes
          ++ record { name = Name.MaxForwards; value = codes "70" }
          ∷ record { name = Name.From; value = codes "<sip:x@away.net>;tag=f1" }
          ∷ record { name = Name.To; value = codes "<sip:help@host.com>;tag=" ++ tag }
          ∷ record { name = Name.CallId; value = codes "k1" }
          ∷ record { name = Name.CSeq; value = number ++ codes " " ++ method }
          ∷ [];
      body = [];
    }

-- a BYE in the call
abbrev pub bye : List ℕ → List ℕ → List Field → Message
bye uri tag routes = request_within (codes "BYE") (codes "8") uri (codes "z9hG4bKbye1") tag routes

-- the ACK of the 200
abbrev pub acknowledging : List ℕ → Message
acknowledging uri = request_within (codes "ACK") (codes "7") uri (codes "z9hG4bKack1") (codes "t1") (own_route ∷ [])

-- the Request-URI of the binding
abbrev pub help_text : List ℕ
help_text = codes "sip:help@127.0.0.1:5082"

-- a request of the caller's comes at a moment
abbrev pub asking : ProxyState → ℕ → Message → Effect
asking state now m = whole_effect state (arriving_at state.next now 5070) m

-- the 200 to the BYE that was sent as the sixth datagram's request
abbrev pub bye_accepted : Message
bye_accepted =
    record {
      start = Status 200 (codes "OK");
      fields =
          record { name = Name.Via; value = codes "SIP/2.0/UDP sip.host.com:5060;branch=" ++ branch_text 0 6 1 }
          ∷ record { name = Name.Via; value = codes "SIP/2.0/UDP pc.host.com:5070;branch=z9hG4bKbye1;rport=5070;received=127.0.0.1" }
          ∷ record { name = Name.From; value = codes "<sip:x@away.net>;tag=f1" }
          ∷ record { name = Name.To; value = codes "<sip:help@host.com>;tag=t1" }
          ∷ record { name = Name.CallId; value = codes "k1" }
          ∷ record { name = Name.CSeq; value = codes "8 BYE" }
          ∷ [];
      body = [];
    }
