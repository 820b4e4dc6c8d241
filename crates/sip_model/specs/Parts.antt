-- The parts of a step: what each makes of the open requests, and what it sends. A request is opened or turned away; an open one
-- changes, goes again, gets its copy or is acknowledged; an ACK
-- passes; or nothing happens. A CANCEL alone is two parts: it is answered, and then cancels (RFC 3261 9.2, 16, 17).
use Rattle.std.specs.Prelude.{◌*◌, ◌≡◌, ℕ, ◌+◌, Bool, true, false, List, [], ◌∷◌, ◌++◌, find, codes, Contains, Some, None, is_some}
use Rattle.std.specs.Prelude.{if◌then◌else◌, count_by}
use Rattle.std.specs.Str.{bytes_eq}
use Rattle.sip_timers.specs.Intervals.{T1}
use Rattle.sip_message_fields.specs.declared.field.Field.{Field}
use Rattle.sip_message_form.specs.declared.message.Start.TheVariants.{Status}
use Rattle.sip_message_form.specs.declared.message.Message.{Message}
use Rattle.sip_message_form.specs.Text.{text_of}
use Rattle.sip_transaction_table.specs.declared.key.TransactionKey.{TransactionKey}
use Rattle.sip_transaction_table.specs.Key.{key_of}
use Rattle.sip_uri.specs.declared.addr.Addr.{Addr}
use Rattle.sip_event.specs.declared.packet.Packet.{Packet}
use Rattle.sip_event.specs.declared.packet.Ticket.{Ticket}
use Rattle.sip_event.specs.declared.event.StepOut.{StepOut}
use Rattle.sip_event.specs.declared.event.Event.TheVariants.{Datagram, Time, Fault}
use Rattle.model_steps.specs.state.declared.server.Server.{Server}
use Rattle.model_steps.specs.state.declared.branch.Branch.{Branch}
use Rattle.model_steps.specs.state.declared.branch.Phase.TheVariants.{Unheard, Ended}
use Rattle.model_steps.specs.state.declared.open_request.OpenRequest.{OpenRequest}
use Rattle.model_steps.specs.state.declared.proxy_state.ProxyState.{ProxyState}
use Rattle.model_steps.specs.state.State.{has_key, first_resend, is_provisional}
use Rattle.model_steps.specs.state.Arrival.{Arrival}
use Rattle.model_steps.specs.context_model.Branches.{Change, responded, send_failed, cancelled, acknowledged}
use Rattle.model_steps.specs.context_model.Sending.{made_answer, answer_packet}
use Rattle.model_steps.specs.context_model.Opening.{closing, forking, opening}
use Rattle.model_steps.specs.verdict_model.Verdict.{responding, found_for_cancel, is_full}
use Rattle.model_steps.specs.context_model.Retransmission.{IsResent, answers_again, acked_again}
use Rattle.model_steps.specs.Effect.{replaced, change_packets, opening_packets, ack_packet, method_of}
use Rattle.model_steps.specs.Step.{Act, Given, Passing, originals, retransmissions, NoneBefore, NoneAgainBefore, IsOverdue, is_failed}
use Rattle.sip_model.specs.Access.{IsSaidAt, IsWithin}

-- ---- a request is opened

-- A branch to a target as it is first sent, with its number (RFC 3261 16.6): nothing was heard of it, and nobody gave it up. One
-- without an address has ended.
pub record IsBegun (now number : ℕ) (b : Branch) : Type 0 where
  pub is_numbered : b.number ≡ number
  pub is_target : b.is_cancel ≡ false
  pub is_wanted : b.wants_cancel ≡ false
  pub is_due : b.phase ≡ (if is_some b.address then Unheard (now + 64 * T1) else Ended)
  pub goes_next : b.again ≡ first_resend now
  pub has_no_final : b.final_to ≡ None

-- branches that are first sent, numbered from a number on
abbrev pub AreBegun : ℕ → ℕ → List Branch → Type 0
AreBegun now number [] = Unit {0}
AreBegun now number (b ∷ bs) = IsBegun now number b × AreBegun now (number + 1) bs

-- the text of an answer that is made at once
abbrev pub made_text : Server → Arrival → Message → ℕ → List Field → List ℕ
made_text server a m status extras = text_of (made_answer server a.number m a.from status extras)

-- A request as its datagram opens it, and what is sent for it then: it is answered at once, with a final answer, or sent to at least
-- one branch (RFC 3261 16.6, 17.2).
pub data IsOpening (server : Server) (a : Arrival) (m : Message) : OpenRequest → List Packet → Type 0 where
  Answered : (status : ℕ) (extras : List Field) → is_provisional status ≡ false
      → IsOpening server a m (closing a m status (made_text server a m status extras))
      (answer_packet false a.number m a.from (made_text server a m status extras) ∷ [])
  Sent : (first : Branch) (others : List Branch) → AreBegun a.now 1 (first ∷ others)
      → IsOpening server a m (opening server a.now (forking a m (first ∷ others))).request
      (opening_packets server a.now (forking a m (first ∷ others)))

-- ---- an open request changes

-- What changes an open request at a step's moment, and what goes again with it: a response to one of its branches, a deadline of its
-- own or of a branch, a send to a branch that failed, or the
-- caller's CANCEL.
pub data IsChangeAt (server : Server) (state : ProxyState) (act : Act) (now : ℕ) (r : OpenRequest) : Change → List Packet → Type 0 where
  ByResponse : (a : Arrival) (bytes : List ℕ) (m : Message) (status : ℕ) (reason : List ℕ) (b : Branch) → IsSaidAt state act a bytes m false
      → m.start ≡ Status status reason
      → responding server state.requests m.fields ≡ Some (r, b) → Contains r.branches b
      → IsChangeAt server state act now r (responded server now r b status m) (acked_again server r b status)
  ByDeadline : (change : Change) → IsOverdue server now r change → IsChangeAt server state act now r change []
  ByFault : (at : ℕ) (ticket : Ticket) (b : Branch) → act ≡ Given (Fault at ticket) → ticket.datagram ≡ r.number
      → find (is_failed ticket.branch) r.branches ≡ Some b
      → IsChangeAt server state act now r (send_failed server now r b) []
  ByCancel : (a : Arrival) (bytes : List ℕ) (m : Message) (short : Bool) (key : TransactionKey) → IsSaidAt state act a bytes m short
      → bytes_eq (method_of m.start) (codes "CANCEL") ≡ true → key_of m ≡ Some key
      → found_for_cancel state key a.from ≡ Some r → IsChangeAt server state act now r (cancelled server now r) []

-- ---- the parts

-- One part of a step at a moment: what it makes of some open requests, and what it sends for the first time, and again.
pub data IsPart (server : Server) (state : ProxyState) (act : Act) (now : ℕ) (requests after : List OpenRequest)
    (firsts again : List Packet) : Type 0 where
  Stays : after ≡ requests → firsts ≡ [] → again ≡ [] → IsPart server state act now requests after firsts again
  Passes : (a : Arrival) (m : Message) (address : Addr) → IsWithin server state act a m address → bytes_eq (method_of m.start) (codes "ACK") ≡ true
      → after ≡ requests → firsts ≡ ack_packet server a m address ∷ [] → again ≡ [] → IsPart server state act now requests after firsts again
  Copies : (a : Arrival) (bytes : List ℕ) (m : Message) (short : Bool) (key : TransactionKey) (r : OpenRequest) → IsSaidAt state act a bytes m short
      → bytes_eq (method_of m.start) (codes "ACK") ≡ false
      → key_of m ≡ Some key → find (has_key key) requests ≡ Some r → after ≡ requests → firsts ≡ [] → again ≡ answers_again r r.answer
      → IsPart server state act now requests after firsts again
  TurnsAway : (a : Arrival) (bytes : List ℕ) (m : Message) (short : Bool) (r : OpenRequest) → IsSaidAt state act a bytes m short → key_of m
      ≡ Some r.key
      → bytes_eq (method_of m.start) (codes "ACK") ≡ false → IsOpening server a m r firsts → is_full state ≡ true → after ≡ requests → again ≡ []
      → IsPart server state act now requests after firsts again
  Opens : (a : Arrival) (bytes : List ℕ) (m : Message) (short : Bool) (r : OpenRequest) → IsSaidAt state act a bytes m short → key_of m ≡ Some r.key
      → bytes_eq (method_of m.start) (codes "ACK") ≡ false → a.now ≡ now → IsOpening server a m r firsts → is_full state ≡ false
      → count_by (has_key r.key) requests ≡ 0 → after ≡ requests ++ r ∷ [] → again ≡ [] → IsPart server state act now requests after firsts again
  Changes : (r : OpenRequest) (change : Change) → Contains requests r → IsChangeAt server state act now r change again → after
      ≡ replaced change.request requests → firsts ≡ change_packets change
      → IsPart server state act now requests after firsts again
  Resends : (r later : OpenRequest) → Contains requests r → IsResent server now r again later → after ≡ replaced later requests → firsts
      ≡ [] → IsPart server state act now requests after firsts again
  Acknowledges : (r : OpenRequest) → Contains requests r → after ≡ replaced (acknowledged now r) requests → firsts ≡ [] → again ≡ []
      → IsPart server state act now requests after firsts again

-- One part, or two: a request is opened or turned away, and then another one changes, which was open before.
pub data AreParts (server : Server) (state : ProxyState) (act : Act) (now : ℕ) (requests after : List OpenRequest)
    (firsts again : List Packet) : Type 0 where
  One : IsPart server state act now requests after firsts again → AreParts server state act now requests after firsts again
  Two : (middle : List OpenRequest) (earlier : List Packet) (r : OpenRequest) (change : Change)
      → IsPart server state act now requests middle earlier [] → Contains requests r → Contains middle r
      → IsChangeAt server state act now r change [] → after ≡ replaced change.request middle → firsts ≡ earlier ++ change_packets change
      → again ≡ [] → AreParts server state act now requests after firsts again

-- ---- the whole

-- the number of the next datagram after a step
abbrev pub next_after : ProxyState → Act → ℕ
next_after state (Given (Datagram at word from bytes)) = state.next + 1
next_after state (Given (Time at)) = state.next
next_after state (Given (Fault at ticket)) = state.next
next_after state (Passing at) = state.next

-- A step has these parts, at the moment that it leaves; it passes no deadline over, and nothing that is to go again; and a datagram
-- alone takes a number.
pub record HasParts (server : Server) (old : ProxyState) (act : Act) (out : StepOut) (new : ProxyState) : Type 0 where
  pub is_at : out.at ≡ new.moment
  pub parts : AreParts server old act new.moment old.requests new.requests (originals out.packets) (retransmissions out.packets)
  pub is_next : new.next ≡ next_after old act
  pub none_passed : NoneBefore new.moment old.requests
  pub none_again : NoneAgainBefore new.moment old.requests
