-- One step of a proxy: a datagram, a deadline, something that goes again, the passing of time, or a send that failed.
use Rattle.std.specs.Prelude.{◌≡◌, ◌≤◌, ◌<◌, ◌⊎◌, ℕ, ◌==◌, Bool, not, ◌&&◌, max, List, [], filter, find, Contains, Option, Some, None}
use Rattle.std.specs.List.{AllByRecursion}
use Rattle.sip_uri.specs.declared.addr.Addr.{Addr}
use Rattle.sip_event.specs.declared.packet.Packet.{Packet}
use Rattle.sip_event.specs.declared.packet.Ticket.{Ticket}
use Rattle.sip_event.specs.declared.event.StepOut.{StepOut}
use Rattle.sip_event.specs.declared.event.Event.{Event}
use Rattle.sip_event.specs.declared.event.Event.TheVariants.{Datagram, Time, Fault}
use Rattle.model_verdict.specs.state.declared.server.Server.{Server}
use Rattle.model_verdict.specs.state.declared.branch.Branch.{Branch}
use Rattle.model_verdict.specs.state.declared.open_request.OpenRequest.{OpenRequest}
use Rattle.model_verdict.specs.state.declared.proxy_state.ProxyState.{ProxyState}
use Rattle.model_verdict.specs.state.SameState.{SameState}
use Rattle.model_verdict.specs.state.State.{deadlines, phase_deadline, side_deadline}
use Rattle.model_verdict.specs.context_model.Branches.{Change, overdue, side_overdue, send_failed, is_unheard}
use Rattle.model_steps.specs.Effect.{Effect, replaced, changed, nothing, datagram_effect}
use Rattle.model_verdict.specs.state.Arrival.{Arrival}
use Rattle.model_verdict.specs.context_model.Retransmission.{resends, IsResent}

-- ---- what is sent

-- what is sent for the first time, and what is sent again
abbrev pub originals : List Packet → List Packet
originals packets = filter (λ (p : Packet). not p.again) packets

-- what is sent again
abbrev pub retransmissions : List Packet → List Packet
retransmissions packets = filter (λ (p : Packet). p.again) packets

-- A step at a moment does what an effect says: its originals, in their order, are those of the effect, and so are what goes again
-- and its records; the state after it is the same as the
-- effect's.
pub record Does (server : Server) (old : ProxyState) (at : ℕ) (effect : Effect) (out : StepOut) (new : ProxyState) : Type 0 where
  pub at_moment : out.at ≡ at
  pub sends : originals out.packets ≡ effect.originals
  pub repeats : retransmissions out.packets ≡ effect.again
  pub records : out.records ≡ effect.records
  pub leaves : SameState new effect.state

-- ---- deadlines

-- no deadline stands at a moment or before it
abbrev pub NoneBy : ℕ → List OpenRequest → Type 0
NoneBy moment requests = AllByRecursion (λ due. moment < due) (deadlines requests)

-- no deadline stands before a moment
abbrev pub NoneBefore : ℕ → List OpenRequest → Type 0
NoneBefore moment requests = AllByRecursion (λ due. moment ≤ due) (deadlines requests)

-- nothing is to go again at a moment or before it
abbrev pub NoneAgainBy : ℕ → List OpenRequest → Type 0
NoneAgainBy moment requests = AllByRecursion (λ due. moment < due) (resends requests)

-- nothing is to go again before a moment
abbrev pub NoneAgainBefore : ℕ → List OpenRequest → Type 0
NoneAgainBefore moment requests = AllByRecursion (λ due. moment ≤ due) (resends requests)

-- ---- the kinds of steps

-- a moment that goes back counts as the greatest so far
abbrev pub moment_of : ProxyState → ℕ → ℕ
moment_of state at = max state.moment at

-- a datagram that comes in a state
abbrev pub arrival_of : ProxyState → ℕ → ℕ → Addr → Arrival
arrival_of state at word from = record { number = state.next; now = moment_of state at; word = word; from = from }

-- a datagram comes, once all deadlines by then have passed, and all that was to go again by then went
pub record IsDelivery (server : Server) (old : ProxyState) (at word : ℕ) (from : Addr) (bytes : List ℕ) (out : StepOut) (new : ProxyState) :
    Type 0 where
  pub none_due : NoneBy (moment_of old at) old.requests
  pub none_again : NoneAgainBy (moment_of old at) old.requests
  pub does : Does server old (moment_of old at) (datagram_effect server old (arrival_of old at word from) bytes) out new

-- nothing but time passes, up to no later than the next deadline and the next moment at which something goes again
pub record IsQuiet (server : Server) (old : ProxyState) (at : ℕ) (out : StepOut) (new : ProxyState) : Type 0 where
  pub no_earlier : old.moment ≤ out.at
  pub no_later : out.at ≤ moment_of old at
  pub none_passed : NoneBefore out.at old.requests
  pub none_again_passed : NoneAgainBefore out.at old.requests
  pub does : Does server old out.at (nothing (record old { moment = out.at })) out new

-- the answering side's deadline of an open request, or one of its branches', passes
pub data IsOverdue (server : Server) (due : ℕ) (r : OpenRequest) : Change → Type 0 where
  OfSide : side_deadline r.side ≡ Some due → IsOverdue server due r (side_overdue server due r)
  OfBranch : (b : Branch) → Contains r.branches b → phase_deadline b.phase ≡ Some due → IsOverdue server due r (overdue server due r b)

-- one of the first deadlines passes, at its own moment; which of several tied ones, or of those and what goes again, is left open
pub record IsDeadline (server : Server) (old : ProxyState) (at : ℕ) (out : StepOut) (new : ProxyState) : Type 0 where
  pub request : OpenRequest
  pub change : Change
  pub is_open : Contains old.requests request
  pub passes : IsOverdue server out.at request change
  pub is_due : out.at ≤ moment_of old at
  pub is_first : NoneBefore out.at old.requests
  pub none_again : NoneAgainBefore out.at old.requests
  pub does : Does server old out.at (changed server out.at old change) out new

-- what goes again at a moment: those packets, and nothing for the first time
abbrev pub resent : ℕ → ProxyState → List Packet → OpenRequest → Effect
resent now state packets next = record {
  originals = [];
  again = packets;
  records = [];
  state = record state
      { moment = now; requests = replaced next state.requests };
}

-- something goes again, at its own moment; which of several tied ones, deadlines among them, comes first is left open
pub record IsResend (server : Server) (old : ProxyState) (at : ℕ) (out : StepOut) (new : ProxyState) : Type 0 where
  pub request : OpenRequest
  pub packets : List Packet
  pub next : OpenRequest
  pub is_open : Contains old.requests request
  pub goes : IsResent server out.at request packets next
  pub is_due : out.at ≤ moment_of old at
  pub is_first : NoneBefore out.at old.requests
  pub none_again : NoneAgainBefore out.at old.requests
  pub does : Does server old out.at (resent out.at old packets next) out new

-- ---- a send that failed

-- the branch of a ticket, if nothing was heard of it; a ticket of branch 0 names none
abbrev pub is_failed : ℕ → Branch → Bool
is_failed number b = not b.is_cancel && b.number == number && is_unheard b.phase

-- a branch that could not be sent to, if the ticket names one
abbrev pub failed_branch : Server → ℕ → ProxyState → OpenRequest → Option Branch → Effect
failed_branch server now state r None = nothing state
failed_branch server now state r (Some b) = changed server now state (send_failed server now r b)

-- the open request of a ticket, if there is one
abbrev pub failed_request : Server → ℕ → Ticket → ProxyState → Option OpenRequest → Effect
failed_request server now ticket state None = nothing state
failed_request server now ticket state (Some r) = failed_branch server now state r (find (is_failed ticket.branch) r.branches)

-- what the failed send of a packet does (RFC 3261 16.9)
abbrev pub fault_effect : Server → ℕ → Ticket → ProxyState → Effect
fault_effect server now ticket state = failed_request server now ticket state (find (λ (r : OpenRequest). r.number == ticket.datagram) state.requests)

-- a packet could not be sent; no deadline stands before that moment, and nothing is to go again before it
pub record IsFault (server : Server) (old : ProxyState) (at : ℕ) (ticket : Ticket) (out : StepOut) (new : ProxyState) : Type 0 where
  pub none_passed : NoneBefore (moment_of old at) old.requests
  pub none_again : NoneAgainBefore (moment_of old at) old.requests
  pub does : Does server old (moment_of old at) (fault_effect server (moment_of old at) ticket (record old { moment = moment_of old at })) out new

-- time passed up to a moment; no deadline stands by then, and nothing is to go again
pub record IsTime (server : Server) (old : ProxyState) (at : ℕ) (out : StepOut) (new : ProxyState) : Type 0 where
  pub none_due : NoneBy (moment_of old at) old.requests
  pub none_again_due : NoneAgainBy (moment_of old at) old.requests
  pub at_moment : out.at ≡ moment_of old at
  pub quiet : IsQuiet server old at out new

-- ---- a step

-- what a step is taken for: an event, or the passing of time up to a moment before one
pub data Act : Type 0 where
  Given : Event → Act
  Passing : ℕ → Act

-- a step of a proxy
abbrev pub IsStep : Server → ProxyState → Act → StepOut → ProxyState → Type 0
IsStep server old (Given (Datagram at word from bytes)) out new = IsDelivery server old at word from bytes out new
IsStep server old (Given (Time at)) out new = IsTime server old at out new
IsStep server old (Given (Fault at ticket)) out new = IsFault server old at ticket out new
IsStep server old (Passing at) out new = IsQuiet server old at out new ⊎ (IsDeadline server old at out new ⊎ IsResend server old at out new)
