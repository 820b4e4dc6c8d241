-- Where nothing is due by a moment, nothing is by then once the fault of a packet was taken, since what that arms is later; nor once a datagram was
-- taken, or time passed.
use Rattle.std.proofs.Common.{ℕ, List, ◌∷◌, refl}
use Rattle.std.specs.List.{AllByRecursion}
use Rattle.sip_uri.specs.declared.addr.Addr.{Addr}
use Rattle.sip_event.specs.declared.event.Event.TheVariants.{Datagram, Time}
use Rattle.sip_event.specs.declared.event.StepOut.{StepOut}
use Rattle.sip_event.specs.declared.packet.Ticket.{Ticket}
use Rattle.sip_model.specs.state.declared.server.Server.{Server}
use Rattle.sip_model.specs.state.declared.proxy_state.ProxyState.{ProxyState}
use Rattle.sip_model.specs.state.State.{first_state}
use Rattle.sip_model.specs.steps_model.Step.{Given as ForEvent, IsFault, IsStep, NoneAgainBy, NoneBy, moment_of}
use Rattle.sip_model.specs.Run.{Link, IsChain}
use Rattle.sip_model.specs.Order.{HasFired}
use Rattle.sip_run.specs.Due.{NothingDueBy}

-- ---- a fault

-- that a fault which comes once nothing is due leaves nothing due
abbrev pub FaultLeaves : Type 0
FaultLeaves =
    (server : Server) (first : ℕ) (history : List Link) (old new : ProxyState) (at : ℕ) (ticket : Ticket) (out : StepOut) → IsChain server (first_state first) history old
    → IsFault server old at ticket out new
    → NoneBy (moment_of old at) old.requests → NoneAgainBy (moment_of old at) old.requests → NoneBy new.moment new.requests × NoneAgainBy new.moment new.requests

-- the same at the moment of the state before it
pub fault_leaves_none : FaultLeaves → (server : Server) (first : ℕ) (history : List Link) (old new : ProxyState) (ticket : Ticket) (out : StepOut)
    → IsChain server (first_state first) history old → IsFault server old old.moment ticket out new
    → NothingDueBy (moment_of old old.moment) old → NothingDueBy new.moment new
fault_leaves_none leaves server first history old new ticket out chain fault none =
    let left = leaves server first history old new old.moment ticket out chain fault none.none none.none_again in
    record { none = left.0; none_again = left.1 }

-- ---- an event that was due to come

-- what had to fire has fired
abbrev pub AllHaveFired : Type 0
AllHaveFired = (server : Server) (first : ℕ) (history : List Link) (last : ProxyState) → IsChain server (first_state first) history last
    → AllByRecursion (λ (link : Link). HasFired link.act link.after) history

module _ (fired : AllHaveFired) (server : Server) (first : ℕ) (history : List Link) (old new : ProxyState) (at : ℕ) (out : StepOut)
    (chain : IsChain server (first_state first) history old) where
  pub arrival_leaves_none : (word : ℕ) (from : Addr) (bytes : List ℕ) → IsStep server old (ForEvent (Datagram at word from bytes)) out new → NothingDueBy new.moment new
  arrival_leaves_none word from bytes step =
      let none = (fired server first (record { config = server.config; before = old; act = ForEvent (Datagram at word from bytes); out = out; after = new } ∷ history) new
      (refl, step, chain)).0 in
      record { none = none.0; none_again = none.1 }

  pub silence_leaves_none : IsStep server old (ForEvent (Time at)) out new → NothingDueBy new.moment new
  silence_leaves_none step =
      let none = (fired server first (record { config = server.config; before = old; act = ForEvent (Time at); out = out; after = new } ∷ history) new
      (refl, step, chain)).0 in
      record { none = none.0; none_again = none.1 }
