-- Runs, one behind the other.
use Rattle.std.proofs.Common.{◌≡◌, ℕ, List, [], ◌∷◌, ◌++◌, reverse, Option, None, refl, sym, ◌∙◌, ap, ap₂, subst}
use Rattle.std.proofs.lemmas.List.{reverse-append}
use Rattle.std.specs.List.{AllByRecursion}
use Rattle.sip_event.specs.declared.event.Event.{Event}
use Rattle.sip_event.specs.declared.event.StepOut.{StepOut}
use Rattle.sip_model.specs.state.declared.server.Server.{Server}
use Rattle.sip_model.specs.state.declared.proxy_state.ProxyState.{ProxyState}
use Rattle.sip_model.specs.steps_model.Step.{Act, Given as ForEvent, Passing}
use Rattle.sip_model.specs.Run.{Link, IsChain, IsPaced, IsRun, IsUpTo, event_of, events_of, next_moment, steps_of, IsUnder}
use Rattle.model_transactions.specs.Queue.{Entry}
use Rattle.sip_model.specs.TimerOrder.{Standing, queue_from}
use Rattle.sip_model.proofs.Along.{queued_joined}
use Rattle.sip_loop.specs.Serving.{AreInTurn, IsTurnOf}

-- ---- histories

pub chain_on : (server : Server) (first middle last : ProxyState) (history later : List Link) → IsChain server first history middle → IsChain server middle later last
    → IsChain server first (later ++ history) last
chain_on server first middle last history [] before behind = subst (λ state. IsChain server first history state) (sym behind) before
chain_on server first middle last history (link ∷ later) before behind = (behind.0, behind.1, chain_on server first middle link.before history later before behind.2)

-- a run up to its last event is one up to any moment behind it
paced_act : (until : Option ℕ) (act : Act) (history : List Link) → (IsUpTo None act × IsPaced (next_moment None act) history)
    → (IsUpTo until act × IsPaced (next_moment until act) history)
paced_act until (ForEvent event) history h = h
paced_act until (Passing at) history h = absurd h.0

paced_up : (until : Option ℕ) (history : List Link) → IsPaced None history → IsPaced until history
paced_up until [] h = tt
paced_up until (link ∷ history) h = paced_act until link.act history h

paced_on : (until : Option ℕ) (history later : List Link) → IsPaced None history → IsPaced until later → IsPaced until (later ++ history)
paced_on until history [] h k = paced_up until history h
paced_on until history (link ∷ later) h k = (k.0, paced_on (next_moment until link.act) history later h k.1)

event_behind : (act : Act) (events more : List Event) → event_of act (more ++ events) ≡ event_of act more ++ events
event_behind (ForEvent event) events more = refl
event_behind (Passing at) events more = refl

events_behind : (history later : List Link) → events_of (later ++ history) ≡ events_of later ++ events_of history
events_behind history [] = refl
events_behind history (link ∷ later) = ap (event_of link.act) (events_behind history later) ∙ event_behind link.act (events_of history) (events_of later)

steps_behind : (history later : List Link) → steps_of (later ++ history) ≡ steps_of later ++ steps_of history
steps_behind history [] = refl
steps_behind history (link ∷ later) = ap (λ (l : List StepOut). link.out ∷ l) (steps_behind history later)

configured_on : (server : Server) (history later : List Link) → AllByRecursion (IsUnder server.config) history → AllByRecursion (IsUnder server.config) later
    → AllByRecursion (IsUnder server.config) (later ++ history)
configured_on server history [] h k = h
configured_on server history (link ∷ later) h k = (k.0, configured_on server history later h k.1)

-- a run that is over, and one behind it
pub run_on : (server : Server) (first middle last : ProxyState) (events more : List Event) (until : Option ℕ) (steps further : List StepOut) (history later : List Link)
    → IsRun server first events None steps history middle → IsRun server middle more until further later last
    → IsRun server first (events ++ more) until (steps ++ further) (later ++ history) last
run_on server first middle last events more until steps further history later h k = record {
  chain = chain_on server first middle last history later h.chain k.chain;
  paced = paced_on until history later h.paced k.paced;
  of_events =
      ap reverse (events_behind history later) ∙ reverse-append (events_of later) (events_of history)
      ∙ ap₂ (λ (a b : List Event). a ++ b) h.of_events k.of_events;
  of_steps =
      ap reverse (steps_behind history later) ∙ reverse-append (steps_of later) (steps_of history)
      ∙ ap₂ (λ (a b : List StepOut). a ++ b) h.of_steps k.of_steps;
  configured = configured_on server history later h.configured k.configured;
}

-- nothing happened yet
pub run_nothing : (server : Server) (state : ProxyState) (until : Option ℕ) → IsRun server state [] until [] [] state
run_nothing server state until = record { chain = refl; paced = tt; of_events = refl; of_steps = refl; configured = tt }

pub in_turn_on : (server : Server) (old mid : Standing) (history later : List Link) → mid.queue ≡ queue_from old.queue history → AreInTurn server old.queue history
    → AreInTurn server mid.queue later
    → AreInTurn server old.queue (later ++ history)
in_turn_on server old mid history later is h k =
    queued_joined (λ (standing : List Entry) (link : Link). IsTurnOf server standing link.before link.act link.out link.after) old.queue history later h
    (subst (λ (q : List Entry). AreInTurn server q later) is k)
