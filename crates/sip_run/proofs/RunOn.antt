-- A run that is over is one up to any moment.
use Rattle.std.specs.Prelude.{ℕ, List, [], ◌∷◌, Option, None}
use Rattle.sip_event.specs.declared.event.Event.{Event}
use Rattle.sip_event.specs.declared.event.StepOut.{StepOut}
use Rattle.sip_engine.specs.state.declared.server.Server.{Server}
use Rattle.sip_engine.specs.state.declared.proxy_state.ProxyState.{ProxyState}
use Rattle.sip_engine.specs.steps_model.Step.{Act, Given, Passing}
use Rattle.sip_engine.specs.model.Run.{Link, IsRun, IsPaced, IsUpTo, next_moment}

-- a run up to its last event is one up to any moment behind it
pub paced_act : (until : Option ℕ) (act : Act) (history : List Link) → (IsUpTo None act × IsPaced (next_moment None act) history)
    → (IsUpTo until act × IsPaced (next_moment until act) history)
paced_act until (Given event) history h = h
paced_act until (Passing at) history h = absurd h.0

pub paced_on : (until : Option ℕ) (history : List Link) → IsPaced None history → IsPaced until history
paced_on until [] h = tt
paced_on until (link ∷ history) h = paced_act until link.act history h

pub run_on : (server : Server) (old new : ProxyState) (events : List Event) (until : Option ℕ) (steps : List StepOut) (history : List Link)
    → IsRun server old events None steps history new → IsRun server old events until steps history new
run_on server old new events until steps history h = record {
  chain = h.chain;
  paced = paced_on until history h.paced;
  of_events = h.of_events;
  of_steps = h.of_steps;
  configured = h.configured;
}
