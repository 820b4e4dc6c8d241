-- What a script holds: events alone, taken under one configuration.
use Rattle.std.specs.Prelude.{ℕ, List, [], None}
use Rattle.sip_event.specs.declared.event.Event.{Event}
use Rattle.sip_event.specs.declared.event.StepOut.{StepOut}
use Rattle.sip_replay_script.specs.Events.{SaysEvents}
use Rattle.sip_model.specs.state.declared.server.Server.{Server}
use Rattle.sip_model.specs.state.declared.proxy_state.ProxyState.{ProxyState}
use Rattle.sip_model.specs.state.State.{first_state}
use Rattle.sip_model.specs.Run.{Link, IsRun}
use Rattle.sip_model.specs.Ties.{AreOrderly}

-- A text says events, and these steps are a run over exactly these events, from the first state to this one, in which all that was due by the
-- moment of an event happened before it, the first of it first, in the order in which timers stood, and time passed in no other way.
pub record IsRecorded (server : Server) (first : ℕ) (text : List ℕ) (steps : List StepOut) (last : ProxyState) : Type 0 where
  pub events : List Event
  pub says : SaysEvents events text
  pub history : List Link
  pub is_run : IsRun server (first_state first) events None steps history last
  pub orderly : AreOrderly server [] history
