-- What was served, as a replay takes it.
use Rattle.std.specs.Prelude.{◌≡◌, ℕ, List, ◌++◌, Option}
use Rattle.sip_event.specs.declared.event.Event.{Event}
use Rattle.sip_event.specs.declared.event.StepOut.{StepOut}
use Rattle.sip_model.specs.state.declared.server.Server.{Server}
use Rattle.sip_model.specs.Run.{Link, IsRun}
use Rattle.sip_model.specs.TimerOrder.{Standing, queue_from}
use Rattle.sip_replay_script.specs.Events.{SaysEvents}
use Rattle.sip_loop.specs.Serving.{AreInTurn}

-- Bytes grew by a text that says events, and these steps are a run over exactly these events, from one state to another, each event in its turn,
-- behind which time passed up to a moment, if to one: steps that a replay of the text takes, or a server that goes on from it.
pub record ReplaysTo (server : Server) (old new : Standing) (front all : List ℕ) (until : Option ℕ) (steps : List StepOut) : Type 0 where
  pub text : List ℕ
  pub events : List Event
  pub grown : all ≡ front ++ text
  pub says : SaysEvents events text
  pub history : List Link
  pub is_run : IsRun server old.state events until steps history new.state
  pub turns : AreInTurn server old.queue history
  pub queue : new.queue ≡ queue_from old.queue history
