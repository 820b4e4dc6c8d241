-- What a record holds: the events that a server took, from its first state on, and the configurations that came into force between them,
-- however often it was ended and went on.
use Rattle.std.specs.Prelude.{◌≡◌, ℕ, List, [], ◌∷◌, ◌++◌, Option, None}
use Rattle.std.specs.Io.KnownBytes.{Appends}
use Rattle.std.specs.List.{AllByRecursion}
use Rattle.sip_event.specs.declared.event.Event.{Event}
use Rattle.sip_event.specs.declared.event.StepOut.{StepOut}
use Rattle.sip_journal.specs.Segments.{SaysWhole, Segment}
use Rattle.sip_replay_print.specs.Print.{printed}
use Rattle.sip_model.specs.state.declared.server.Server.{Server}
use Rattle.sip_model.specs.TimerOrder.{Standing, queue_of}
use Rattle.sip_model.specs.state.State.{first_state}
use Rattle.sip_model.specs.Run.{Link}
use Rattle.sip_model.specs.Periods.{IsRunUnder, Period}
use Rattle.sip_model.specs.Ties.{AreOrderly}
use Rattle.sip_resume.specs.Whole.{AreStated, KeepsFrame, config_behind}

-- A text says events, and segments behind them, and these steps are a run over exactly these, from the first state to this one: the events
-- under the server's configuration, those of each segment under the one that its text states, by which it is the same server to others. All
-- that was due by the moment of an event happened before it, the first of it first, in the order in which timers stood, and time passed in no
-- other way. The last of these configurations is in force then, and these timers stand.
pub record IsRecordedUnder (server server_then : Server) (first : ℕ) (text : List ℕ) (steps : List StepOut) (last : Standing) : Type 0 where
  pub events : List Event
  pub segments : List Segment
  pub periods : List Period
  pub says : SaysWhole events segments text
  pub stated : AreStated segments periods
  pub frames : AllByRecursion (KeepsFrame server) periods
  pub history : List Link
  pub is_run : IsRunUnder server (first_state first) (record { config = server.config; events = events } ∷ periods) None steps history last.state
  pub orderly : AreOrderly server [] history
  pub queue : last.queue ≡ queue_of history
  pub in_force : server_then ≡ record { config = config_behind server.config periods; word = server.word }

-- Of some steps a text records the first ones, up to the last event that it says; others came behind them.
pub record RecordsFront (server : Server) (first : ℕ) (text : List ℕ) (steps : List StepOut) : Type 0 where
  pub front : List StepOut
  pub further : List StepOut
  pub cut : steps ≡ front ++ further
  pub server_then : Server
  pub last : Standing
  pub recorded : IsRecordedUnder server server_then first text front last

-- What was written is what is printed of the first of some steps.
pub record PrintsFront (steps : List StepOut) (old new : Option (List ℕ)) : Type 0 where
  pub front : List StepOut
  pub further : List StepOut
  pub cut : steps ≡ front ++ further
  pub written : Appends old new (printed front)
