-- A whole replay: the script's events, a run of the server over them, and what is printed.
use Rattle.std.specs.Prelude.{◌≡◌, ℕ, List, [], ◌∷◌, Option, None, IfSome}
use Rattle.std.specs.Io.KnownBytes.{Appends}
use Rattle.sip_event.specs.declared.event.Event.{Event}
use Rattle.sip_event.specs.declared.event.StepOut.{StepOut}
use Rattle.sip_config_types.specs.declared.config.Config.{Config}
use Rattle.sip_model.specs.state.declared.server.Server.{Server}
use Rattle.sip_model.specs.state.declared.proxy_state.ProxyState.{ProxyState}
use Rattle.sip_model.specs.state.State.{first_state}
use Rattle.sip_model.specs.Run.{Link, IsRun}
use Rattle.sip_model.specs.Access.{Access}
use Rattle.sip_model.specs.Bounds.{IsBounded}
use Rattle.sip_model.specs.TimerOrder.{Standing, queue_from}
use Rattle.sip_model.specs.Ties.{AreOrderly}
use Rattle.sip_replay_print.specs.Print.{printed}
use Rattle.sip_replay_script.specs.Lines.{Reading}
use Rattle.sip_replay_script.specs.Events.{SaysEvents, GivesEvent}

-- a server with this configuration, started with a word
abbrev pub server_with : Config → ℕ → Server
server_with config word = record { config = config; word = word }

-- The script says events, for which the steps of the server, from its first number on, are a run, in which time passes only where
-- the first of what is due happens, in the order in which timers stand, and all that is due by the moment of an event happens before it; and what is printed of these
-- steps was written.
pub record IsReplay (config : Config) (word first : ℕ) (script old new : Option (List ℕ)) : Type 0 where
  pub text : List ℕ
  pub events : List Event
  pub steps : List StepOut
  pub history : List Link
  pub last : ProxyState
  pub whole : IfSome script (λ bytes. bytes ≡ text)
  pub says : SaysEvents events text
  pub is_run : IsRun (server_with config word) (first_state first) events None steps history last
  pub orderly : AreOrderly (server_with config word) [] history
  pub written : Appends old new (printed steps)

-- The same, and each step of that run is lawful by its history: what is sent goes to whom the first rule that matches lets it go,
-- and so on, as `Access` says; and the run is bounded, as
-- `IsBounded` says.
pub record IsLawfulReplay (config : Config) (word first : ℕ) (script old new : Option (List ℕ)) : Type 0 where
  pub replay : IsReplay config word first script old new
  pub access : Access (server_with config word) replay.history
  pub bounded : IsBounded (server_with config word) replay.history

-- ---- inside

-- these events have such a run from one state to another, and what is printed of its steps was written
pub record Plays (server : Server) (old new : Standing) (events : List Event) (until : Option ℕ) (before after : Option (List ℕ)) : Type 0 where
  pub steps : List StepOut
  pub history : List Link
  pub is_run : IsRun server old.state events until steps history new.state
  pub orderly : AreOrderly server old.queue history
  pub queue : new.queue ≡ queue_from old.queue history
  pub written : Appends before after (printed steps)

-- the same of the next event of the script
pub record PlaysNext (server : Server) (old new : Standing) (part rest : Reading) (middle after : Option (List ℕ))
    (half written : Option (List ℕ)) : Type 0 where
  pub event : Event
  pub gives : GivesEvent part rest middle after event
  pub plays : Plays server old new (event ∷ []) None half written
