-- How far a replay came that was refused, and what was written then.
use Rattle.std.specs.Prelude.{◌≡◌, ◌+◌, ◌⊎◌, ℕ, List, [], ◌∷◌, ◌++◌, count_by, Option, None, Some, option_map, IfSome, IsSome}
use Rattle.std.specs.Io.KnownBytes.{Appends}
use Rattle.sip_event.specs.declared.event.Event.{Event}
use Rattle.sip_event.specs.declared.event.StepOut.{StepOut}
use Rattle.sip_config_types.specs.declared.config.Config.{Config}
use Rattle.sip_model.specs.state.declared.server.Server.{Server}
use Rattle.sip_model.specs.state.declared.proxy_state.ProxyState.{ProxyState}
use Rattle.sip_model.specs.Run.{Link, IsRun, event_moment}
use Rattle.sip_model.specs.Access.{Access}
use Rattle.sip_model.specs.Bounds.{IsBounded}
use Rattle.sip_model.specs.TimerOrder.{Standing, first_standing}
use Rattle.sip_model.specs.Ties.{AreOrderly}
use Rattle.sip_resume.specs.run.engine.declared.error.StepError.{StepError}
use Rattle.sip_resume.specs.run.engine.StepError.{refusal_at}
use Rattle.sip_resume.specs.run.Refusals.{refusal_of_event}
use Rattle.sip_replay_print.specs.Print.{printed}
use Rattle.sip_replay_script.specs.Devices.{WritesFront}
use Rattle.sip_replay_script.specs.Lines.{is_end}
use Rattle.sip_replay_script.specs.Events.{SaysEvent, SaysEvents, IsNoEvent}
use Rattle.sip_replay.specs.Replays.{server_with, Plays}
use Rattle.sip_replay.specs.declared.stop.Stop.{Stop}
use Rattle.sip_replay.specs.declared.stop.Stop.TheVariants as stops
use Rattle.sip_replay.specs.declared.error.ReplayError.{ReplayError}
use Rattle.sip_replay.specs.declared.error.ReplayError.TheVariants.{NoMemory, Script, Read, Write}

-- the moment of an event that was read and not taken, if there is one
abbrev pub moment_ahead : Option Event → Option ℕ
moment_ahead ahead = option_map event_moment ahead

-- its text; none without one
abbrev pub SaysAhead : Option Event → List ℕ → Type 0
SaysAhead None text = text ≡ []
SaysAhead (Some event) text = SaysEvent text event

-- bytes begin with a text
abbrev pub BeginsWith : List ℕ → List ℕ → Type 0
BeginsWith text bytes = (rest : List ℕ) × (bytes ≡ text ++ rest)

-- behind a text stands no event
abbrev pub NoEventBehind : List ℕ → List ℕ → Type 0
NoEventBehind text bytes = (rest : List ℕ) × (bytes ≡ text ++ rest) × IsNoEvent rest

-- How far a server came in a script: the script begins with a text that says the events that it took, and behind it perhaps with one
-- more, which was read. The steps are a run for the
-- events taken, in which time passed up to the moment of the one more, only where the first of what is due happens, in the order in which timers
-- stand, and all that is due by the moment of an event happens before it.
pub record ComesTo (server : Server) (first : Standing) (script : Option (List ℕ)) (steps : List StepOut) : Type 0 where
  pub events : List Event
  pub text : List ℕ
  pub ahead : Option Event
  pub further : List ℕ
  pub history : List Link
  pub last : ProxyState
  pub says : SaysEvents events text
  pub says_ahead : SaysAhead ahead further
  pub begins : IfSome script (BeginsWith (text ++ further))
  pub is_run : IsRun server first.state events (moment_ahead ahead) steps history last
  pub orderly : AreOrderly server first.queue history

-- no event was read behind a text, since none stands there; or one was, and the server refuses its step
abbrev pub CantGoOn : Option (List ℕ) → List ℕ → ProxyState → Option Event → Type 0
CantGoOn script text last None = IfSome script (NoEventBehind text)
CantGoOn script text last (Some event) = IsSome (refusal_of_event last event)

-- Script: that line begins the event that can't be taken, behind the lines of those that were; exactly what is printed of the steps
-- before it was written.
pub record StopsAtLine (server : Server) (first : Standing) (lines : ℕ) (script old new : Option (List ℕ)) (line : ℕ) : Type 0 where
  pub steps : List StepOut
  pub comes : ComesTo server first script steps
  pub why : CantGoOn script comes.text comes.last comes.ahead
  pub line_is : line ≡ lines + count_by is_end comes.text + 1
  pub written : Appends old new (printed steps)

-- Read: no event was read that wasn't taken, and exactly what is printed of the steps was written.
pub record StopsBetween (server : Server) (first : Standing) (script old new : Option (List ℕ)) : Type 0 where
  pub steps : List StepOut
  pub comes : ComesTo server first script steps
  pub none_ahead : comes.ahead ≡ None
  pub written : Appends old new (printed steps)

-- Write and NoMemory: a front of what is printed of the steps was written.
pub record StopsWithin (server : Server) (first : Standing) (script old new : Option (List ℕ)) : Type 0 where
  pub steps : List StepOut
  pub comes : ComesTo server first script steps
  pub writes : WritesFront old new (printed steps)

-- What holds at each refusal, where so many lines were read before the script.
abbrev pub Refuses : Server → Standing → ℕ → Option (List ℕ) → Option (List ℕ) → Option (List ℕ) → ReplayError → Type 0
Refuses server first lines script old new NoMemory = StopsWithin server first script old new
Refuses server first lines script old new (Script line) = StopsAtLine server first lines script old new line
Refuses server first lines script old new Read = StopsBetween server first script old new
Refuses server first lines script old new Write = StopsWithin server first script old new

-- the history of the steps that were taken before a refusal
abbrev pub history_before : (server : Server) (first : Standing) (lines : ℕ) (script old new : Option (List ℕ)) (e : ReplayError)
    → Refuses server first lines script old new e → List Link
history_before server first lines script old new NoMemory refusal = refusal.comes.history
history_before server first lines script old new (Script line) refusal = refusal.comes.history
history_before server first lines script old new Read refusal = refusal.comes.history
history_before server first lines script old new Write refusal = refusal.comes.history

-- What holds at each refusal of a replay; and each step that was taken before it is lawful by its history, as `Access` says, and
-- these steps are bounded, as `IsBounded` says.
pub record IsRefused (config : Config) (word first : ℕ) (script old new : Option (List ℕ)) (e : ReplayError) : Type 0 where
  pub refusal : Refuses (server_with config word) (first_standing first) 0 script old new e
  pub access : Access (server_with config word) (history_before (server_with config word) (first_standing first) 0 script old new e refusal)
  pub bounded : IsBounded (server_with config word) (history_before (server_with config word) (first_standing first) 0 script old new e refusal)

-- ---- inside

-- some events have such a run, and a front of what is printed of its steps was written
pub record PlaysPart (server : Server) (old : Standing) (events : List Event) (until : Option ℕ) (before after : Option (List ℕ)) : Type 0 where
  pub steps : List StepOut
  pub history : List Link
  pub last : ProxyState
  pub is_run : IsRun server old.state events until steps history last
  pub orderly : AreOrderly server old.queue history
  pub writes : WritesFront before after (printed steps)

-- time passed up to a moment, all that is printed of these steps was written, and the next is refused, or there were too many
pub record PlaysUpTo (server : Server) (old : Standing) (at : ℕ) (before after : Option (List ℕ))
    (refusal : ProxyState → Option StepError) : Type 0 where
  pub last : Standing
  pub plays : Plays server old last [] (Some at) before after
  pub why : IsSome (refusal last.state)

-- why what is due by a moment wasn't all fired
abbrev pub FiringStops : Server → Standing → ℕ → Option (List ℕ) → Option (List ℕ) → Type 0 → Stop → Type 0
FiringStops server old at before after gave_up stops.NoMemory = PlaysPart server old [] (Some at) before after
FiringStops server old at before after gave_up stops.Script = PlaysUpTo server old at before after (λ last. refusal_at at)
FiringStops server old at before after gave_up stops.Write = PlaysPart server old [] (Some at) before after × gave_up

-- the server stopped before an event, or at it
abbrev pub PlaysSome : Server → Standing → Event → Option (List ℕ) → Option (List ℕ) → Type 0
PlaysSome server old event before after = PlaysPart server old [] (Some (event_moment event)) before after
    ⊎ PlaysPart server old (event ∷ []) None before after

-- why an event that was read wasn't taken
abbrev pub TakingStops : Server → Standing → Event → Option (List ℕ) → Option (List ℕ) → Type 0 → Stop → Type 0
TakingStops server old event before after gave_up stops.NoMemory = PlaysSome server old event before after
TakingStops server old event before after gave_up stops.Script = PlaysUpTo server old (event_moment event) before after
    (λ last. refusal_of_event last event)
TakingStops server old event before after gave_up stops.Write = PlaysSome server old event before after × gave_up
