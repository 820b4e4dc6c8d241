-- A server that takes a whole record again: events, and the configurations that came into force between them.
use Rattle.std.specs.Prelude.{◌≡◌, ◌⊎◌, ◌+◌, ⊤, ℕ, List, [], ◌∷◌, ◌++◌, count_by, Option, None, Some, IfSome}
use Rattle.std.specs.List.{AllByRecursion}
use Rattle.sip_event.specs.declared.event.Event.{Event}
use Rattle.sip_event.specs.declared.event.StepOut.{StepOut}
use Rattle.sip_config_types.specs.declared.config.Config.{Config}
use Rattle.sip_model.specs.state.declared.server.Server.{Server}
use Rattle.sip_model.specs.state.declared.proxy_state.ProxyState.{ProxyState}
use Rattle.sip_model.specs.state.State.{first_state}
use Rattle.sip_model.specs.Run.{Link, under}
use Rattle.sip_model.specs.Periods.{IsRunUnder, Period}
use Rattle.sip_model.specs.Access.{Access}
use Rattle.sip_model.specs.Bounds.{IsBounded}
use Rattle.sip_model.specs.TimerOrder.{Standing, queue_from}
use Rattle.sip_model.specs.Ties.{AreOrderly}
use Rattle.sip_replay_script.specs.Lines.{is_end}
use Rattle.sip_journal.specs.Segments.{SaysWhole, Segment}
use Rattle.sip_journal.specs.Configurations.{IsLongConfiguration}
use Rattle.sip_journal.specs.Record.{Notes, NotesSegments}
use Rattle.sip_config.specs.Stated.{States, StatesNone}
use Rattle.sip_segment_config.specs.Last.{EndsCut, IsDamagedPart}
use Rattle.sip_segment_config.specs.Stops.{NextIs}
use Rattle.sip_resume.specs.Stops.{StatesOther}
use Rattle.sip_resume.specs.Outputs.{Outputs, Shows}
use Rattle.sip_resume.specs.Resumes.{RefusesNext, RunsOut, StopsAmong, TakesUntold, newest_step}
use Rattle.sip_resume.specs.declared.record_error.RecordError.{RecordError}
use Rattle.sip_resume.specs.declared.record_error.RecordError.TheVariants.{NoMemory, Damaged, Read, Step, Journal, TooLong, NoConfiguration, OtherFrame, Write}

-- ---- what segments say

-- a segment's text states its period's configuration, and its events are the period's
pub record IsStated (segment : Segment) (period : Period) : Type 0 where
  pub states : States segment.configuration period.config
  pub same : period.events ≡ segment.events

-- the same of each segment, in their order
abbrev pub AreStated : List Segment → List Period → Type 0
AreStated [] [] = ⊤
AreStated [] (period ∷ periods) = ⊥
AreStated (segment ∷ segments) [] = ⊥
AreStated (segment ∷ segments) (period ∷ periods) = IsStated segment period × AreStated segments periods

-- to others a server is the same under the period's configuration
abbrev pub KeepsFrame : Server → Period → Type 0
KeepsFrame server period = record { config = period.config; word = server.word } ≡ under server period.config

-- the configuration that is in force behind some periods, where one was before
abbrev pub config_behind : Config → List Period → Config
config_behind config [] = config
config_behind config (period ∷ periods) = config_behind period.config periods

-- ---- what a server does with them

-- These periods have a run from one state to another, in which time passes only where the first of what is due happens, in the order in which
-- timers stand, and all that is due by the moment of an event happens before it, by the configuration that is in force then.
pub record RunsUnder (server : Server) (old new : Standing) (periods : List Period) : Type 0 where
  pub steps : List StepOut
  pub history : List Link
  pub is_run : IsRunUnder server old.state periods None steps history new.state
  pub orderly : AreOrderly server old.queue history
  pub queue : new.queue ≡ queue_from old.queue history

-- A server takes events under the configuration that was in force, and those of each segment under the one that its text states, by which it is
-- the same server to others; the last of these is in force then.
pub record TakesWhole (server server_then : Server) (old new : Standing) (events : List Event) (segments : List Segment) : Type 0 where
  pub periods : List Period
  pub stated : AreStated segments periods
  pub frames : AllByRecursion (KeepsFrame server) periods
  pub runs : RunsUnder server old new (record { config = server.config; events = events } ∷ periods)
  pub in_force : server_then ≡ record { config = config_behind server.config periods; word = server.word }

-- the journal was told these events, and then these segments
pub record NotesWhole (written written_then : Option (Option (List ℕ))) (events : List Event) (segments : List Segment) : Type 0 where
  pub between : Option (Option (List ℕ))
  pub told : Notes written between events
  pub told_then : NotesSegments between written_then segments

-- ---- a record that is taken whole

-- What is to come of a record, where it is known, is a text that says events and segments, and behind it nothing, or the front of what says one
-- more event or configuration. The server took them in their order: the state is where a run under these configurations leads, and the last
-- of them is in force; exactly what is printed of the steps was shown, the journal was told the events and segments, and so many lines were
-- given by then; and that is the last step of the run, which is the last event's own, since time passes only up to that event.
pub record IsRecordResumed (server server_then : Server) (old new : Standing) (record_bytes : Option (List ℕ)) (lines : ℕ)
    (outs outs_then : Outputs) (lines_then : ℕ) (last : Option StepOut) : Type 0 where
  pub text : List ℕ
  pub further : List ℕ
  pub events : List Event
  pub segments : List Segment
  pub whole : IfSome record_bytes (λ bytes. bytes ≡ text ++ further)
  pub says : SaysWhole events segments text
  pub ends : EndsCut further
  pub takes : TakesWhole server server_then old new events segments
  pub shown : Shows outs.shown outs_then.shown takes.runs.steps
  pub noted : NotesWhole outs.written outs_then.written events segments
  pub counted : lines_then ≡ lines + count_by is_end text
  pub last_is : newest_step takes.runs.history ≡ last

-- ---- a record that isn't taken further

-- the configuration that comes next is in force, and the journal wasn't told it, since it failed
pub record ChangesUntold (server server_then : Server) (old new : Standing) (rest : Option (List ℕ)) (outs outs_then : Outputs) : Type 0 where
  pub config : Config
  pub next : NextIs rest (λ bytes. States bytes config)
  pub in_force : server_then ≡ record { config = config; word = server.word }
  pub state : new ≡ old
  pub shown : outs_then.shown ≡ outs.shown
  pub failed : outs_then.written ≡ None

-- what comes next isn't taken, and the server is as it was
pub record IsUntaken (server server_then : Server) (old new : Standing) (Why : Type 0) (lines line : ℕ) (outs outs_then : Outputs) : Type 0 where
  pub in_force : server_then ≡ server
  pub state : new ≡ old
  pub shown : outs_then.shown ≡ outs.shown
  pub why : Why
  pub at : line ≡ lines + 1

-- Why nothing more is taken of what is still to come of a record, behind so many lines, by a server under the configuration in force, and how it
-- stands then: memory ran out, before an event was read or at it, or what steps are shown to stopped; or it is as it was, since what is left is
-- damaged, the reader stopped, or the configuration that comes next is too long, none, or another server's; or it refuses the step of the event
-- that comes next; or the journal failed behind an event or a configuration.
abbrev pub RecordStops : Server → Server → Standing → Standing → ℕ → Type 0 → Option (List ℕ) → ℕ → Outputs → Outputs → RecordError → Type 0
RecordStops server server_then old new longest spent rest lines outs outs_then NoMemory = (server_then ≡ server) × RunsOut server old new rest outs outs_then
RecordStops server server_then old new longest spent rest lines outs outs_then (Damaged line) =
    IsUntaken server server_then old new (IfSome rest IsDamagedPart) lines line outs outs_then
RecordStops server server_then old new longest spent rest lines outs outs_then Read =
    (server_then ≡ server) × (new ≡ old) × spent × (outs_then.shown ≡ outs.shown)
RecordStops server server_then old new longest spent rest lines outs outs_then Step = (server_then ≡ server) × RefusesNext server old new rest outs outs_then
RecordStops server server_then old new longest spent rest lines outs outs_then Journal =
    ((server_then ≡ server) × TakesUntold server old new rest outs outs_then) ⊎ ChangesUntold server server_then old new rest outs outs_then
RecordStops server server_then old new longest spent rest lines outs outs_then (TooLong line) =
    IsUntaken server server_then old new (IfSome rest (IsLongConfiguration longest)) lines line outs outs_then
RecordStops server server_then old new longest spent rest lines outs outs_then (NoConfiguration line e) =
    IsUntaken server server_then old new (NextIs rest (λ bytes. StatesNone bytes e)) lines line outs outs_then
RecordStops server server_then old new longest spent rest lines outs outs_then (OtherFrame line key) =
    IsUntaken server server_then old new (NextIs rest (λ bytes. StatesOther server bytes key)) lines line outs outs_then
RecordStops server server_then old new longest spent rest lines outs outs_then Write = (server_then ≡ server) × StopsAmong server old new rest outs outs_then

-- It was refused behind some of its events and configurations, by which the server had come to a state, under the last of them; exactly what is
-- printed of their steps was shown by then; the journal was told them, unless it has failed.
pub record IsRecordUnresumed (server server_then : Server) (old new : Standing) (longest : ℕ) (spent : Type 0)
    (record_bytes : Option (List ℕ)) (lines : ℕ) (outs outs_then : Outputs) (e : RecordError) : Type 0 where
  pub text : List ℕ
  pub events : List Event
  pub segments : List Segment
  pub rest : Option (List ℕ)
  pub reached : Standing
  pub in_force : Server
  pub half : Outputs
  pub says : SaysWhole events segments text
  pub whole : IfSome record_bytes (λ bytes. (further : List ℕ) × (rest ≡ Some further) × (bytes ≡ text ++ further))
  pub takes : TakesWhole server in_force old reached events segments
  pub shown : Shows outs.shown half.shown takes.runs.steps
  pub noted : NotesWhole outs.written outs_then.written events segments
  pub why : RecordStops in_force server_then reached new longest spent rest (lines + count_by is_end text) half outs_then e

-- ---- a run goes on

-- A run from the start over periods: each of its steps is lawful by its history and the configuration in force then, as `Access` says, and it is
-- bounded, as `IsBounded` says.
pub record IsOneRunUnder (server : Server) (first : ℕ) (periods : List Period) (until : Option ℕ) (steps : List StepOut) (history : List Link)
    (last : ProxyState) : Type 0 where
  pub is_run : IsRunUnder server (first_state first) periods until steps history last
  pub access : Access server history
  pub bounded : IsBounded server history
