-- Parts of a record that a server takes: the events up to a configuration or to the end, and segments.
use Rattle.std.specs.Prelude.{◌≡◌, ◌+◌, ◌≤◌, ◌<◌, ⊤, ℕ, Bool, true, false, List, Option, None, Some, IfSome, count_by}
use Rattle.std.specs.Io.KnownBytes.{Consumes, Keeps}
use Rattle.std.specs.List.{AllByRecursion}
use Rattle.sip_event.specs.declared.event.Event.{Event}
use Rattle.sip_event.specs.declared.event.StepOut.{StepOut}
use Rattle.sip_model.specs.state.declared.server.Server.{Server}
use Rattle.sip_model.specs.TimerOrder.{Standing}
use Rattle.sip_model.specs.Run.{under}
use Rattle.sip_model.specs.Periods.{Period}
use Rattle.sip_replay_script.specs.Lines.{Reading, is_end, left, pending}
use Rattle.sip_replay_script.specs.Recorded.{SaysRecord, IsDamagedRecord}
use Rattle.sip_journal.specs.Segments.{SaysSegments, Segment}
use Rattle.sip_journal.specs.Configurations.{IsDamagedConfiguration, IsLongConfiguration}
use Rattle.sip_journal.specs.Record.{Notes, NotesSegments}
use Rattle.sip_config.specs.Stated.{StatesNone}
use Rattle.sip_segment_config.specs.Last.{EndsCut}
use Rattle.sip_segment_config.specs.Stops.{NextIs}
use Rattle.sip_resume.specs.Stops.{StatesOther}
use Rattle.sip_resume.specs.Outputs.{Outputs, Shows}
use Rattle.sip_resume.specs.Resumes.{EndsHere, JournalAt, ResumeStops, Runs, TakesNext, newest_step}
use Rattle.sip_resume.specs.Whole.{AreStated, KeepsFrame, RecordStops, RunsUnder, config_behind}
use Rattle.sip_resume.specs.declared.error.ResumeError.{ResumeError}
use Rattle.sip_resume.specs.declared.error.ResumeError.TheVariants as errors
use Rattle.sip_resume.specs.declared.record_error.RecordError.{RecordError}
use Rattle.sip_resume.specs.declared.record_error.RecordError.TheVariants.{NoMemory, Damaged, Read, Step, Journal, TooLong, NoConfiguration, OtherFrame, Write}
use Rattle.sip_resume.specs.declared.parts.ResumedPart.{ResumedPart}
use Rattle.sip_resume.specs.declared.parts.ResumedPart.TheVariants.{Taken, Configuration, End}

-- the newer of two steps
abbrev pub newest_of : Option StepOut → Option StepOut → Option StepOut
newest_of None before = before
newest_of (Some out) before = Some out

-- ---- the next event

-- nothing was passed, and no event begins here
pub record StaysHere (old new : Standing) (part rest : Reading) (before after : Option (List ℕ))
    (outs outs_then : Outputs) : Type 0 where
  pub state : new ≡ old
  pub kept : Keeps (pending part before) (pending rest after)
  pub number : rest.number ≡ part.number
  pub fewer : left rest ≤ left part
  pub noted : outs_then ≡ outs
  pub no_event : IfSome (pending part before) IsDamagedRecord

-- the record ends here
pub record EndsAt (old new : Standing) (part : Reading) (before : Option (List ℕ)) (outs outs_then : Outputs) : Type 0 where
  pub state : new ≡ old
  pub ends : IfSome (pending part before) EndsHere
  pub noted : outs_then ≡ outs

-- what became of the next event
abbrev pub GoesTo : Server → Standing → Standing → Reading → Reading → Option (List ℕ) → Option (List ℕ)
    → Outputs → Outputs → ResumedPart → Type 0
GoesTo server old new part rest before after outs outs_then (Taken out) = TakesNext server old new part rest before after outs outs_then out
GoesTo server old new part rest before after outs outs_then Configuration = StaysHere old new part rest before after outs outs_then
GoesTo server old new part rest before after outs outs_then End = EndsAt old new part before outs outs_then

-- where what is left is damaged, it says no configuration either
abbrev pub SaysNoneAt : Option (List ℕ) → ResumeError → Type 0
SaysNoneAt rest errors.NoMemory = ⊤
SaysNoneAt rest (errors.Damaged line) = IfSome rest IsDamagedConfiguration
SaysNoneAt rest errors.Read = ⊤
SaysNoneAt rest errors.Step = ⊤
SaysNoneAt rest errors.Journal = ⊤
SaysNoneAt rest errors.Write = ⊤

-- why it isn't taken
pub record NextStops (server : Server) (old new : Standing) (spent : Type 0) (rest : Option (List ℕ)) (lines : ℕ)
    (outs outs_then : Outputs) (e : ResumeError) : Type 0 where
  pub why : ResumeStops server old new spent rest lines outs outs_then e
  pub told : JournalAt outs.written outs_then.written e
  pub none : SaysNoneAt rest e

-- ---- events

-- events were taken that come next in a record, their steps were shown, and they were told to the journal; so many lines were given by then
pub record TakesEvents (server : Server) (old new : Standing) (before rest : Option (List ℕ)) (lines lines_then : ℕ)
    (outs outs_then : Outputs) (last : Option StepOut) : Type 0 where
  pub events : List Event
  pub text : List ℕ
  pub says : SaysRecord events text
  pub consumes : Consumes before rest text
  pub counted : lines_then ≡ lines + count_by is_end text
  pub runs : Runs server old new events None
  pub last_is : newest_step runs.history ≡ last
  pub shown : Shows outs.shown outs_then.shown runs.steps
  pub noted : Notes outs.written outs_then.written events

-- up to the end of the record, or to where no event begins
pub record ReachesEnd (server : Server) (old new : Standing) (part rest : Reading) (before after : Option (List ℕ))
    (outs outs_then : Outputs) (lines : ℕ) (last : Option StepOut) (is_over : Bool) : Type 0 where
  pub left_then : Option (List ℕ)
  pub takes : TakesEvents server old new (pending part before) left_then part.number lines outs outs_then last
  pub over : is_over ≡ true → IfSome left_then EndsHere
  pub kept : is_over ≡ false → Keeps left_then (pending rest after)
  pub no_event : is_over ≡ false → IfSome left_then IsDamagedRecord
  pub number : is_over ≡ false → rest.number ≡ lines
  pub fewer : is_over ≡ false → left rest ≤ left part

-- why no more of them are taken
pub record EventsStop (server : Server) (old new : Standing) (spent : Type 0) (before : Option (List ℕ)) (lines : ℕ)
    (outs outs_then : Outputs) (e : ResumeError) : Type 0 where
  pub rest : Option (List ℕ)
  pub reached : Standing
  pub lines_then : ℕ
  pub half : Outputs
  pub last : Option StepOut
  pub takes : TakesEvents server old reached before rest lines lines_then outs half last
  pub stops : NextStops server reached new spent rest lines_then half outs_then e

-- ---- segments

-- segments were taken that come next in a record, each under its configuration, their steps were shown, and they were told to the journal
pub record TakesSegments (server server_then : Server) (old new : Standing) (before rest : Option (List ℕ)) (lines lines_then : ℕ)
    (outs outs_then : Outputs) (last : Option StepOut) : Type 0 where
  pub segments : List Segment
  pub text : List ℕ
  pub periods : List Period
  pub says : SaysSegments segments text
  pub consumes : Consumes before rest text
  pub counted : lines_then ≡ lines + count_by is_end text
  pub stated : AreStated segments periods
  pub frames : AllByRecursion (KeepsFrame server) periods
  pub runs : RunsUnder server old new periods
  pub last_is : newest_step runs.history ≡ last
  pub in_force : server_then ≡ record { config = config_behind server.config periods; word = server.word }
  pub is_under : server_then ≡ under server (config_behind server.config periods)
  pub shown : Shows outs.shown outs_then.shown runs.steps
  pub noted : NotesSegments outs.written outs_then.written segments

-- up to the end of the record, or to where no event begins
pub record ReachesNext (server server_then : Server) (old new : Standing) (before : Option (List ℕ)) (part rest : Reading) (after : Option (List ℕ))
    (outs outs_then : Outputs) (lines : ℕ) (last : Option StepOut) (is_over : Bool) : Type 0 where
  pub left_then : Option (List ℕ)
  pub takes : TakesSegments server server_then old new before left_then part.number lines outs outs_then last
  pub over : is_over ≡ true → IfSome left_then EndsCut
  pub kept : is_over ≡ false → Keeps left_then (pending rest after)
  pub no_event : is_over ≡ false → IfSome left_then IsDamagedRecord
  pub number : is_over ≡ false → rest.number ≡ lines
  pub fewer : is_over ≡ false → left rest < left part

-- why no more of them are taken
pub record SegmentsStop (server server_then : Server) (old new : Standing) (longest : ℕ) (spent : Type 0) (before : Option (List ℕ)) (lines : ℕ)
    (outs outs_then : Outputs) (e : RecordError) : Type 0 where
  pub rest : Option (List ℕ)
  pub reached : Standing
  pub in_force : Server
  pub lines_then : ℕ
  pub half : Outputs
  pub last : Option StepOut
  pub takes : TakesSegments server in_force old reached before rest lines lines_then outs half last
  pub why : RecordStops in_force server_then reached new longest spent rest lines_then half outs_then e
  pub noted : NotesSegments outs.written outs_then.written takes.segments

-- why no segment begins here, of which the server is as it was: the record ends neither
abbrev pub UnbegunStops : Server → ℕ → Type 0 → Option (List ℕ) → ℕ → RecordError → Type 0
UnbegunStops server longest spent rest lines NoMemory = ⊤
UnbegunStops server longest spent rest lines (Damaged line) = IfSome rest IsDamagedConfiguration × (line ≡ lines + 1)
UnbegunStops server longest spent rest lines Read = spent
UnbegunStops server longest spent rest lines Step = ⊥
UnbegunStops server longest spent rest lines Journal = ⊥
UnbegunStops server longest spent rest lines (TooLong line) = IfSome rest (IsLongConfiguration longest) × (line ≡ lines + 1)
UnbegunStops server longest spent rest lines (NoConfiguration line e) = NextIs rest (λ bytes. StatesNone bytes e) × (line ≡ lines + 1)
UnbegunStops server longest spent rest lines (OtherFrame line key) = NextIs rest (λ bytes. StatesOther server bytes key) × (line ≡ lines + 1)
UnbegunStops server longest spent rest lines Write = ⊥
