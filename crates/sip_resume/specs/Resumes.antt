-- A server that takes the events of a record again.
use Rattle.std.specs.Prelude.{◌≡◌, ◌⊎◌, ◌+◌, ⊤, ℕ, List, [], ◌∷◌, ◌++◌, count_by, Option, None, Some, IfSome, IsSome}
use Rattle.sip_event.specs.declared.event.Event.{Event}
use Rattle.sip_event.specs.declared.event.StepOut.{StepOut}
use Rattle.sip_model.specs.state.declared.server.Server.{Server}
use Rattle.sip_model.specs.state.declared.proxy_state.ProxyState.{ProxyState}
use Rattle.sip_model.specs.state.State.{first_state}
use Rattle.sip_model.specs.Run.{Link, IsRun, event_moment}
use Rattle.sip_model.specs.Access.{Access}
use Rattle.sip_model.specs.Bounds.{IsBounded}
use Rattle.sip_model.specs.TimerOrder.{Standing, queue_from}
use Rattle.sip_model.specs.Ties.{AreOrderly}
use Rattle.sip_run.specs.engine.declared.error.StepError.{StepError}
use Rattle.sip_run.specs.engine.declared.error.StepError.TheVariants as step_errors
use Rattle.sip_run.specs.engine.StepError.{refusal_at}
use Rattle.sip_run.specs.Refusals.{refusal_of_event}
use Rattle.sip_replay_script.specs.Lines.{Reading, is_end}
use Rattle.sip_replay_script.specs.Recorded.{SaysRecorded, SaysRecord, GivesRecorded, IsCutRecord, IsDamagedRecord}
use Rattle.sip_journal.specs.Record.{Notes}
use Rattle.sip_resume.specs.Outputs.{Outputs, Shows, ShowsFront}
use Rattle.sip_resume.specs.declared.error.ResumeError.{ResumeError}
use Rattle.sip_resume.specs.declared.error.ResumeError.TheVariants.{NoMemory, Damaged, Read, Step, Journal, Write}

-- These events have a run from one state to another, in which time passes only where the first of what is due happens, in the order in which
-- timers stand, and all that is due by the moment of an event happens before it.
pub record Runs (server : Server) (old new : Standing) (events : List Event) (until : Option ℕ) : Type 0 where
  pub steps : List StepOut
  pub history : List Link
  pub is_run : IsRun server old.state events until steps history new.state
  pub orderly : AreOrderly server old.queue history
  pub queue : new.queue ≡ queue_from old.queue history

-- a record ends here: nothing is left, or the front of what says one event as a record does, of which the rest was cut off
abbrev pub EndsHere : List ℕ → Type 0
EndsHere rest = (rest ≡ []) ⊎ IsCutRecord rest

-- what the newest step of a history put out
abbrev pub newest_step : List Link → Option StepOut
newest_step [] = None
newest_step (link ∷ links) = Some link.out

-- A record, where its bytes are known, is a text that says events as a record does, and behind it nothing, or the front of what says one more. The server
-- took these events, in their order, and what was due by the moment of each before it: the state is where their run leads; the journal was told them;
-- so many lines said them; and that is the last step of the run, which is the last event's own, since time passes only up to that event.
pub record IsResumed (server : Server) (old new : Standing) (record_bytes : Option (List ℕ)) (written written_then : Option (Option (List ℕ)))
    (lines : ℕ) (last : Option StepOut) : Type 0 where
  pub text : List ℕ
  pub further : List ℕ
  pub events : List Event
  pub whole : IfSome record_bytes (λ bytes. bytes ≡ text ++ further)
  pub says : SaysRecord events text
  pub ends : EndsHere further
  pub runs : Runs server old new events None
  pub noted : Notes written written_then events
  pub counted : lines ≡ count_by is_end text
  pub last_is : newest_step runs.history ≡ last

-- what is still to come begins with an event
pub record IsNext (rest : Option (List ℕ)) (event : Event) : Type 0 where
  pub text : List ℕ
  pub says : SaysRecorded text event
  pub begins : IfSome rest (λ bytes. (further : List ℕ) × (bytes ≡ text ++ further))

-- events have such a run, and a front of what is printed of its steps was shown
pub record RunsPart (server : Server) (old new : Standing) (events : List Event) (until : Option ℕ) (shown shown_then : Option (List ℕ)) : Type 0 where
  pub runs : Runs server old new events until
  pub front : ShowsFront shown shown_then runs.steps

-- an event comes next, time passed up to its moment at most, and it wasn't taken
pub record PassesTime (server : Server) (old new : Standing) (rest : Option (List ℕ)) (outs outs_then : Outputs) : Type 0 where
  pub event : Event
  pub next : IsNext rest event
  pub part : RunsPart server old new [] (Some (event_moment event)) outs.shown outs_then.shown

-- the event that comes next was taken, and its steps weren't all shown
pub record TakesUnshown (server : Server) (old new : Standing) (rest : Option (List ℕ)) (outs outs_then : Outputs) : Type 0 where
  pub event : Event
  pub next : IsNext rest event
  pub part : RunsPart server old new (event ∷ []) None outs.shown outs_then.shown

-- it stopped as time passed up to the event that comes next, or where the steps of that event were shown
abbrev pub StopsAmong : Server → Standing → Standing → Option (List ℕ) → Outputs → Outputs → Type 0
StopsAmong server old new rest outs outs_then = PassesTime server old new rest outs outs_then ⊎ TakesUnshown server old new rest outs outs_then

-- it is as it was, and nothing was shown
pub record StaysAsItWas (old new : Standing) (outs outs_then : Outputs) : Type 0 where
  pub state : new ≡ old
  pub shown : outs_then.shown ≡ outs.shown

-- memory ran out: before any event was read that comes next, or for that event
abbrev pub RunsOut : Server → Standing → Standing → Option (List ℕ) → Outputs → Outputs → Type 0
RunsOut server old new rest outs outs_then = StaysAsItWas old new outs outs_then ⊎ StopsAmong server old new rest outs outs_then

-- An event comes next, time passed up to its moment, and the server refuses its step then. A moment that is too large for what is due
-- is so for the event, too.
pub record RefusesNext (server : Server) (old new : Standing) (rest : Option (List ℕ)) (outs outs_then : Outputs) : Type 0 where
  pub event : Event
  pub next : IsNext rest event
  pub runs : Runs server old new [] (Some (event_moment event))
  pub shown : Shows outs.shown outs_then.shown runs.steps
  pub refused : IsSome (refusal_of_event new.state event)

-- the event that comes next was taken, its steps were shown, and the journal wasn't told it, since it failed
pub record TakesUntold (server : Server) (old new : Standing) (rest : Option (List ℕ)) (outs outs_then : Outputs) : Type 0 where
  pub event : Event
  pub next : IsNext rest event
  pub runs : Runs server old new (event ∷ []) None
  pub shown : Shows outs.shown outs_then.shown runs.steps
  pub failed : outs_then.written ≡ None

-- Why an event isn't taken of what is still to come of a record, behind so many lines, and where the server stands then: memory ran
-- out, before an event was read or at it, or what steps are shown to stopped; or it is as it was, since what is left is damaged from the next
-- line on (it begins with no text that says an event as a record does, and is no front of one), or the reader stopped; or the server refuses
-- the step; or the journal failed behind it.
abbrev pub ResumeStops : Server → Standing → Standing → Type 0 → Option (List ℕ) → ℕ → Outputs → Outputs → ResumeError → Type 0
ResumeStops server old new spent rest lines outs outs_then NoMemory = RunsOut server old new rest outs outs_then
ResumeStops server old new spent rest lines outs outs_then (Damaged line) =
    (new ≡ old) × IfSome rest IsDamagedRecord × (line ≡ lines + 1) × (outs_then.shown ≡ outs.shown)
ResumeStops server old new spent rest lines outs outs_then Read = (new ≡ old) × spent × (outs_then.shown ≡ outs.shown)
ResumeStops server old new spent rest lines outs outs_then Step = RefusesNext server old new rest outs outs_then
ResumeStops server old new spent rest lines outs outs_then Journal = TakesUntold server old new rest outs outs_then
ResumeStops server old new spent rest lines outs outs_then Write = StopsAmong server old new rest outs outs_then

-- ---- a run goes on

-- A run from the start over some events, and one over others behind it: one run over all of them, each of whose steps is lawful by its
-- history, as `Access` says, and which is bounded, as `IsBounded` says.
pub record IsOneRun (server : Server) (first : ℕ) (events more : List Event) (until : Option ℕ) (steps further : List StepOut)
    (history later : List Link) (last : ProxyState) : Type 0 where
  pub is_run : IsRun server (first_state first) (events ++ more) until (steps ++ further) (later ++ history) last
  pub access : Access server (later ++ history)
  pub bounded : IsBounded server (later ++ history)

-- ---- inside

-- events have such a run, and what is printed of its steps was shown
pub record RunsShown (server : Server) (old new : Standing) (events : List Event) (until : Option ℕ) (shown shown_then : Option (List ℕ)) : Type 0 where
  pub runs : Runs server old new events until
  pub all : Shows shown shown_then runs.steps

-- an event was taken, that is its own step, and its steps were shown
pub record TakesOwn (server : Server) (old new : Standing) (event : Event) (shown shown_then : Option (List ℕ)) (out : StepOut) : Type 0 where
  pub runs : Runs server old new (event ∷ []) None
  pub last : newest_step runs.history ≡ Some out
  pub all : Shows shown shown_then runs.steps

-- the next event of the record was taken, its steps were shown, and it was told to the journal
pub record TakesNext (server : Server) (old new : Standing) (part rest : Reading) (middle after : Option (List ℕ)) (outs outs_then : Outputs)
    (out : StepOut) : Type 0 where
  pub event : Event
  pub gives : GivesRecorded part rest middle after event
  pub takes : TakesOwn server old new event outs.shown outs_then.shown out
  pub noted : Notes outs.written outs_then.written (event ∷ [])

-- a step is refused for want of memory, or as the server says
abbrev pub StepStops : Option StepError → StepError → Type 0
StepStops refusal step_errors.NoMemory = ⊤
StepStops refusal step_errors.MomentTooLarge = IsSome refusal
StepStops refusal step_errors.Worn = IsSome refusal

-- what is due by a moment was shown as far as it happened, and the next step is refused
pub record RefusesDue (server : Server) (old new : Standing) (until : Option ℕ) (shown shown_then : Option (List ℕ)) (refusal : Option StepError) : Type 0 where
  pub due : RunsShown server old new [] until shown shown_then
  pub refused : IsSome refusal

-- why what is due by a moment didn't all happen
abbrev pub FiringStops : Server → Standing → Standing → ℕ → Option (List ℕ) → Option (List ℕ) → ResumeError → Type 0
FiringStops server old new at shown shown_then NoMemory = RunsPart server old new [] (Some at) shown shown_then
FiringStops server old new at shown shown_then (Damaged line) = ⊥
FiringStops server old new at shown shown_then Read = ⊥
FiringStops server old new at shown shown_then Step = RefusesDue server old new (Some at) shown shown_then (refusal_at at)
FiringStops server old new at shown shown_then Journal = ⊥
FiringStops server old new at shown shown_then Write = RunsPart server old new [] (Some at) shown shown_then

-- it stopped before an event, or at it
abbrev pub StopsAround : Server → Standing → Standing → Event → Option (List ℕ) → Option (List ℕ) → Type 0
StopsAround server old new event shown shown_then =
    RunsPart server old new [] (Some (event_moment event)) shown shown_then ⊎ RunsPart server old new (event ∷ []) None shown shown_then

-- why an event that was read isn't taken
abbrev pub TurnStops : Server → Standing → Standing → Event → Option (List ℕ) → Option (List ℕ) → ResumeError → Type 0
TurnStops server old new event shown shown_then NoMemory = StopsAround server old new event shown shown_then
TurnStops server old new event shown shown_then (Damaged line) = ⊥
TurnStops server old new event shown shown_then Read = ⊥
TurnStops server old new event shown shown_then Step =
    RefusesDue server old new (Some (event_moment event)) shown shown_then (refusal_of_event new.state event)
TurnStops server old new event shown shown_then Journal = ⊥
TurnStops server old new event shown shown_then Write = StopsAround server old new event shown shown_then

-- why no event is read behind so many lines
abbrev pub UnreadStops : Type 0 → Option (List ℕ) → ℕ → ResumeError → Type 0
UnreadStops spent rest lines NoMemory = ⊤
UnreadStops spent rest lines (Damaged line) = IfSome rest IsDamagedRecord × (line ≡ lines + 1)
UnreadStops spent rest lines Read = spent
UnreadStops spent rest lines Step = ⊥
UnreadStops spent rest lines Journal = ⊥
UnreadStops spent rest lines Write = ⊥

-- where an event isn't taken, the journal is as it was, or has failed
abbrev pub JournalAt : Option (Option (List ℕ)) → Option (Option (List ℕ)) → ResumeError → Type 0
JournalAt old new NoMemory = new ≡ old
JournalAt old new (Damaged line) = new ≡ old
JournalAt old new Read = new ≡ old
JournalAt old new Step = new ≡ old
JournalAt old new Journal = new ≡ None
JournalAt old new Write = new ≡ old
