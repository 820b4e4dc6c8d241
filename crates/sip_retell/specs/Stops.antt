-- Why a record isn't told further, and what was told by then.
use Rattle.std.specs.Prelude.{◌≡◌, ◌⊎◌, ◌+◌, ⊤, ℕ, false, List, [], ◌∷◌, Option, None, Some, IfSome, IsSome}
use Rattle.sip_event.specs.declared.event.Event.{Event}
use Rattle.sip_model.specs.state.declared.server.Server.{Server}
use Rattle.sip_model.specs.Run.{event_moment}
use Rattle.sip_model.specs.TimerOrder.{Standing}
use Rattle.sip_resume.specs.run.engine.declared.error.StepError.{StepError}
use Rattle.sip_resume.specs.run.engine.StepError.{refusal_at}
use Rattle.sip_resume.specs.run.Refusals.{refusal_of_event}
use Rattle.sip_replay_script.specs.Recorded.{IsDamagedRecord}
use Rattle.sip_journal.specs.Configurations.{IsDamagedConfiguration, IsLongConfiguration}
use Rattle.sip_config.specs.Stated.{StatesNone}
use Rattle.sip_segment_config.specs.Last.{IsDamagedPart}
use Rattle.sip_segment_config.specs.Stops.{NextIs}
use Rattle.sip_resume.specs.Resumes.{IsNext}
use Rattle.sip_resume.specs.Stops.{StatesOther}
use Rattle.sip_listener.specs.Heard.{Heard}
use Rattle.sip_retell.specs.Items.{is_later}
use Rattle.sip_retell.specs.Retells.{RunsMost, RunsTold, TakesItems}
use Rattle.sip_retell.specs.declared.error.RetellError.{RetellError}
use Rattle.sip_retell.specs.declared.error.RetellError.TheVariants.{NoMemory, Damaged, Read, Step, TooLong, NoConfiguration, OtherFrame, Listener}

-- ---- time

-- a step is refused at some moment, behind others that happened and were told
pub record RefusesAt {L : Type 0} (hears : L → Heard → L → Type 0) (server : Server) (old new : Standing) (until : Option ℕ) (heard heard_then : L)
    (refusal : Option StepError) : Type 0 where
  pub due : RunsTold hears server old new [] until heard heard_then
  pub refused : IsSome refusal

-- Why what is due by a moment didn't all happen: memory ran out, or the listener stopped, where some of it happened, and was told, but for
-- the last perhaps; or the moment is too large.
abbrev pub PassingStops : {L : Type 0} → (L → Heard → L → Type 0) → (L → Heard → L → Type 0) → Server → Standing → Standing → ℕ → L → L → RetellError → Type 0
PassingStops hears refuses server old new at heard heard_then NoMemory = RunsMost hears refuses server old new [] (Some at) heard heard_then
PassingStops hears refuses server old new at heard heard_then (Damaged line) = ⊥
PassingStops hears refuses server old new at heard heard_then Read = ⊥
PassingStops hears refuses server old new at heard heard_then Step = RefusesAt hears server old new (Some at) heard heard_then (refusal_at at)
PassingStops hears refuses server old new at heard heard_then (TooLong line) = ⊥
PassingStops hears refuses server old new at heard heard_then (NoConfiguration line e) = ⊥
PassingStops hears refuses server old new at heard heard_then (OtherFrame line key) = ⊥
PassingStops hears refuses server old new at heard heard_then Listener = RunsMost hears refuses server old new [] (Some at) heard heard_then

-- ---- an event

-- it stopped as time passed up to an event, or at it
abbrev pub StopsAround : {L : Type 0} → (L → Heard → L → Type 0) → (L → Heard → L → Type 0) → Server → Standing → Standing → Event → L → L → Type 0
StopsAround hears refuses server old new event heard heard_then =
    RunsMost hears refuses server old new [] (Some (event_moment event)) heard heard_then ⊎ RunsMost hears refuses server old new (event ∷ []) None heard heard_then

-- an event comes next, which isn't later than the moment, and there it stopped
pub record StopsAt {L : Type 0} (hears refuses : L → Heard → L → Type 0) (server : Server) (old new : Standing) (until : Option ℕ) (rest : Option
    (List ℕ)) (heard heard_then : L) : Type 0 where
  pub event : Event
  pub next : IsNext rest event
  pub in_time : is_later until (event_moment event) ≡ false
  pub part : StopsAround hears refuses server old new event heard heard_then

-- such an event comes next, time passed up to its moment, and the server refuses its step then
pub record RefusesNext {L : Type 0} (hears : L → Heard → L → Type 0) (server : Server) (old new : Standing) (until : Option ℕ) (rest : Option
    (List ℕ)) (heard heard_then : L) : Type 0 where
  pub event : Event
  pub next : IsNext rest event
  pub in_time : is_later until (event_moment event) ≡ false
  pub refuses : RefusesAt hears server old new (Some (event_moment event)) heard heard_then (refusal_of_event new.state event)

-- it is as it was, and nothing was told
pub record StaysAsItWas {L : Type 0} (old new : Standing) (heard heard_then : L) : Type 0 where
  pub state : new ≡ old
  pub silent : heard_then ≡ heard

-- so it is, for a reason, and what is left begins on a line
pub record IsUntaken {L : Type 0} (old new : Standing) (Why : Type 0) (lines line : ℕ) (heard heard_then : L) : Type 0 where
  pub stays : StaysAsItWas old new heard heard_then
  pub why : Why
  pub at : line ≡ lines + 1

-- Why nothing more is told of what is still to come of a record, behind so many lines: memory ran out, before an event was read or at it; or the
-- server is as it was, since what is left is damaged, the reader stopped, or the configuration that comes next is too long, none, or another
-- server's; or it refuses the step of the event that comes next; or the listener stopped.
abbrev pub RetellStops : {L : Type 0} → (L → Heard → L → Type 0) → (L → Heard → L → Type 0) → Server → Standing → Standing → ℕ → Type 0 → Option
    (List ℕ) → ℕ → Option ℕ → L → L → RetellError → Type 0
RetellStops hears refuses server old new longest spent rest lines until heard heard_then NoMemory =
    StaysAsItWas old new heard heard_then ⊎ StopsAt hears refuses server old new until rest heard heard_then
RetellStops hears refuses server old new longest spent rest lines until heard heard_then (Damaged line) =
    IsUntaken old new (IfSome rest IsDamagedPart) lines line heard heard_then
RetellStops hears refuses server old new longest spent rest lines until heard heard_then Read = StaysAsItWas old new heard heard_then × spent
RetellStops hears refuses server old new longest spent rest lines until heard heard_then Step = RefusesNext hears server old new until rest heard heard_then
RetellStops hears refuses server old new longest spent rest lines until heard heard_then (TooLong line) =
    IsUntaken old new (IfSome rest (IsLongConfiguration longest)) lines line heard heard_then
RetellStops hears refuses server old new longest spent rest lines until heard heard_then (NoConfiguration line e) =
    IsUntaken old new (NextIs rest (λ bytes. StatesNone bytes e)) lines line heard heard_then
RetellStops hears refuses server old new longest spent rest lines until heard heard_then (OtherFrame line key) =
    IsUntaken old new (NextIs rest (λ bytes. StatesOther server bytes key)) lines line heard heard_then
RetellStops hears refuses server old new longest spent rest lines until heard heard_then Listener = StopsAt hears refuses server old new until rest heard heard_then

-- Items were taken that come next in a record, exactly their steps were told, and behind them it stopped.
pub record IsUnretold {L : Type 0} (hears refuses : L → Heard → L → Type 0) (server server_then : Server) (old new : Standing) (longest : ℕ)
    (spent : Type 0) (record_bytes : Option (List ℕ)) (lines : ℕ)
    (until : Option ℕ) (heard heard_then : L) (e : RetellError) : Type 0 where
  pub rest : Option (List ℕ)
  pub reached : Standing
  pub lines_then : ℕ
  pub half : L
  pub takes : TakesItems hears server server_then old reached record_bytes rest lines lines_then until heard half
  pub why : RetellStops hears refuses server_then reached new longest spent rest lines_then until half heard_then e

-- ---- inside

-- why an event that was read isn't taken
abbrev pub TurnStops : {L : Type 0} → (L → Heard → L → Type 0) → (L → Heard → L → Type 0) → Server → Standing → Standing → Event → L → L → RetellError → Type 0
TurnStops hears refuses server old new event heard heard_then NoMemory = StopsAround hears refuses server old new event heard heard_then
TurnStops hears refuses server old new event heard heard_then (Damaged line) = ⊥
TurnStops hears refuses server old new event heard heard_then Read = ⊥
TurnStops hears refuses server old new event heard heard_then Step =
    RefusesAt hears server old new (Some (event_moment event)) heard heard_then (refusal_of_event new.state event)
TurnStops hears refuses server old new event heard heard_then (TooLong line) = ⊥
TurnStops hears refuses server old new event heard heard_then (NoConfiguration line e) = ⊥
TurnStops hears refuses server old new event heard heard_then (OtherFrame line key) = ⊥
TurnStops hears refuses server old new event heard heard_then Listener = StopsAround hears refuses server old new event heard heard_then

-- why no event is read behind so many lines
abbrev pub UnreadStops : Type 0 → Option (List ℕ) → ℕ → RetellError → Type 0
UnreadStops spent rest lines NoMemory = ⊤
UnreadStops spent rest lines (Damaged line) = IfSome rest IsDamagedRecord × (line ≡ lines + 1)
UnreadStops spent rest lines Read = spent
UnreadStops spent rest lines Step = ⊥
UnreadStops spent rest lines (TooLong line) = ⊥
UnreadStops spent rest lines (NoConfiguration line e) = ⊥
UnreadStops spent rest lines (OtherFrame line key) = ⊥
UnreadStops spent rest lines Listener = ⊥

-- and why no configuration is taken
abbrev pub UnbegunStops : Server → ℕ → Type 0 → Option (List ℕ) → ℕ → RetellError → Type 0
UnbegunStops server longest spent rest lines NoMemory = ⊤
UnbegunStops server longest spent rest lines (Damaged line) = IfSome rest IsDamagedConfiguration × (line ≡ lines + 1)
UnbegunStops server longest spent rest lines Read = spent
UnbegunStops server longest spent rest lines Step = ⊥
UnbegunStops server longest spent rest lines (TooLong line) = IfSome rest (IsLongConfiguration longest) × (line ≡ lines + 1)
UnbegunStops server longest spent rest lines (NoConfiguration line e) = NextIs rest (λ bytes. StatesNone bytes e) × (line ≡ lines + 1)
UnbegunStops server longest spent rest lines (OtherFrame line key) = NextIs rest (λ bytes. StatesOther server bytes key) × (line ≡ lines + 1)
UnbegunStops server longest spent rest lines Listener = ⊥

-- why an event isn't taken where what is left says no configuration: the same, but a damaged event alone doesn't say that nothing comes
abbrev pub EventStops : {L : Type 0} → (L → Heard → L → Type 0) → (L → Heard → L → Type 0) → Server → Standing → Standing → Type 0 → Option
    (List ℕ) → ℕ → Option ℕ → L → L → RetellError → Type 0
EventStops hears refuses server old new spent rest lines until heard heard_then NoMemory =
    StaysAsItWas old new heard heard_then ⊎ StopsAt hears refuses server old new until rest heard heard_then
EventStops hears refuses server old new spent rest lines until heard heard_then (Damaged line) =
    IsUntaken old new (IfSome rest IsDamagedRecord) lines line heard heard_then
EventStops hears refuses server old new spent rest lines until heard heard_then Read = StaysAsItWas old new heard heard_then × spent
EventStops hears refuses server old new spent rest lines until heard heard_then Step = RefusesNext hears server old new until rest heard heard_then
EventStops hears refuses server old new spent rest lines until heard heard_then (TooLong line) = ⊥
EventStops hears refuses server old new spent rest lines until heard heard_then (NoConfiguration line e) = ⊥
EventStops hears refuses server old new spent rest lines until heard heard_then (OtherFrame line key) = ⊥
EventStops hears refuses server old new spent rest lines until heard heard_then Listener = StopsAt hears refuses server old new until rest heard heard_then
