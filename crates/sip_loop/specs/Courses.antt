-- How serving goes on, piece by piece: what each piece does leads on from what was done before it.
use Rattle.std.specs.Prelude.{ℕ, ◌≡◌, ◌≢◌, ◌≤◌, ◌+◌, ◌⊎◌, ⊤, true, List, [], ◌∷◌, ◌++◌, length, Option, Some, None, IsSome}
use Rattle.rand_core.specs.Stream.{Stream}
use Rattle.sip_transport.specs.declared.datagram.Given.{Given}
use Rattle.sip_transport.specs.declared.datagram.HeardDatagram.{HeardDatagram}
use Rattle.std.specs.List.{AllByRecursion}
use Rattle.sip_replay_script.specs.EventText.{is_sayable}
use Rattle.sip_event.specs.declared.event.Event.{Event}
use Rattle.sip_event.specs.declared.event.Event.TheVariants.{Time, Fault}
use Rattle.sip_event.specs.declared.event.StepOut.{StepOut}
use Rattle.sip_event.specs.declared.packet.Packet.{Packet}
use Rattle.sip_event.specs.declared.packet.Ticket.{Ticket}
use Rattle.sip_audit.specs.declared.record.Record.{Record}
use Rattle.sip_model.specs.state.declared.server.Server.{Server}
use Rattle.sip_model.specs.state.declared.proxy_state.ProxyState.{ProxyState}
use Rattle.sip_model.specs.Run.{Link, IsRun}
use Rattle.sip_model.specs.Ends.{sends_left, steps_left}
use Rattle.sip_model.specs.steps_model.Step.{Given as ForEvent, IsStep, moment_of}
use Rattle.sip_model.specs.TimerOrder.{IsFirstOf, IsQueueAfter, Standing, queue_from}
use Rattle.sip_run.specs.engine.StepError.{refusal_at}
use Rattle.sip_run.specs.Refusals.{refusal_of_event}
use Rattle.sip_run.specs.Runs.{IsInTurn}
use Rattle.sip_run.specs.Due.{NothingDueBy}
use Rattle.sip_loop.specs.Serving.{AreAt, AreDrawn, AreFaulted, AreInTurn, AreTold, AreWhole, Asked, Clear, Doing, IsPath, IsWhy, Kept, Point, Stage, Stopped, Told, Turn}
use Rattle.sip_loop.specs.Serving.{Unlogged, Untold}
use Rattle.sip_loop.specs.Serving.{ahead, between_turns, event_of_turn, event_taken, event_told, gathered, heard_of_turn, moment_read, packets_of, reading_of}
use Rattle.sip_loop.specs.Serving.{records_logged, records_of, steps_taken, told_more, turn_asked, untold_in}
use Rattle.sip_loop.specs.declared.serve_error.ServeError.{ServeError}
use Rattle.sip_loop.specs.declared.serve_error.ServeError.TheVariants.{NoMemory, Journal, Audit, Link as LinkFailed, Step}

-- ---- pieces

-- nothing but what waits to be sent is under way: each event was taken, told and printed
abbrev pub IsThrough : Stage → Type 0
IsThrough Clear = ⊤
IsThrough (Asked turn) = ⊤
IsThrough (Stopped cause) = ⊥
IsThrough (Untold cause records) = ⊥
IsThrough (Unlogged records) = ⊥

-- Something was done, and led from one point to another: its steps are a run over the events that were taken, each in its turn; the devices
-- told it; these are the records of its steps, which were printed once it was through; and so many readings and questions are in it.
pub record Course (server : Server) (old new : Standing) (from to : Point) (before after : Told) (records : List Record) (reads asks : ℕ) : Type 0 where
  pub done : List Doing
  pub path : IsPath from done to
  pub history : List Link
  pub is_run : IsRun server old.state (gathered event_taken done) (ahead done) (gathered steps_taken done) history new.state
  pub turns : AreInTurn server old.queue history
  pub queue : new.queue ≡ queue_from old.queue history
  pub sayable : AllByRecursion (λ (event : Event). is_sayable event ≡ true) (gathered event_taken done)
  pub told : AreTold before after done
  pub whole : AreWhole before done
  pub faulted : AreFaulted to.stage before after
  pub recorded : records_of (gathered steps_taken done) ≡ records
  pub told_but_last : gathered event_taken done ≡ gathered event_told done ++ untold_in to.stage
  pub through : IsThrough to.stage → (ahead done ≡ None) × (gathered records_logged done ≡ records)
  pub read : length (gathered moment_read done) ≡ reads
  pub asked : length (gathered turn_asked done) ≡ asks

-- Something was done up to a refusal.
pub record Breaks (server : Server) (old new : Standing) (from : Point) (before after : Told) (reads : ℕ) (e : ServeError) : Type 0 where
  pub to : Point
  pub records : List Record
  pub asks : ℕ
  pub course : Course server old new from to before after records reads asks
  pub why : IsWhy e to new.state

-- Turns were served whole.
pub record Goes (server : Server) (old new : Standing) (before after : Told) (count : ℕ) : Type 0 where
  pub records : List Record
  pub course : Course server old new (between_turns old.state.moment) (between_turns new.state.moment) before after records count count

-- Turns were served up to a refusal.
pub record BreaksOff (server : Server) (old new : Standing) (before after : Told) (most : ℕ) (e : ServeError) : Type 0 where
  pub count : ℕ
  pub within : count ≤ most
  pub breaks : Breaks server old new (between_turns old.state.moment) before after count e

-- nothing is under way, and so much waits to be sent, in a turn that is open or between two, behind a step at a moment
abbrev pub waiting_at : Option ℕ → List Packet → ℕ → Point
waiting_at turn waiting at = record { turn = turn; stage = Clear; failed = None; waiting = waiting; at = at }

-- The rest of a turn was served, once what was due by its reading had happened.
pub record TurnGoes (server : Server) (old new : Standing) (at : ℕ) (before after : Told) : Type 0 where
  pub records : List Record
  pub course : Course server old new (waiting_at (Some at) [] old.state.moment) (between_turns new.state.moment) before after records 0 1

-- The same, refused.
abbrev pub TurnBreaks : Server → Standing → Standing → ℕ → Told → Told → ServeError → Type 0
TurnBreaks server old new at before after e = Breaks server old new (waiting_at (Some at) [] old.state.moment) before after 0 e

-- what the devices tell that have no part in sending
pub record Others : Type 0 where
  pub heard : Option (List (Option HeardDatagram))
  pub readings : Option (List ℕ)
  pub log : Kept
  pub words : Stream

-- with what was given to the link, and what the journal tells
abbrev pub told_with : Others → Option (List Given) → Kept → Told
told_with others given journal = record {
  heard = others.heard;
  given = given;
  readings = others.readings;
  journal = journal;
  log = others.log;
  words = others.words;
}

-- ---- a turn's event

-- It was asked for and taken: the link heard it, its word was drawn, and the step is its own.
pub record TakesTurn (server : Server) (old : Standing) (at : ℕ) (heard heard_now : Option (List (Option HeardDatagram))) (words left : Stream)
    (turn : Turn) (out : StepOut) (new : Standing) : Type 0 where
  pub is_at : reading_of turn ≡ at
  pub step : IsStep server old.state (ForEvent (event_of_turn turn)) out new.state
  pub queue : IsQueueAfter old new
  pub not_refused : refusal_of_event old.state (event_of_turn turn) ≡ None
  pub sayable : is_sayable (event_of_turn turn) ≡ true
  pub hears : heard_now ≡ told_more heard (heard_of_turn turn ∷ [])
  pub draws : AreDrawn words (turn ∷ []) left

-- The link failed, and no word was drawn.
pub record LinkFails (heard heard_now : Option (List (Option HeardDatagram))) (words left : Stream) (e : ServeError) : Type 0 where
  pub failed : e ≡ LinkFailed
  pub hears : heard_now ≡ heard
  pub draws : left ≡ words

-- why a turn's step isn't taken: memory ran out, or the server refuses it
abbrev pub IsWhyStep : ServeError → ProxyState → Turn → Type 0
IsWhyStep NoMemory old turn = ⊤
IsWhyStep Journal old turn = ⊥
IsWhyStep Audit old turn = ⊥
IsWhyStep LinkFailed old turn = ⊥
IsWhyStep Step old turn = IsSome (refusal_of_event old (event_of_turn turn))

-- The link heard this, and its word was drawn, and the step wasn't taken.
pub record StepFails (old : ProxyState) (at : ℕ) (heard heard_now : Option (List (Option HeardDatagram))) (words left : Stream) (e : ServeError) : Type 0 where
  pub turn : Turn
  pub is_at : reading_of turn ≡ at
  pub hears : heard_now ≡ told_more heard (heard_of_turn turn ∷ [])
  pub draws : AreDrawn words (turn ∷ []) left
  pub why : IsWhyStep e old turn

-- ---- what is due

-- What is due by a moment happened: these steps, oldest first, each at its own moment, and nothing is recorded.
pub record Happens (server : Server) (old new : Standing) (at : ℕ) (outs : List StepOut) : Type 0 where
  pub history : List Link
  pub is_run : IsRun server old.state [] (Some at) outs history new.state
  pub turns : AreInTurn server old.queue history
  pub queue : new.queue ≡ queue_from old.queue history
  pub no_records : records_of outs ≡ []
  pub stand : AreAt at outs

-- and what it hands out was added to what waits; something was, and what stands now stays so while nothing happens
pub record HappensAll (server : Server) (old new : Standing) (at : ℕ) (before after : List Packet) : Type 0 where
  pub outs : List StepOut
  pub some : outs ≢ []
  pub happens : Happens server old new at outs
  pub settled : IsQueueAfter new new
  pub added : after ≡ before ++ packets_of outs

-- why what is due isn't done: memory ran out, or the moment is too large
abbrev pub IsWhyDue : ServeError → ℕ → Type 0
IsWhyDue NoMemory at = ⊤
IsWhyDue Journal at = ⊥
IsWhyDue Audit at = ⊥
IsWhyDue LinkFailed at = ⊥
IsWhyDue Step at = IsSome (refusal_at at)

-- or some of it happened
pub record HappensTo (server : Server) (old new : Standing) (at : ℕ) : Type 0 where
  pub outs : List StepOut
  pub happens : Happens server old new at outs

-- nothing happened, and why
pub record HappensNot (old new : Standing) (at : ℕ) (e : ServeError) : Type 0 where
  pub same : new ≡ old
  pub why : IsWhyDue e at

-- Not all of it happened: memory ran out behind some of it; or nothing did.
abbrev pub HappensSome : Server → Standing → Standing → ℕ → ServeError → Type 0
HappensSome server old new at e = ((e ≡ NoMemory) × HappensTo server old new at) ⊎ HappensNot old new at e

-- what is due at a moment happened, and the moment was taken, in its turn
pub record TakesDue (server : Server) (old new : Standing) (at : ℕ) (before after : List Packet) : Type 0 where
  pub outs : List StepOut
  pub own : StepOut
  pub some : outs ≢ []
  pub stand : AreAt at outs
  pub history : List Link
  pub is_run : IsRun server old.state (Time at ∷ []) None (outs ++ own ∷ []) history new.state
  pub turns : AreInTurn server old.queue history
  pub queue : new.queue ≡ queue_from old.queue history
  pub no_records : records_of (outs ++ own ∷ []) ≡ []
  pub none_recorded : own.records ≡ []
  pub stands : new.state.moment ≡ own.at
  pub sayable : is_sayable (Time at) ≡ true
  pub added : after ≡ before ++ packets_of (outs ++ own ∷ [])

-- ---- steps

-- A state is no further from the end of what is due than another.
abbrev pub IsNoFurther : ProxyState → ProxyState → Type 0
IsNoFurther old new = (at : ℕ) → steps_left at new ≤ steps_left at old

-- less is left of what is due by any moment that isn't before one
abbrev pub LeavesFewer : ℕ → ProxyState → ProxyState → Type 0
LeavesFewer at old new = (by : ℕ) → moment_of old at ≤ moment_of old by → steps_left by new + 1 ≤ steps_left by old

-- The fault of a packet was taken at the state's moment, in its turn: nothing is recorded, nothing falls due by it, and each packet that it
-- hands out leaves one less that a fault can.
pub record TakesFault (server : Server) (old : Standing) (ticket : Ticket) (out : StepOut) (new : Standing) : Type 0 where
  pub step : IsStep server old.state (ForEvent (Fault old.state.moment ticket)) out new.state
  pub queue : IsQueueAfter old new
  pub in_turn : IsInTurn old.state (Fault old.state.moment ticket)
  pub none_due : NothingDueBy new.state.moment new.state
  pub stands : new.state.moment ≡ out.at
  pub sayable : is_sayable (Fault old.state.moment ticket) ≡ true
  pub no_records : out.records ≡ []
  pub fewer : length out.packets + sends_left new.state ≤ sends_left old.state
  pub no_further : IsNoFurther old.state new.state

-- The first of what is due happened, by a moment.
pub record FiresOne (server : Server) (old : Standing) (at : ℕ) (out : StepOut) (new : Standing) : Type 0 where
  pub happens : IsFirstOf server old.queue old.state at out new.state
  pub queue : IsQueueAfter old new
  pub rises : old.state.moment ≤ new.state.moment
  pub stands : new.state.moment ≡ out.at
  pub in_time : out.at ≤ moment_of old.state at
  pub no_records : out.records ≡ []
  pub fewer : LeavesFewer at old.state new.state
