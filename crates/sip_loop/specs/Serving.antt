-- What serving is: turn by turn a clock is read, what is due happens, a datagram is taken or none was heard; each event that was taken is
-- told to a journal, what it records is printed, and then what it hands out is given to a link.
use Rattle.std.specs.Prelude.{ℕ, ◌≡◌, ◌≢◌, ◌≤◌, ◌+◌, ◌*◌, ◌^◌, max, ⊤, Bool, true, false, List, [], ◌∷◌, ◌++◌, length, Option, Some, None, IsSome}
use Rattle.std.specs.List.{flat_map, AllByRecursion}
use Rattle.rand_core.specs.Stream.{Stream, next_u64}
use Rattle.sip_transport.specs.declared.datagram.Given.{Given}
use Rattle.sip_transport.specs.declared.datagram.HeardDatagram.{HeardDatagram}
use Rattle.sip_transport.specs.declared.datagram.SendOutcome.{SendOutcome}
use Rattle.sip_transport.specs.declared.datagram.SendOutcome.TheVariants.{Went, Failed}
use Rattle.sip_event.specs.declared.event.Event.{Event}
use Rattle.sip_event.specs.declared.event.Event.TheVariants.{Datagram, Time, Fault}
use Rattle.sip_event.specs.declared.event.StepOut.{StepOut}
use Rattle.sip_event.specs.declared.packet.Packet.{Packet}
use Rattle.sip_audit.specs.declared.record.Record.{Record}
use Rattle.sip_replay_script.specs.EventText.{is_sayable}
use Rattle.sip_journal.specs.Record.{Notes}
use Rattle.sip_model.specs.state.declared.server.Server.{Server}
use Rattle.sip_model.specs.state.declared.proxy_state.ProxyState.{ProxyState}
use Rattle.sip_model.specs.state.State.{first_state}
use Rattle.sip_model.specs.steps_model.Step.{Act, Given as ForEvent, Passing, moment_of}
use Rattle.sip_model.specs.Run.{Link, IsChain, IsRun, event_moment}
use Rattle.sip_model.specs.Access.{Access}
use Rattle.sip_model.specs.Bounds.{IsBounded}
use Rattle.model_transactions.specs.Queue.{Entry}
use Rattle.sip_model.specs.TimerOrder.{AllQueued, IsFirstOf, Standing, queue_from}
use Rattle.sip_run.specs.Due.{NothingDueBy}
use Rattle.sip_run.specs.engine.engine_time.Next.{IsNext}
use Rattle.sip_run.specs.Refusals.{refusal_of_event}
use Rattle.sip_run.specs.Runs.{IsInTurn}
use Rattle.sip_loop.specs.Printing.{Prints}
use Rattle.sip_loop.specs.declared.serving.Arrived.{Arrived}
use Rattle.sip_loop.specs.declared.serve_error.ServeError.{ServeError}
use Rattle.sip_loop.specs.declared.serve_error.ServeError.TheVariants.{NoMemory, Journal, Audit, Link as LinkFailed, Step}

-- ---- turns

-- What a turn brings: the clock's reading, and, if the link heard a datagram then, that and the word that was drawn for it.
pub data Turn : Type 0 where
  Silence : ℕ → Turn
  Arrival : ℕ → HeardDatagram → ℕ → Turn

-- the clock's reading
abbrev pub reading_of : Turn → ℕ
reading_of (Silence at) = at
reading_of (Arrival at heard word) = at

-- what the link heard
abbrev pub heard_of_turn : Turn → Option HeardDatagram
heard_of_turn (Silence at) = None
heard_of_turn (Arrival at heard word) = Some heard

-- its event: the datagram at that reading, or the reading alone
abbrev pub event_of_turn : Turn → Event
event_of_turn (Silence at) = Time at
event_of_turn (Arrival at heard word) = Datagram at word heard.from heard.bytes

-- what a reading brings: that alone, or a datagram of these bytes, with its source and its word
abbrev pub turn_at : ℕ → Option Arrived → List ℕ → Turn
turn_at at None bytes = Silence at
turn_at at (Some arrived) bytes = Arrival at (record { from = arrived.from; bytes = bytes }) arrived.word

-- the next two numbers of a source as one word, the high half first
abbrev pub word_from : Stream → ℕ
word_from words = (next_u64 words).0 * 2 ^ 64 + (next_u64 (next_u64 words).1).0

-- what is left of the source then
abbrev pub behind_word : Stream → Stream
behind_word words = (next_u64 (next_u64 words).1).1

-- Turns drew their words from a source, each datagram the next one, and left this of it.
abbrev pub AreDrawn : Stream → List Turn → Stream → Type 0
AreDrawn words [] left = left ≡ words
AreDrawn words (Silence at ∷ turns) left = AreDrawn words turns left
AreDrawn words (Arrival at heard word ∷ turns) left = (word ≡ word_from words) × AreDrawn (behind_word words) turns left

-- ---- what is done in them

-- What an event is taken for: something falls due at a moment; a turn brings it; a packet couldn't be sent, which is taken at a moment.
pub data Cause : Type 0 where
  FallsDue : ℕ → Cause
  Brought : Turn → Cause
  Unsent : ℕ → Packet → Cause

abbrev pub event_for : Cause → Event
event_for (FallsDue at) = Time at
event_for (Brought turn) = event_of_turn turn
event_for (Unsent at p) = Fault at p.ticket

-- What is done, each with the device that it is done by: the clock is read; the link is asked, which makes a turn; what is due by an event's
-- moment happens, and the event is taken; or what is due happened, and the event wasn't taken; the journal is told an event; the lines of
-- records are printed; a packet is given to the link, and went out or failed.
pub data Doing : Type 0 where
  Reads : ℕ → Doing
  Asks : Turn → Doing
  Takes : Cause → List StepOut → StepOut → Doing
  Fires : Cause → List StepOut → Doing
  Tells : Event → Doing
  Logs : List Record → Doing
  Sends : Packet → SendOutcome → Doing

-- what steps hand out, and what they record
abbrev pub packets_of : List StepOut → List Packet
packets_of steps = flat_map (λ (out : StepOut). out.packets) steps

abbrev pub records_of : List StepOut → List Record
records_of steps = flat_map (λ (out : StepOut). out.records) steps

-- what each of them adds, of doings the newest of which stands first, oldest first
abbrev pub gathered : {A : Type 0} → (Doing → List A) → List Doing → List A
gathered adds [] = []
gathered adds (doing ∷ done) = gathered adds done ++ adds doing

-- the event that is taken
abbrev pub event_taken : Doing → List Event
event_taken (Reads at) = []
event_taken (Asks turn) = []
event_taken (Takes cause due own) = event_for cause ∷ []
event_taken (Fires cause due) = []
event_taken (Tells event) = []
event_taken (Logs records) = []
event_taken (Sends p sending) = []

-- the steps
abbrev pub steps_taken : Doing → List StepOut
steps_taken (Reads at) = []
steps_taken (Asks turn) = []
steps_taken (Takes cause due own) = due ++ own ∷ []
steps_taken (Fires cause due) = due
steps_taken (Tells event) = []
steps_taken (Logs records) = []
steps_taken (Sends p sending) = []

-- the clock's reading
abbrev pub moment_read : Doing → List ℕ
moment_read (Reads at) = at ∷ []
moment_read (Asks turn) = []
moment_read (Takes cause due own) = []
moment_read (Fires cause due) = []
moment_read (Tells event) = []
moment_read (Logs records) = []
moment_read (Sends p sending) = []

-- the turn that the link was asked in
abbrev pub turn_asked : Doing → List Turn
turn_asked (Reads at) = []
turn_asked (Asks turn) = turn ∷ []
turn_asked (Takes cause due own) = []
turn_asked (Fires cause due) = []
turn_asked (Tells event) = []
turn_asked (Logs records) = []
turn_asked (Sends p sending) = []

-- what it heard then
abbrev pub heard_then : Doing → List (Option HeardDatagram)
heard_then (Reads at) = []
heard_then (Asks turn) = heard_of_turn turn ∷ []
heard_then (Takes cause due own) = []
heard_then (Fires cause due) = []
heard_then (Tells event) = []
heard_then (Logs records) = []
heard_then (Sends p sending) = []

-- the event that the journal was told
abbrev pub event_told : Doing → List Event
event_told (Reads at) = []
event_told (Asks turn) = []
event_told (Takes cause due own) = []
event_told (Fires cause due) = []
event_told (Tells event) = event ∷ []
event_told (Logs records) = []
event_told (Sends p sending) = []

-- the records whose lines were printed
abbrev pub records_logged : Doing → List Record
records_logged (Reads at) = []
records_logged (Asks turn) = []
records_logged (Takes cause due own) = []
records_logged (Fires cause due) = []
records_logged (Tells event) = []
records_logged (Logs records) = records
records_logged (Sends p sending) = []

-- what was given to the link
abbrev pub packet_given : Doing → List Given
packet_given (Reads at) = []
packet_given (Asks turn) = []
packet_given (Takes cause due own) = []
packet_given (Fires cause due) = []
packet_given (Tells event) = []
packet_given (Logs records) = []
packet_given (Sends p sending) = record { to = p.to; bytes = p.bytes; sending = sending } ∷ []

-- ---- their order

-- What is under way: nothing but what waits to be sent; the link was asked; what is due before an event happened, which isn't taken; an
-- event was taken, with these records, and the journal isn't told it; it was told, and the lines of its records aren't printed.
pub data Stage : Type 0 where
  Clear : Stage
  Asked : Turn → Stage
  Stopped : Cause → Stage
  Untold : Cause → List Record → Stage
  Unlogged : List Record → Stage

-- Where serving stands between two doings: the reading of the turn that is open, if one is; what is under way; the packet that failed and
-- whose fault comes next, if one did; the packets that wait to be sent, in their order; and the moment of the last step.
pub record Point : Type 0 where
  pub turn : Option ℕ
  pub stage : Stage
  pub failed : Option Packet
  pub waiting : List Packet
  pub at : ℕ

-- between two turns nothing waits
abbrev pub between_turns : ℕ → Point
between_turns at = record { turn = None; stage = Clear; failed = None; waiting = []; at = at }

-- nothing is under way, and nothing waits to be sent
pub record IsIdle (point : Point) : Type 0 where
  pub clear : point.stage ≡ Clear
  pub whole : point.failed ≡ None
  pub all_sent : point.waiting ≡ []

-- something may fall due in an open turn, once nothing waits, no later than the turn's reading; that goes back where the clock does
pub record MayFallDue (at : ℕ) (point : Point) : Type 0 where
  pub idle : IsIdle point
  pub reading : ℕ
  pub is_open : point.turn ≡ Some reading
  pub in_time : at ≤ max reading point.at

-- what a turn brings comes once the link was asked
pub record MayBring (turn : Turn) (point : Point) : Type 0 where
  pub asked : point.stage ≡ Asked turn
  pub whole : point.failed ≡ None
  pub all_sent : point.waiting ≡ []

-- the fault of a packet comes as soon as that failed, at the moment of the last step
pub record MayFail (at : ℕ) (p : Packet) (point : Point) : Type 0 where
  pub clear : point.stage ≡ Clear
  pub failed : point.failed ≡ Some p
  pub same : at ≡ point.at

-- an event may come
abbrev pub MayCome : Cause → Point → Type 0
MayCome (FallsDue at) point = MayFallDue at point
MayCome (Brought turn) point = MayBring turn point
MayCome (Unsent at p) point = MayFail at p point

-- a turn is over once its event was taken
abbrev pub turn_behind : Cause → Option ℕ → Option ℕ
turn_behind (FallsDue at) turn = turn
turn_behind (Brought turn) open_turn = None
turn_behind (Unsent at p) turn = turn

-- these steps stand at a moment
abbrev pub AreAt : ℕ → List StepOut → Type 0
AreAt at steps = AllByRecursion (λ (out : StepOut). out.at ≡ at) steps

-- what falls due at a moment comes before the event of that moment, and there is no such event without it; nothing is due before another
abbrev pub FallsAt : Cause → List StepOut → Type 0
FallsAt (FallsDue at) due = (due ≢ []) × AreAt at due
FallsAt (Brought turn) due = due ≡ []
FallsAt (Unsent at p) due = due ≡ []

-- an event is taken: what is due before it, and it, hand out what waits from then on
pub record TakesAt (before : Point) (cause : Cause) (due : List StepOut) (own : StepOut) (after : Point) : Type 0 where
  pub comes : MayCome cause before
  pub falls : FallsAt cause due
  pub leads : after ≡ record {
    turn = turn_behind cause before.turn;
    stage = Untold cause own.records;
    failed = None;
    waiting = before.waiting ++ packets_of (due ++ own ∷ []);
    at = own.at;
  }

-- or it isn't taken
pub record FiresAt (before : Point) (cause : Cause) (due : List StepOut) (after : Point) : Type 0 where
  pub comes : MayCome cause before
  pub falls : AreAt (event_moment (event_for cause)) due
  pub leads : after ≡ record before { stage = Stopped cause; waiting = before.waiting ++ packets_of due }

-- the clock is read once, when a turn begins
pub record ReadsAt (before : Point) (at : ℕ) (after : Point) : Type 0 where
  pub idle : IsIdle before
  pub none_open : before.turn ≡ None
  pub leads : after ≡ record before { turn = Some at }

-- and the link asked once behind that
pub record AsksAt (before : Point) (turn : Turn) (after : Point) : Type 0 where
  pub idle : IsIdle before
  pub is_open : before.turn ≡ Some (reading_of turn)
  pub leads : after ≡ record before { stage = Asked turn }

-- the journal is told the event that was taken last
pub record TellsAt (before : Point) (event : Event) (after : Point) : Type 0 where
  pub cause : Cause
  pub records : List Record
  pub untold : before.stage ≡ Untold cause records
  pub same : event ≡ event_for cause
  pub leads : after ≡ record before { stage = Unlogged records }

-- then the lines of its records are printed
pub record LogsAt (before : Point) (records : List Record) (after : Point) : Type 0 where
  pub unlogged : before.stage ≡ Unlogged records
  pub leads : after ≡ record before { stage = Clear }

-- a packet that failed
abbrev pub failing : Packet → SendOutcome → Option Packet
failing p Went = None
failing p Failed = Some p

-- then the packet that waits first is given to the link
pub record SendsAt (before : Point) (p : Packet) (sending : SendOutcome) (after : Point) : Type 0 where
  pub clear : before.stage ≡ Clear
  pub whole : before.failed ≡ None
  pub rest : List Packet
  pub first : before.waiting ≡ p ∷ rest
  pub leads : after ≡ record before { failed = failing p sending; waiting = rest }

-- what a doing leads to from where serving stands
abbrev pub Leads : Point → Doing → Point → Type 0
Leads before (Reads at) after = ReadsAt before at after
Leads before (Asks turn) after = AsksAt before turn after
Leads before (Takes cause due own) after = TakesAt before cause due own after
Leads before (Fires cause due) after = FiresAt before cause due after
Leads before (Tells event) after = TellsAt before event after
Leads before (Logs records) after = LogsAt before records after
Leads before (Sends p sending) after = SendsAt before p sending after

-- doings, newest first, lead from one point to another
abbrev pub IsPath : Point → List Doing → Point → Type 0
IsPath first [] last = last ≡ first
IsPath first (doing ∷ done) last = (before : Point) × IsPath first done before × Leads before doing last

-- up to which moment time passed behind the last event: that of an event which wasn't taken
abbrev pub moment_ahead : Doing → Option ℕ
moment_ahead (Reads at) = None
moment_ahead (Asks turn) = None
moment_ahead (Takes cause due own) = None
moment_ahead (Fires cause due) = Some (event_moment (event_for cause))
moment_ahead (Tells event) = None
moment_ahead (Logs records) = None
moment_ahead (Sends p sending) = None

abbrev pub ahead : List Doing → Option ℕ
ahead [] = None
ahead (doing ∷ done) = moment_ahead doing

-- the event that was taken and that the journal isn't told yet
abbrev pub untold_in : Stage → List Event
untold_in Clear = []
untold_in (Asked turn) = []
untold_in (Stopped cause) = []
untold_in (Untold cause records) = event_for cause ∷ []
untold_in (Unlogged records) = []

-- ---- what the devices tell

-- What the journal, or the log, tells: the bytes that were written, where it tells them and hasn't failed, and whether it answers faults.
pub record Kept : Type 0 where
  pub bytes : Option (Option (List ℕ))
  pub faulted : Bool

abbrev pub kept : Option (Option (List ℕ)) → Bool → Kept
kept bytes faulted = record { bytes = bytes; faulted = faulted }

-- What devices tell: what the link heard, call by call, and was given, and what the clock showed, oldest first, where they tell it;
-- what the journal and the log tell; and what a source of words will give.
pub record Told : Type 0 where
  pub heard : Option (List (Option HeardDatagram))
  pub given : Option (List Given)
  pub readings : Option (List ℕ)
  pub journal : Kept
  pub log : Kept
  pub words : Stream

-- by what each device tells of itself
abbrev pub told_by : Option (List (Option HeardDatagram)) → Option (List Given) → Option (List ℕ) → Kept → Kept → Stream → Told
told_by heard given readings journal log words =
    record { heard = heard; given = given; readings = readings; journal = journal; log = log; words = words }

-- a list that is told, with others at its end
abbrev pub told_more : {A : Type 0} → Option (List A) → List A → Option (List A)
told_more None more = None
told_more (Some list) more = Some (list ++ more)

-- a list grew so, where it is told in the end
abbrev pub IsToldMore : {A : Type 0} → Option (List A) → List A → Option (List A) → Type 0
IsToldMore old more None = ⊤
IsToldMore None more (Some all) = ⊥
IsToldMore (Some list) more (Some all) = all ≡ list ++ more

-- Devices told exactly what was done by them.
pub record AreTold (before after : Told) (done : List Doing) : Type 0 where
  pub heard : after.heard ≡ told_more before.heard (gathered heard_then done)
  pub given : after.given ≡ told_more before.given (gathered packet_given done)
  pub readings : IsToldMore before.readings (gathered moment_read done) after.readings
  pub words : AreDrawn before.words (gathered turn_asked done) after.words
  pub noted : Notes before.journal.bytes after.journal.bytes (gathered event_told done)
  pub printed : Prints before.log.bytes after.log.bytes (gathered records_logged done)

-- The journal answered no fault where it was told an event, nor the log where lines were printed: each that answered one goes on to.
pub record AreWhole (before : Told) (done : List Doing) : Type 0 where
  pub journal : gathered event_told done ≢ [] → before.journal.faulted ≡ false
  pub log : gathered records_logged done ≢ [] → before.log.faulted ≡ false

-- whether they answer faults is as it was
abbrev pub AreHeld : Told → Told → Type 0
AreHeld before after = (after.journal.faulted ≡ before.journal.faulted) × (after.log.faulted ≡ before.log.faulted)

-- it has failed, and says so
abbrev pub HasFailed : Kept → Type 0
HasFailed kept = (kept.bytes ≡ None) × (kept.faulted ≡ true)

-- The journal has failed, and said so, just where the event that was taken last wasn't told to it; and so has the log where its lines weren't printed.
abbrev pub AreFaulted : Stage → Told → Told → Type 0
AreFaulted Clear before after = AreHeld before after
AreFaulted (Asked turn) before after = AreHeld before after
AreFaulted (Stopped cause) before after = AreHeld before after
AreFaulted (Untold cause records) before after = HasFailed after.journal × (after.log.faulted ≡ before.log.faulted)
AreFaulted (Unlogged records) before after = (after.journal.faulted ≡ before.journal.faulted) × HasFailed after.log

-- ---- serving

-- An event comes in its turn: all that was due by its moment has happened, and the server doesn't refuse it; the fault of a packet comes at
-- the moment of the step before it. And time passes only where the first of what is due happens, in the order in which timers stand.
abbrev pub IsTurnOf : Server → List Entry → ProxyState → Act → StepOut → ProxyState → Type 0
IsTurnOf server queue before (ForEvent (Datagram at word from bytes)) out after = IsInTurn before (Datagram at word from bytes)
IsTurnOf server queue before (ForEvent (Time at)) out after = IsInTurn before (Time at)
IsTurnOf server queue before (ForEvent (Fault at ticket)) out after = (at ≡ before.moment) × IsInTurn before (Fault at ticket)
IsTurnOf server queue before (Passing at) out after = IsFirstOf server queue before at out after

abbrev pub AreInTurn : Server → List Entry → List Link → Type 0
AreInTurn server queue history = AllQueued (λ (standing : List Entry) (link : Link). IsTurnOf server standing link.before link.act link.out link.after) queue history

-- A server did these, newest first, in their order: its steps are a run of the model over the events that were taken, each in its turn, from the
-- state in which it was, with the timers that stood there; a script can say each of these events; each step of that run is lawful by its history, whatever history led to
-- that state, as `Access` says, and the
-- whole history is bounded, as `IsBounded` says; and the devices told what was done by them.
pub record Serves (server : Server) (old new : Standing) (before after : Told) (done : List Doing) : Type 0 where
  pub history : List Link
  pub is_run : IsRun server old.state (gathered event_taken done) (ahead done) (gathered steps_taken done) history new.state
  pub turns : AreInTurn server old.queue history
  pub queue : new.queue ≡ queue_from old.queue history
  pub sayable : AllByRecursion (λ (event : Event). is_sayable event ≡ true) (gathered event_taken done)
  pub access : (first : ℕ) (past : List Link) → IsChain server (first_state first) past old.state → Access server (history ++ past)
  pub bounded : (first : ℕ) (past : List Link) → IsChain server (first_state first) past old.state → IsBounded server (history ++ past)
  pub told : AreTold before after done
  pub whole : AreWhole before done

-- So many turns were served whole: each event was told to the journal, the lines of the records of all steps were printed, all that they hand
-- out was given to the link; and neither the journal nor the log answered a fault.
pub record IsServed (turns : ℕ) (server : Server) (old new : Standing) (before after : Told) : Type 0 where
  pub done : List Doing
  pub serves : Serves server old new before after done
  pub counted : length (gathered turn_asked done) ≡ turns
  pub in_order : IsPath (between_turns old.state.moment) done (between_turns new.state.moment)
  pub all_told : gathered event_taken done ≡ gathered event_told done
  pub logged : records_of (gathered steps_taken done) ≡ gathered records_logged done
  pub held : AreHeld before after

-- the journal failed: the event that it wasn't told was taken last, and nothing that it hands out was given
pub record IsUntold (point : Point) : Type 0 where
  pub cause : Cause
  pub records : List Record
  pub untold : point.stage ≡ Untold cause records

-- printing failed: the event whose lines weren't printed was told to the journal, and nothing that it hands out was given
pub record IsUnlogged (point : Point) : Type 0 where
  pub records : List Record
  pub unlogged : point.stage ≡ Unlogged records

-- the link failed as it was asked, once all that was due by the reading had happened, and all that was handed out was given
pub record IsUnheard (point : Point) (last : ProxyState) : Type 0 where
  pub idle : IsIdle point
  pub reading : ℕ
  pub is_open : point.turn ≡ Some reading
  pub none_due : NothingDueBy (moment_of last reading) last

-- Nothing is left that comes before an event: what falls due is the first that is due; nothing is due by the reading of a turn; and the
-- fault of a packet is never refused.
abbrev pub IsFirst : Cause → ProxyState → Type 0
IsFirst (FallsDue at) last = IsNext last.requests at
IsFirst (Brought turn) last = NothingDueBy (moment_of last (reading_of turn)) last
IsFirst (Unsent at p) last = ⊥

-- the server refuses the step of the event that comes next
pub record IsRefused (point : Point) (last : ProxyState) : Type 0 where
  pub cause : Cause
  pub comes : MayCome cause point
  pub first : IsFirst cause last
  pub refused : IsSome (refusal_of_event last (event_for cause))

-- Why serving ended: for want of memory at any call, what was given being a front of what the steps hand out, and each event that was taken
-- having been told; or since the journal, or printing, or the link failed; or since the server refuses a step.
abbrev pub IsWhy : ServeError → Point → ProxyState → Type 0
IsWhy NoMemory point last = untold_in point.stage ≡ []
IsWhy Journal point last = IsUntold point
IsWhy Audit point last = IsUnlogged point
IsWhy LinkFailed point last = IsUnheard point last
IsWhy Step point last = IsRefused point last

-- Serving was refused within so many turns: each event was told to the journal, but for the last one where that failed; and neither the journal nor
-- the log answered a fault, but the one that made an end of it.
pub record IsUnserved (turns : ℕ) (server : Server) (old new : Standing) (before after : Told) (e : ServeError) : Type 0 where
  pub done : List Doing
  pub serves : Serves server old new before after done
  pub within : length (gathered moment_read done) ≤ turns
  pub point : Point
  pub in_order : IsPath (between_turns old.state.moment) done point
  pub told_but_last : gathered event_taken done ≡ gathered event_told done ++ untold_in point.stage
  pub faulted : AreFaulted point.stage before after
  pub why : IsWhy e point new.state
