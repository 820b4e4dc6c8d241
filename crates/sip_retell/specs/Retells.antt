-- A record that a server takes again, each of whose steps is told.
use Rattle.std.specs.Prelude.{◌≡◌, ◌+◌, ◌<◌, ℕ, Bool, true, false, List, [], ◌∷◌, ◌++◌, count_by, Option, None, IfSome}
use Rattle.std.specs.Io.KnownBytes.{Consumes}
use Rattle.std.specs.List.{AllByRecursion}
use Rattle.sip_event.specs.declared.event.Event.{Event}
use Rattle.sip_config_types.specs.declared.config.Config.{Config}
use Rattle.sip_model.specs.state.declared.server.Server.{Server}
use Rattle.sip_model.specs.Run.{Link, event_moment, under}
use Rattle.sip_model.specs.Access.{Access}
use Rattle.sip_model.specs.Bounds.{IsBounded}
use Rattle.sip_model.specs.TimerOrder.{Standing}
use Rattle.sip_resume.specs.run.engine.Engine.{Engine}
use Rattle.sip_replay_script.specs.Lines.{Reading, is_end, left, pending}
use Rattle.sip_journal.specs.Segments.{Segment}
use Rattle.sip_config.specs.Stated.{States}
use Rattle.sip_segment_config.specs.Last.{EndsCut}
use Rattle.sip_resume.specs.Resumes.{IsNext, Runs}
use Rattle.sip_resume.specs.Takes.{TakesConfiguration}
use Rattle.sip_resume.specs.Whole.{TakesWhole}
use Rattle.sip_listener.specs.Heard.{Heard, Tells, TellsMost}
use Rattle.sip_retell.specs.Items.{Item, Happens, Configures, IsInTime, SaysItem, SaysItems, is_later}
use Rattle.sip_retell.specs.declared.next.NextItem.{NextItem}
use Rattle.sip_retell.specs.declared.next.NextItem.TheVariants.{Told, Later, Over}

-- ---- runs that are told

-- these events have a run from one state to another, in the order in which timers stand, and exactly its steps were told
pub record RunsTold {L : Type 0} (hears : L → Heard → L → Type 0) (server : Server) (old new : Standing) (events : List Event) (until : Option ℕ)
    (heard heard_then : L) : Type 0 where
  pub runs : Runs server old new events until
  pub told : Tells hears heard heard_then runs.history

-- the same, but the last step may not have been told
pub record RunsMost {L : Type 0} (hears refuses : L → Heard → L → Type 0) (server : Server) (old new : Standing) (events : List Event)
    (until : Option ℕ) (heard heard_then : L) : Type 0 where
  pub runs : Runs server old new events until
  pub told : TellsMost hears refuses heard heard_then runs.history

-- ---- items

-- an event is taken behind all that is due by its moment, in this history
pub record TakesEvent (server server_then : Server) (old new : Standing) (event : Event) (history : List Link) : Type 0 where
  pub same : server_then ≡ server
  pub runs : Runs server old new (event ∷ []) None
  pub history_is : history ≡ runs.history

-- the configuration that a text states is in force, by which the server is the same to others, and no step is taken
pub record BringsConfiguration (server server_then : Server) (old new : Standing) (configuration : List ℕ) (history : List Link) : Type 0 where
  pub config : Config
  pub states : States configuration config
  pub in_force : server_then ≡ record { config = config; word = server.word }
  pub is_under : server_then ≡ under server config
  pub state : new ≡ old
  pub no_history : history ≡ []

-- what a server does with an item
abbrev pub GoesBy : Server → Server → Standing → Standing → Item → List Link → Type 0
GoesBy server server_then old new (Happens event) history = TakesEvent server server_then old new event history
GoesBy server server_then old new (Configures configuration) history = BringsConfiguration server server_then old new configuration history

-- it does nothing
pub record StandsStill (server server_then : Server) (old new : Standing) (history : List Link) : Type 0 where
  pub same : server_then ≡ server
  pub state : new ≡ old
  pub no_history : history ≡ []

-- it takes an item, and from where that led others
pub record GoesFirst (server : Server) (old : Standing) (item : Item) (history : List Link) (IsBehind : Server → Standing → List Link → Type 0) : Type 0 where
  pub middle : Server
  pub half : Standing
  pub earlier : List Link
  pub later : List Link
  pub first : GoesBy server middle old half item earlier
  pub others : IsBehind middle half later
  pub history_is : history ≡ later ++ earlier

-- what it does with items, one after the other
abbrev pub GoesThrough : Server → Server → Standing → Standing → List Item → List Link → Type 0
GoesThrough server server_then old new [] history = StandsStill server server_then old new history
GoesThrough server server_then old new (item ∷ items) history =
    GoesFirst server old item history (λ middle half later. GoesThrough middle server_then half new items later)

-- ---- a record

-- Items come next in a record, none of them later than a moment; a server takes them one after the other, and exactly its steps are told,
-- each with its event; so many lines are given by then.
pub record TakesItems {L : Type 0} (hears : L → Heard → L → Type 0) (server server_then : Server) (old new : Standing) (before rest : Option
    (List ℕ)) (lines lines_then : ℕ) (until : Option ℕ)
    (heard heard_then : L) : Type 0 where
  pub items : List Item
  pub text : List ℕ
  pub history : List Link
  pub says : SaysItems items text
  pub consumes : Consumes before rest text
  pub counted : lines_then ≡ lines + count_by is_end text
  pub in_time : AllByRecursion (IsInTime until) items
  pub goes : GoesThrough server server_then old new items history
  pub told : Tells hears heard heard_then history

-- an event comes next that is later than the moment
pub record ComesLater (until : Option ℕ) (rest : Option (List ℕ)) : Type 0 where
  pub event : Event
  pub next : IsNext rest event
  pub later : is_later until (event_moment event) ≡ true

-- no item comes next: nothing is left, or the front of one, of which the rest was cut off; or an event that is later
abbrev pub EndsTelling : Bool → Option ℕ → Option (List ℕ) → Type 0
EndsTelling true until rest = IfSome rest EndsCut
EndsTelling false until rest = ComesLater until rest

-- What is to come of a record is a text that says items, and behind it the record ends, or an event comes that is later than the moment
-- that was asked for. The server took these items, one after the other, and exactly its steps were told.
pub record IsRetold {L : Type 0} (hears : L → Heard → L → Type 0) (server server_then : Server) (old new : Standing) (record_bytes : Option
    (List ℕ)) (lines lines_then : ℕ) (until : Option ℕ)
    (heard heard_then : L) (is_over : Bool) : Type 0 where
  pub rest : Option (List ℕ)
  pub takes : TakesItems hears server server_then old new record_bytes rest lines lines_then until heard heard_then
  pub ends : EndsTelling is_over until rest

-- ---- what that is

-- a server takes events and segments, in this history, each of whose steps is lawful by all that went before
pub record IsTakenWhole (server server_then : Server) (old new : Standing) (events : List Event) (segments : List Segment) (history : List Link) : Type 0 where
  pub takes : TakesWhole server server_then old new events segments
  pub history_is : takes.runs.history ≡ history

pub record IsLawfulRun (server : Server) (history : List Link) : Type 0 where
  pub access : Access server history
  pub bounded : IsBounded server history

-- ---- the next item

-- the next item was taken, and its steps were told
pub record TakesNext {L : Type 0} (hears : L → Heard → L → Type 0) (server server_then : Server) (old new : Standing) (part rest : Reading)
    (before after : Option (List ℕ)) (until : Option ℕ)
    (heard heard_then : L) : Type 0 where
  pub item : Item
  pub text : List ℕ
  pub history : List Link
  pub says : SaysItem text item
  pub consumes : Consumes (pending part before) (pending rest after) text
  pub number : rest.number ≡ part.number + count_by is_end text
  pub fewer : left rest < left part
  pub in_time : IsInTime until item
  pub goes : GoesBy server server_then old new item history
  pub told : Tells hears heard heard_then history

-- nothing was taken or told
pub record StaysSo {L : Type 0} (server server_then : Server) (old new : Standing) (heard heard_then : L) : Type 0 where
  pub same : server_then ≡ server
  pub state : new ≡ old
  pub silent : heard_then ≡ heard

-- nothing was, and no item comes next, or a later one
pub record StopsHere {L : Type 0} (server server_then : Server) (old new : Standing) (before : Option (List ℕ)) (until : Option ℕ) (heard heard_then : L)
    (is_over : Bool) : Type 0 where
  pub stays : StaysSo server server_then old new heard heard_then
  pub ends : EndsTelling is_over until before

-- what became of the next item
abbrev pub GoesOn : {L : Type 0} → (L → Heard → L → Type 0) → Server → Server → Standing → Standing → Reading → Reading → Option (List ℕ) → Option (List ℕ)
    → Option ℕ → L → L → NextItem → Type 0
GoesOn hears server server_then old new part rest before after until heard heard_then Told =
    TakesNext hears server server_then old new part rest before after until heard heard_then
GoesOn hears server server_then old new part rest before after until heard heard_then Later =
    StopsHere server server_then old new (pending part before) until heard heard_then false
GoesOn hears server server_then old new part rest before after until heard heard_then Over =
    StopsHere server server_then old new (pending part before) until heard heard_then true

-- what became of the next configuration, of which nothing is told
abbrev pub BeginsOn : Engine → Engine → Reading → Reading → Option (List ℕ) → Option (List ℕ) → NextItem → Type 0
BeginsOn old new part rest before after Told = (text : List ℕ) × TakesConfiguration old new part rest before after text
BeginsOn old new part rest before after Later = ⊥
BeginsOn old new part rest before after Over = (new ≡ old) × IfSome (pending part before) EndsCut
