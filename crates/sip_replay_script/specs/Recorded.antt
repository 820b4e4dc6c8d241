-- How a record says its events: each in one line, but a datagram without bytes in two.
use Rattle.std.specs.Prelude.{◌≡◌, ◌≢◌, ◌⊎◌, ⊤, ℕ, List, [], ◌∷◌, ◌++◌, Option, Some, IfSome, if◌then◌else◌}
use Rattle.sip_event.specs.declared.event.Event.{Event}
use Rattle.sip_replay_script.specs.declared.script.DatagramHead.{DatagramHead}
use Rattle.sip_replay_script.specs.declared.script.EventLine.TheVariants.{Head}
use Rattle.sip_replay_script.specs.declared.read_stop.ReadStop.{ReadStop}
use Rattle.sip_replay_script.specs.declared.read_stop.ReadStop.TheVariants.{NoMemory, Damaged, Cut, Read}
use Rattle.sip_replay_script.specs.Lines.{Reading, IsLine}
use Rattle.sip_replay_script.specs.Script.{line_of, datagram_at}
use Rattle.sip_replay_script.specs.Events.{ended, is_dot, GivesEvent, SaysWhole}

-- a line that begins a datagram, and a line `.`
pub record SaysEmpty (text : List ℕ) (event : Event) : Type 0 where
  pub line : List ℕ
  pub head : DatagramHead
  pub is_line : IsLine line
  pub text_is : text ≡ ended line ++ 46 ∷ 10 ∷ []
  pub says : line_of line ≡ Some (Head head)
  pub event_is : event ≡ datagram_at head []

-- a text says an event as a record does
abbrev pub SaysRecorded : List ℕ → Event → Type 0
SaysRecorded text event = SaysWhole text event ⊎ SaysEmpty text event

-- such a text, in front of one that says others
pub record RecordsFirst (text : List ℕ) (event : Event) (SaysOthers : List ℕ → Type 0) : Type 0 where
  pub first : List ℕ
  pub rest : List ℕ
  pub cut : text ≡ first ++ rest
  pub says : SaysRecorded first event
  pub others : SaysOthers rest

-- a record says these events, one after the other
abbrev pub SaysRecord : List Event → List ℕ → Type 0
SaysRecord [] text = text ≡ []
SaysRecord (event ∷ events) text = RecordsFirst text event (SaysRecord events)

-- what is left is the front of such a text, and not the whole of it
pub record IsCutRecord (rest : List ℕ) : Type 0 where
  pub more : List ℕ
  pub event : Event
  pub begun : rest ≢ []
  pub cut : more ≢ []
  pub says : SaysRecorded (rest ++ more) event

-- what is left, which is something, begins with no such text, and is no front of one
pub record IsDamagedRecord (rest : List ℕ) : Type 0 where
  pub some : rest ≢ []
  pub none : (text further : List ℕ) (event : Event) → rest ≡ text ++ further → SaysRecorded text event → ⊥
  pub no_front : IsCutRecord rest → ⊥

-- ---- what is read

-- the next text of the record says that event
pub record GivesRecorded (old new : Reading) (before after : Option (List ℕ)) (event : Event) : Type 0 where
  pub given : GivesEvent old new before after event
  pub recorded : SaysRecorded given.text event

-- why no event: what is left is damaged, or was cut; or memory ran out, or the reader stopped
abbrev pub RecordStops : Type 0 → Option (List ℕ) → ReadStop → Type 0
RecordStops spent script NoMemory = ⊤
RecordStops spent script Damaged = IfSome script IsDamagedRecord
RecordStops spent script Cut = IfSome script IsCutRecord
RecordStops spent script Read = spent

-- what is left is a front of the line `.`
abbrev pub IsCutDot : List ℕ → Type 0
IsCutDot rest = (rest ≡ []) ⊎ (rest ≡ 46 ∷ [])

-- what is left doesn't begin with that line, and is no such front
pub record IsNoDot (rest : List ℕ) : Type 0 where
  pub other : (more : List ℕ) → rest ≡ 46 ∷ 10 ∷ more → ⊥
  pub no_front : IsCutDot rest → ⊥

-- why that line isn't passed
abbrev pub DotStops : Type 0 → Option (List ℕ) → ReadStop → Type 0
DotStops spent script NoMemory = ⊤
DotStops spent script Damaged = IfSome script IsNoDot
DotStops spent script Cut = IfSome script IsCutDot
DotStops spent script Read = spent

-- and why where no line is read; of one that was cut these are the bytes
abbrev pub dot_stop : List ℕ → ReadStop → ReadStop
dot_stop line NoMemory = NoMemory
dot_stop line Damaged = Damaged
dot_stop line Cut = if is_dot line then Cut else Damaged
dot_stop line Read = Read
