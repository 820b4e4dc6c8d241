-- The events that the text of a script says.
use Rattle.std.specs.Prelude.{◌≡◌, ◌≢◌, ◌+◌, ◌<◌, ◌≤◌, ◌⊎◌, ⊤, ℕ, Bool, false, List, [], ◌∷◌, ◌++◌, length, take, count_by, Option, Some, None, All, IfSome, IsSome}
use Rattle.std.specs.List.{flat_map, list_any}
use Rattle.std.specs.Str.{bytes_eq}
use Rattle.std.specs.Io.KnownBytes.{Consumes}
use Rattle.sip_event.specs.declared.event.Event.{Event}
use Rattle.sip_replay_script.specs.declared.script.DatagramHead.{DatagramHead}
use Rattle.sip_replay_script.specs.declared.script.EventLine.TheVariants.{Head, Whole}
use Rattle.sip_replay_script.specs.declared.script.EventLine.{EventLine}
use Rattle.sip_replay_script.specs.declared.event.EventBeginning.{EventBeginning}
use Rattle.sip_replay_script.specs.declared.event.EventBeginning.TheVariants.{Over, Says}
use Rattle.sip_replay_script.specs.declared.event.NextDatagramLine.{NextDatagramLine}
use Rattle.sip_replay_script.specs.declared.event.NextDatagramLine.TheVariants.{Kept, Dot, Unended}
use Rattle.sip_replay_script.specs.declared.read_stop.ReadStop.{ReadStop}
use Rattle.sip_replay_script.specs.declared.read_stop.ReadStop.TheVariants.{NoMemory, Damaged, Cut, Read}
use Rattle.sip_replay_script.specs.Lines.{Reading, BeginsWith, IsLine, IsLong, IsUnended, HasNoLine, GivesLine, IsOver, PassesLine, is_end, pending, left}
use Rattle.sip_replay_script.specs.Script.{line_of, unstuffed, datagram_at}

-- a line with its LF
abbrev pub ended : List ℕ → List ℕ
ended line = line ++ 10 ∷ []

-- the line that ends a datagram
abbrev pub is_dot : List ℕ → Bool
is_dot line = bytes_eq line (46 ∷ [])

-- what a line of a datagram says: its bytes, and CRLF
abbrev pub said : List ℕ → List ℕ
said line = unstuffed line ++ 13 ∷ 10 ∷ []

-- lines, none of which is a dot, and the bytes that they say
pub record SaysBytes (text bytes : List ℕ) : Type 0 where
  pub lines : List (List ℕ)
  pub text_is : text ≡ flat_map ended lines
  pub are_lines : All IsLine lines
  pub no_dot : list_any is_dot lines ≡ false
  pub bytes_are : bytes ≡ flat_map said lines

-- such lines and a dot; of the bytes 65,508 are kept, which is one more than a datagram has
pub record SaysDatagram (text bytes : List ℕ) : Type 0 where
  pub before : List ℕ
  pub whole : List ℕ
  pub says : SaysBytes before whole
  pub text_is : text ≡ before ++ 46 ∷ 10 ∷ []
  pub kept : bytes ≡ take 65508 whole

-- a line that says an event by itself
pub record SaysWhole (text : List ℕ) (event : Event) : Type 0 where
  pub line : List ℕ
  pub is_line : IsLine line
  pub text_is : text ≡ ended line
  pub says : line_of line ≡ Some (Whole event)

-- a line that begins a datagram, and its lines
pub record SaysHead (text : List ℕ) (event : Event) : Type 0 where
  pub line : List ℕ
  pub head : DatagramHead
  pub rest : List ℕ
  pub bytes : List ℕ
  pub is_line : IsLine line
  pub text_is : text ≡ ended line ++ rest
  pub says : line_of line ≡ Some (Head head)
  pub lines : SaysDatagram rest bytes
  pub event_is : event ≡ datagram_at head bytes

abbrev pub SaysEvent : List ℕ → Event → Type 0
SaysEvent text event = SaysWhole text event ⊎ SaysHead text event

-- a text that says an event, in front of one that says others
pub record SaysFirst (text : List ℕ) (event : Event) (SaysOthers : List ℕ → Type 0) : Type 0 where
  pub first : List ℕ
  pub rest : List ℕ
  pub cut : text ≡ first ++ rest
  pub says : SaysEvent first event
  pub others : SaysOthers rest

-- a text says these events, one after the other
abbrev pub SaysEvents : List Event → List ℕ → Type 0
SaysEvents [] text = text ≡ []
SaysEvents (event ∷ events) text = SaysFirst text event (SaysEvents events)

-- ---- what says no event

-- lines, none of which is a dot, and no line behind them
pub record IsNoDatagram (rest : List ℕ) : Type 0 where
  pub front : List ℕ
  pub bytes : List ℕ
  pub more : List ℕ
  pub cut : rest ≡ front ++ more
  pub says : SaysBytes front bytes
  pub unended : HasNoLine more

-- a line that begins no event
pub record IsOtherLine (rest : List ℕ) : Type 0 where
  pub line : List ℕ
  pub more : List ℕ
  pub is_line : IsLine line
  pub cut : rest ≡ ended line ++ more
  pub says : line_of line ≡ None

-- a line that begins a datagram, which doesn't end
pub record IsCutShort (rest : List ℕ) : Type 0 where
  pub line : List ℕ
  pub head : DatagramHead
  pub more : List ℕ
  pub is_line : IsLine line
  pub cut : rest ≡ ended line ++ more
  pub says : line_of line ≡ Some (Head head)
  pub lines : IsNoDatagram more

-- what is left, which is something, begins with no event
abbrev pub IsNoEvent : List ℕ → Type 0
IsNoEvent rest = IsUnended rest ⊎ (IsOtherLine rest ⊎ IsCutShort rest)

-- ---- where a text that says an event was cut

-- what is left is the front of a text that says an event, and not the whole of it
pub record IsCutEvent (rest : List ℕ) : Type 0 where
  pub more : List ℕ
  pub event : Event
  pub begun : rest ≢ []
  pub cut : more ≢ []
  pub says : SaysEvent (rest ++ more) event

-- what is left begins with no event, and is no front of one's text
pub record IsDamaged (rest : List ℕ) : Type 0 where
  pub none : IsNoEvent rest
  pub no_front : IsCutEvent rest → ⊥

-- a line that begins an event
pub record BeginsEvent (line : List ℕ) : Type 0 where
  pub short : length line ≤ 200000
  pub says : IsSome (line_of line)

-- a text is the front of such a line, or one
pub record BeginsLine (text : List ℕ) : Type 0 where
  pub more : List ℕ
  pub begins : BeginsEvent (text ++ more)

-- and goes on as an end of a given one does
pub record EndsAs (text sample : List ℕ) : Type 0 where
  pub front : List ℕ
  pub tail : List ℕ
  pub cut : sample ≡ front ++ tail
  pub begins : BeginsEvent (text ++ tail)

-- ---- what is read

-- the next text of the script says that event
pub record GivesEvent (old new : Reading) (before after : Option (List ℕ)) (event : Event) : Type 0 where
  pub text : List ℕ
  pub says : SaysEvent text event
  pub consumes : Consumes (pending old before) (pending new after) text
  pub number : new.number ≡ old.number + count_by is_end text
  pub fewer : left new < left old

-- and the same of the bytes of a datagram
pub record GivesDatagram (old new : Reading) (before after : Option (List ℕ)) (bytes : List ℕ) : Type 0 where
  pub text : List ℕ
  pub says : SaysDatagram text bytes
  pub consumes : Consumes (pending old before) (pending new after) text
  pub number : new.number ≡ old.number + count_by is_end text

-- a line of a datagram that stood whole among what was read is passed, and its bytes are kept
pub record KeepsLine (old new : Reading) (before after : List ℕ) : Type 0 where
  pub line : List ℕ
  pub is_line : IsLine line
  pub no_dot : is_dot line ≡ false
  pub unread : old.unread ≡ ended line ++ new.unread
  pub number : new.number ≡ old.number + 1
  pub kept : after ≡ take 65508 (before ++ said line)

-- and so are all that did, up to a dot
pub record KeepsLines (old new : Reading) (before after : List ℕ) : Type 0 where
  pub text : List ℕ
  pub whole : List ℕ
  pub says : SaysBytes text whole
  pub unread : old.unread ≡ text ++ new.unread
  pub number : new.number ≡ old.number + count_by is_end text
  pub kept : after ≡ take 65508 (before ++ whole)

-- a line that they begin with isn't the dot
abbrev pub BeginsOther : List ℕ → Type 0
BeginsOther unread = (line : List ℕ) → BeginsWith unread line → is_dot line ≡ false

-- what became of the next line of a datagram: it was passed, and is kept or is the dot, or it isn't whole
abbrev pub GoesOnBy : NextDatagramLine → Reading → Reading → List ℕ → List ℕ → Type 0
GoesOnBy Kept old new before after = KeepsLine old new before after
GoesOnBy Dot old new before after = PassesLine old new (46 ∷ []) × (after ≡ before)
GoesOnBy Unended old new before after = (new ≡ old) × (after ≡ before)

-- lines that are kept, and the dot behind them
pub record KeepsAll (old new : Reading) (before after : List ℕ) : Type 0 where
  pub mid : Reading
  pub lines : KeepsLines old mid before after
  pub asks : mid.asks ≡ old.asks
  pub dot : PassesLine mid new (46 ∷ [])

-- a line was given, and that is what it says
pub record GivesSaid (old new : Reading) (before after : Option (List ℕ)) (said : Option EventLine) : Type 0 where
  pub line : List ℕ
  pub given : GivesLine old new before after line
  pub says : line_of line ≡ said

-- the next line says that, or there is none
abbrev pub GivesFirst : EventBeginning → Reading → Reading → Option (List ℕ) → Option (List ℕ) → Type 0
GivesFirst Over old new before after = IsOver old new before after
GivesFirst (Says said) old new before after = GivesSaid old new before after said

-- why no event is read where the script ends within a line
abbrev pub StopsIn : List ℕ → ReadStop → Type 0
StopsIn line NoMemory = ⊤
StopsIn line Damaged = BeginsLine line → ⊥
StopsIn line Cut = BeginsLine line
StopsIn line Read = ⊥

-- and why where no line is read
abbrev pub StopsAt : List ℕ → ReadStop → ReadStop → Type 0
StopsAt line NoMemory stop = stop ≡ NoMemory
StopsAt line Damaged stop = stop ≡ Damaged
StopsAt line Cut stop = StopsIn line stop
StopsAt line Read stop = stop ≡ Read

-- lines, none of which is a dot, and a line too long behind them
pub record IsLongDatagram (rest : List ℕ) : Type 0 where
  pub front : List ℕ
  pub bytes : List ℕ
  pub more : List ℕ
  pub cut : rest ≡ front ++ more
  pub says : SaysBytes front bytes
  pub long : IsLong more

-- and a line without its LF behind them, of which some or nothing has come
pub record IsCutDatagram (rest : List ℕ) : Type 0 where
  pub front : List ℕ
  pub bytes : List ℕ
  pub more : List ℕ
  pub cut : rest ≡ front ++ more
  pub says : SaysBytes front bytes
  pub is_line : IsLine more

-- why no datagram is given of what is still to come
abbrev pub DatagramStops : Type 0 → Option (List ℕ) → ReadStop → Type 0
DatagramStops spent script NoMemory = ⊤
DatagramStops spent script Damaged = IfSome script IsLongDatagram
DatagramStops spent script Cut = IfSome script IsCutDatagram
DatagramStops spent script Read = spent

-- what is left is the front of a line that begins an event, without its LF
pub record IsCutLine (rest : List ℕ) : Type 0 where
  pub begun : rest ≢ []
  pub is_line : IsLine rest
  pub begins : BeginsLine rest

-- why no first line of an event
abbrev pub FirstStops : Type 0 → Option (List ℕ) → ReadStop → Type 0
FirstStops spent script NoMemory = ⊤
FirstStops spent script Damaged = IfSome script IsDamaged
FirstStops spent script Cut = IfSome script IsCutLine
FirstStops spent script Read = spent

-- why no event: what is left is damaged, or is an event's text that was cut; or memory ran out, or the reader stopped
abbrev pub ReadStops : Type 0 → Option (List ℕ) → ReadStop → Type 0
ReadStops spent script NoMemory = ⊤
ReadStops spent script Damaged = IfSome script IsDamaged
ReadStops spent script Cut = IfSome script IsCutEvent
ReadStops spent script Read = spent
