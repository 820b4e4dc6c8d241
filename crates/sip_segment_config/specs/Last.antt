-- The last configuration of what is still to come of a record.
use Rattle.std.specs.Prelude.{◌≡◌, ◌⊎◌, ◌+◌, ◌≤◌, ⊤, ℕ, List, [], ◌∷◌, ◌++◌, length, count_by, Option, None, Some, IfSome}
use Rattle.sip_config.specs.values.declared.error.ConfigError.{ConfigError}
use Rattle.sip_config_types.specs.declared.config.Config.{Config}
use Rattle.sip_event.specs.declared.event.Event.{Event}
use Rattle.sip_replay_script.specs.Lines.{Reading, is_end}
use Rattle.sip_replay_script.specs.Recorded.{GivesRecorded, IsCutRecord, IsDamagedRecord}
use Rattle.sip_journal.specs.Configurations.{GivesConfiguration, IsCutConfiguration, IsDamagedConfiguration, IsLongConfiguration}
use Rattle.sip_journal.specs.Segments.{SaysSegments, SaysWhole, Segment}
use Rattle.sip_config.specs.Stated.{States, StatesNone}
use Rattle.sip_segment_config.specs.declared.last_text.LastText.{LastText}
use Rattle.sip_segment_config.specs.declared.last_text.RecordPart.{RecordPart}
use Rattle.sip_segment_config.specs.declared.last_text.RecordPart.TheVariants as parts
use Rattle.sip_segment_config.specs.declared.stop.SegmentStop.{SegmentStop}
use Rattle.sip_segment_config.specs.declared.stop.SegmentStop.TheVariants.{NoMemory, Damaged, Cut, Read, TooLong, NoConfiguration, OtherFrame}

-- ---- what a record ends with

-- a record ends here: nothing is left, or the front of what says one event or one configuration, of which the rest was cut off
abbrev pub EndsCut : List ℕ → Type 0
EndsCut rest = (rest ≡ []) ⊎ IsCutRecord rest ⊎ IsCutConfiguration rest

-- what is still to come of a record, where it is known, is a text of which that is so, and behind it the record ends
pub record SaysToEnd (rest : Option (List ℕ)) (Says : List ℕ → Type 0) : Type 0 where
  pub text : List ℕ
  pub further : List ℕ
  pub whole : IfSome rest (λ bytes. bytes ≡ text ++ further)
  pub says : Says text
  pub ends : EndsCut further

-- a text says events, and no segment
abbrev pub HasNoSegment : List ℕ → Type 0
HasNoSegment text = (events : List Event) × SaysWhole events [] text

-- a text says events and segments, and this is the configuration of the last segment
pub record HasLast (configuration text : List ℕ) : Type 0 where
  pub front : List ℕ
  pub behind : List ℕ
  pub events : List Event
  pub segments : List Segment
  pub taken : List Event
  pub cut : text ≡ front ++ behind
  pub says : SaysWhole events segments front
  pub last : SaysSegments (record { configuration = configuration; events = taken } ∷ []) behind

-- what is still to come of a record has no segment
abbrev pub EndsWithNone : Option (List ℕ) → Type 0
EndsWithNone rest = SaysToEnd rest HasNoSegment

-- these bytes are the configuration of its last segment, and they state that
pub record EndsWith (rest : Option (List ℕ)) (bytes : List ℕ) (config : Config) : Type 0 where
  pub ends : SaysToEnd rest (HasLast bytes)
  pub states : States bytes config

-- ---- why none is found

-- what is left begins with no text that says an event or a configuration, and is no front of one
pub record IsDamagedPart (rest : List ℕ) : Type 0 where
  pub no_event : IsDamagedRecord rest
  pub no_configuration : IsDamagedConfiguration rest

-- what is still to come begins with a text that says events and segments, and of what is left behind it that is so, which begins on that
-- line
pub record IsSoBehind (rest : Option (List ℕ)) (lines line : ℕ) (Is : List ℕ → Type 0) : Type 0 where
  pub text : List ℕ
  pub events : List Event
  pub segments : List Segment
  pub says : SaysWhole events segments text
  pub is : IfSome rest (λ bytes. (further : List ℕ) × (bytes ≡ text ++ further) × Is further)
  pub begins : line ≡ lines + count_by is_end text + 1

-- the bytes of the last segment's configuration, which begins on that line, state none
pub record LastStatesNone (rest : Option (List ℕ)) (lines line : ℕ) (e : ConfigError) : Type 0 where
  pub bytes : List ℕ
  pub ends : SaysToEnd rest (HasLast bytes)
  pub begins : line ≡ lines + count_by is_end ends.says.front + 1
  pub none : StatesNone bytes e

-- Why no last configuration is found of what is still to come of a record, behind so many lines: memory ran out; what is left behind some
-- events and segments is damaged, or gives more bytes than a configuration may have; the reader stopped; the last text states none.
abbrev pub LastStops : ℕ → Type 0 → Option (List ℕ) → ℕ → SegmentStop → Type 0
LastStops longest spent rest lines NoMemory = ⊤
LastStops longest spent rest lines (Damaged line) = IsSoBehind rest lines line IsDamagedPart
LastStops longest spent rest lines (Cut line) = ⊥
LastStops longest spent rest lines Read = spent
LastStops longest spent rest lines (TooLong line) = IsSoBehind rest lines line (IsLongConfiguration longest)
LastStops longest spent rest lines (NoConfiguration line e) = LastStatesNone rest lines line e
LastStops longest spent rest lines (OtherFrame line key) = ⊥

-- ---- inside

-- the next text of the record says some event
pub record PassesEvent (old new : Reading) (before after : Option (List ℕ)) : Type 0 where
  pub event : Event
  pub gives : GivesRecorded old new before after event

-- the next text of the record says these bytes of a configuration, which are at most so many, and begins on that line
pub record ReadsText (longest : ℕ) (old new : Reading) (before after : Option (List ℕ)) (last : LastText) : Type 0 where
  pub gives : GivesConfiguration old new before after last.text
  pub short : length last.text ≤ longest
  pub begins : last.first ≡ old.number + 1

-- what comes next was passed, or was read
abbrev pub GivesPart : ℕ → Reading → Reading → Option (List ℕ) → Option (List ℕ) → RecordPart → Type 0
GivesPart longest old new before after parts.Event = PassesEvent old new before after
GivesPart longest old new before after (parts.Configuration last) = ReadsText longest old new before after last

-- why it wasn't, by what is damaged
abbrev pub PartStops : (List ℕ → Type 0) → ℕ → Type 0 → Option (List ℕ) → ℕ → SegmentStop → Type 0
PartStops IsDamaged longest spent rest lines NoMemory = ⊤
PartStops IsDamaged longest spent rest lines (Damaged line) = IfSome rest IsDamaged × (line ≡ lines + 1)
PartStops IsDamaged longest spent rest lines (Cut line) = ⊥
PartStops IsDamaged longest spent rest lines Read = spent
PartStops IsDamaged longest spent rest lines (TooLong line) = IfSome rest (IsLongConfiguration longest) × (line ≡ lines + 1)
PartStops IsDamaged longest spent rest lines (NoConfiguration line e) = ⊥
PartStops IsDamaged longest spent rest lines (OtherFrame line key) = ⊥

-- the last configuration behind one more part
abbrev pub last_behind : RecordPart → Option LastText → Option LastText
last_behind parts.Event last = last
last_behind (parts.Configuration newer) last = Some newer

-- it is that of the last segment that a text says behind so many lines
pub record IsLastText (longest lines : ℕ) (last : LastText) (text : List ℕ) : Type 0 where
  pub has : HasLast last.text text
  pub short : length last.text ≤ longest
  pub begins : last.first ≡ lines + count_by is_end has.front + 1

-- or there is none
abbrev pub IsLastOf : ℕ → ℕ → Option LastText → List ℕ → Type 0
IsLastOf longest lines None text = HasNoSegment text
IsLastOf longest lines (Some last) text = IsLastText longest lines last text
