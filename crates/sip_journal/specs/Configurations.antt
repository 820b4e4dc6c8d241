-- How the configurations of a record are read.
use Rattle.std.specs.Prelude.{◌≡◌, ◌≢◌, ◌+◌, ◌<◌, ◌==◌, ◌||◌, ⊤, ℕ, Bool, true, false, nat_eq, List, [], ◌∷◌, ◌++◌, length, take, count_by, Option, Some, IfSome, codes}
use Rattle.std.specs.Prelude.{if◌then◌else◌}
use Rattle.std.specs.List.{starts_with}
use Rattle.std.specs.Io.KnownBytes.{Consumes, Keeps}
use Rattle.sip_replay_script.specs.declared.read_stop.ReadStop.{ReadStop}
use Rattle.sip_replay_script.specs.declared.read_stop.ReadStop.TheVariants as stops
use Rattle.sip_journal.specs.declared.configuration_stop.ConfigurationStop.{ConfigurationStop}
use Rattle.sip_journal.specs.declared.configuration_stop.ConfigurationStop.TheVariants.{NoMemory, Damaged, Cut, Read, TooLong}
use Rattle.sip_journal.specs.declared.upcoming.Upcoming.{Upcoming}
use Rattle.sip_journal.specs.declared.upcoming.Upcoming.TheVariants.{Over, Configuration, Event}
use Rattle.sip_replay_script.specs.Lines.{Reading, GivesLine, IsOver, is_end, left, pending}
use Rattle.sip_replay_script.specs.Events.{ended}
use Rattle.sip_replay_script.specs.Recorded.{IsDamagedRecord}
use Rattle.sip_journal.specs.Segments.{configuration_line, piece_of, GivesText, SaysConfiguration}

-- ---- where no configuration stands

-- what is left is the front of a text that says a configuration, and not the whole of it
pub record IsCutConfiguration (rest : List ℕ) : Type 0 where
  pub more : List ℕ
  pub configuration : List ℕ
  pub begun : rest ≢ []
  pub cut : more ≢ []
  pub says : SaysConfiguration (rest ++ more) configuration

-- what is left, which is something, begins with no such text, and is no front of one
pub record IsDamagedConfiguration (rest : List ℕ) : Type 0 where
  pub some : rest ≢ []
  pub none : (text further configuration : List ℕ) → rest ≡ text ++ further → SaysConfiguration text configuration → ⊥
  pub no_front : IsCutConfiguration rest → ⊥

-- what is left begins with lines that give more bytes than so many
pub record IsLongConfiguration (longest : ℕ) (rest : List ℕ) : Type 0 where
  pub text : List ℕ
  pub further : List ℕ
  pub given : List ℕ
  pub cut : rest ≡ text ++ further
  pub gives : GivesText text given
  pub long : longest < length given

-- ---- what is read

-- what comes next in a record: nothing; what begins with no event, and is no front of one's text; or what begins with no configuration,
-- and is no front of one's text
abbrev pub ComesNext : Upcoming → Reading → Reading → Option (List ℕ) → Option (List ℕ) → Type 0
ComesNext Over old new before after = IsOver old new before after
ComesNext Configuration old new before after = Keeps (pending old before) (pending new after) × IfSome (pending old before) IsDamagedRecord
ComesNext Event old new before after = Keeps (pending old before) (pending new after) × IfSome (pending old before) IsDamagedConfiguration

-- the first byte of what says a configuration: `=`, `+` or `c`
abbrev pub begins_configuration : ℕ → Bool
begins_configuration b = b == 61 || (b == 43 || b == 99)

-- and of what says an event: `t`, `h`, `d` or `f`
abbrev pub begins_event : ℕ → Bool
begins_event b = b == 116 || (b == 104 || (b == 100 || b == 102))

-- bytes begin with one by which a test comes out so
pub record BeginsBy (test : ℕ → Bool) (is : Bool) (bytes : List ℕ) : Type 0 where
  pub first : ℕ
  pub behind : List ℕ
  pub cut : bytes ≡ first ∷ behind
  pub tested : test first ≡ is

-- what comes next, by the first byte of what is left: none is; or it begins a configuration, or not
abbrev pub HasFirst : Upcoming → Option (List ℕ) → Type 0
HasFirst Over rest = IfSome rest (λ bytes. bytes ≡ [])
HasFirst Configuration rest = IfSome rest (BeginsBy begins_configuration true)
HasFirst Event rest = IfSome rest (BeginsBy begins_configuration false)

-- the next text of the record says that configuration
pub record GivesConfiguration (old new : Reading) (before after : Option (List ℕ)) (configuration : List ℕ) : Type 0 where
  pub text : List ℕ
  pub says : SaysConfiguration text configuration
  pub consumes : Consumes (pending old before) (pending new after) text
  pub number : new.number ≡ old.number + count_by is_end text
  pub fewer : left new < left old

-- why no configuration of at most so many bytes: what is left is damaged, or was cut, or gives more; or memory ran out, or the reader stopped
abbrev pub ConfigurationStops : ℕ → Type 0 → Option (List ℕ) → ConfigurationStop → Type 0
ConfigurationStops longest spent script NoMemory = ⊤
ConfigurationStops longest spent script Damaged = IfSome script IsDamagedConfiguration
ConfigurationStops longest spent script Cut = IfSome script IsCutConfiguration
ConfigurationStops longest spent script Read = spent
ConfigurationStops longest spent script TooLong = IfSome script (IsLongConfiguration longest)

-- ---- behind lines that gave a front of the configuration

-- lines that give the rest, and the line of the whole
pub record SaysRest (front text configuration : List ℕ) : Type 0 where
  pub lines : List ℕ
  pub given : List ℕ
  pub gives : GivesText lines given
  pub whole : configuration ≡ front ++ given
  pub text_is : text ≡ lines ++ ended (configuration_line configuration)

-- what is left is a front of such a text, and not the whole of it
pub record IsCutRest (front rest : List ℕ) : Type 0 where
  pub more : List ℕ
  pub configuration : List ℕ
  pub cut : more ≢ []
  pub says : SaysRest front (rest ++ more) configuration

-- what is left begins with no such text, and is no front of one
pub record IsNoRest (front rest : List ℕ) : Type 0 where
  pub none : (text further configuration : List ℕ) → rest ≡ text ++ further → SaysRest front text configuration → ⊥
  pub no_front : IsCutRest front rest → ⊥

-- what is left begins with lines that give too much behind it
pub record IsLongRest (longest : ℕ) (front rest : List ℕ) : Type 0 where
  pub text : List ℕ
  pub further : List ℕ
  pub given : List ℕ
  pub cut : rest ≡ text ++ further
  pub gives : GivesText text given
  pub long : longest < length (front ++ given)

-- why no line of it
abbrev pub RestStops : ℕ → Type 0 → Option (List ℕ) → List ℕ → ConfigurationStop → Type 0
RestStops longest spent script front NoMemory = ⊤
RestStops longest spent script front Damaged = IfSome script (IsNoRest front)
RestStops longest spent script front Cut = IfSome script (IsCutRest front)
RestStops longest spent script front Read = spent
RestStops longest spent script front TooLong = IfSome script (IsLongRest longest front)

-- what a line gives was added
pub record AddsPiece (line old new : List ℕ) : Type 0 where
  pub piece : List ℕ
  pub gives : piece_of line ≡ Some piece
  pub added : new ≡ old ++ piece

-- and it would be too much
pub record IsLongPiece (longest : ℕ) (line front : List ℕ) : Type 0 where
  pub piece : List ℕ
  pub gives : piece_of line ≡ Some piece
  pub long : longest < length (front ++ piece)

-- why it isn't added
abbrev pub PieceStops : ℕ → List ℕ → List ℕ → ConfigurationStop → Type 0
PieceStops longest line front NoMemory = ⊤
PieceStops longest line front Damaged = ⊥
PieceStops longest line front Cut = ⊥
PieceStops longest line front Read = ⊥
PieceStops longest line front TooLong = IsLongPiece longest line front

-- why a part isn't
abbrev pub PartStops : ℕ → List ℕ → List ℕ → ConfigurationStop → Type 0
PartStops longest part front NoMemory = ⊤
PartStops longest part front Damaged = ⊥
PartStops longest part front Cut = ⊥
PartStops longest part front Read = ⊥
PartStops longest part front TooLong = longest < length front + length part

-- a line was given, and what it gives was added
pub record TakesPiece (old new : Reading) (before after : Option (List ℕ)) (front grown : List ℕ) : Type 0 where
  pub line : List ℕ
  pub given : GivesLine old new before after line
  pub adds : AddsPiece line front grown

-- a line that was cut is the front of one that gives a piece, or goes on as one
abbrev pub begins_piece : List ℕ → Bool
begins_piece line = starts_with nat_eq (codes "= ") (take 2 line) || starts_with nat_eq (codes "+ ") (take 2 line)

-- or it is a front of the line of the configuration
abbrev pub begins_rest : List ℕ → List ℕ → Bool
begins_rest front line = begins_piece line || starts_with nat_eq (configuration_line front) line

-- why no line of it where no line is read; of one that was cut these are the bytes
abbrev pub rest_stop : List ℕ → List ℕ → ReadStop → ConfigurationStop
rest_stop front line stops.NoMemory = NoMemory
rest_stop front line stops.Damaged = Damaged
rest_stop front line stops.Cut = if begins_rest front line then Cut else Damaged
rest_stop front line stops.Read = Read
