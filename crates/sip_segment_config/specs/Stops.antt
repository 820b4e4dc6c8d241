-- Why the next configuration of a record isn't read.
use Rattle.std.specs.Prelude.{◌≡◌, ◌+◌, ⊤, ℕ, List, ◌++◌, Option, IfSome}
use Rattle.sip_config.specs.Stated.{StatesNone}
use Rattle.sip_journal.specs.declared.configuration_stop.ConfigurationStop.{ConfigurationStop}
use Rattle.sip_journal.specs.declared.configuration_stop.ConfigurationStop.TheVariants as stops
use Rattle.sip_journal.specs.Configurations.{IsCutConfiguration, IsDamagedConfiguration, IsLongConfiguration}
use Rattle.sip_journal.specs.Segments.{SaysConfiguration}
use Rattle.sip_segment_config.specs.declared.stop.SegmentStop.{SegmentStop}
use Rattle.sip_segment_config.specs.declared.stop.SegmentStop.TheVariants.{NoMemory, Damaged, Cut, Read, TooLong, NoConfiguration, OtherFrame}

-- where no configuration is read that would begin with a line
abbrev pub unread : ConfigurationStop → ℕ → SegmentStop
unread stops.NoMemory line = NoMemory
unread stops.Damaged line = Damaged line
unread stops.Cut line = Cut line
unread stops.Read line = Read
unread stops.TooLong line = TooLong line

-- what is still to come begins with a configuration
pub record IsNext (rest : Option (List ℕ)) (configuration : List ℕ) : Type 0 where
  pub text : List ℕ
  pub says : SaysConfiguration text configuration
  pub begins : IfSome rest (λ bytes. (further : List ℕ) × (bytes ≡ text ++ further))

-- what comes next is a configuration's text, of which that is so
pub record NextIs (rest : Option (List ℕ)) (Is : List ℕ → Type 0) : Type 0 where
  pub configuration : List ℕ
  pub next : IsNext rest configuration
  pub is : Is configuration

-- Why no configuration of at most so many bytes is read from what is still to come of a record, behind so many lines: memory ran out; what is
-- left is damaged, or was cut, or gives more; the reader stopped; the text states none.
abbrev pub ReadStops : ℕ → Type 0 → Option (List ℕ) → ℕ → SegmentStop → Type 0
ReadStops longest spent rest lines NoMemory = ⊤
ReadStops longest spent rest lines (Damaged line) = IfSome rest IsDamagedConfiguration × (line ≡ lines + 1)
ReadStops longest spent rest lines (Cut line) = IfSome rest IsCutConfiguration × (line ≡ lines + 1)
ReadStops longest spent rest lines Read = spent
ReadStops longest spent rest lines (TooLong line) = IfSome rest (IsLongConfiguration longest) × (line ≡ lines + 1)
ReadStops longest spent rest lines (NoConfiguration line e) = NextIs rest (λ bytes. StatesNone bytes e) × (line ≡ lines + 1)
ReadStops longest spent rest lines (OtherFrame line key) = ⊥

-- ---- inside

-- why bytes that were read, whose first line is this one, state none
abbrev pub TextStops : List ℕ → ℕ → SegmentStop → Type 0
TextStops bytes first NoMemory = ⊤
TextStops bytes first (Damaged line) = ⊥
TextStops bytes first (Cut line) = ⊥
TextStops bytes first Read = ⊥
TextStops bytes first (TooLong line) = ⊥
TextStops bytes first (NoConfiguration line e) = StatesNone bytes e × (line ≡ first)
TextStops bytes first (OtherFrame line key) = ⊥
