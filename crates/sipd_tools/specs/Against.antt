-- The configuration from which a change is told: that of a file, or the last one of a record.
use Rattle.std.specs.Prelude.{◌≡◌, ◌≢◌, ◌⊎◌, ⊤, ℕ, Bool, List, [], Option, Some, None}
use Rattle.std.specs.Io.KnownBytes.{Appends}
use Rattle.sip_policy.specs.declared.operation.Operation.{Operation}
use Rattle.sip_config_types.specs.declared.config.Config.{Config}
use Rattle.sip_replay_script.specs.Devices.{later}
use Rattle.sip_replay_script.specs.Lines.{IsSpent, Reading, pending}
use Rattle.sip_segment_config.specs.Last.{EndsWith, EndsWithNone, LastStops}
use Rattle.sip_segment_config.specs.declared.stop.SegmentStop.{SegmentStop}
use Rattle.sip_segment_config.specs.declared.stop.SegmentStop.TheVariants as stops
use Rattle.sipd_exit.specs.Exits.{exit_of_config}
use Rattle.sip_config.specs.Stated.{States}
use Rattle.sipd_exit.specs.declared.device_fault.DeviceFault.TheVariants.{Other}
use Rattle.sipd_exit.specs.declared.exit.Exit.{Exit}
use Rattle.sipd_exit.specs.declared.exit.Exit.TheVariants.{BareRecord, Device, Memory, Script}
use Rattle.sipd_changes.specs.Changes.{can_be_taken, changes_of}
use Rattle.sipd_changes.specs.Telling.{told}
use Rattle.sipd_matrix_changes.specs.Lines.{changes_text}
use Rattle.sipd_old_record.specs.OldRecord.{line_of_file}
use Rattle.sipd_old_record.specs.Own.{HoldsNone, HoldsOwn, OwnStops, unread}
use Rattle.sipd_old_record.specs.Readers.{most_asks}
use Rattle.sipd_reload.specs.File.{most_bytes}

-- how the program ends where the last configuration of a record isn't read; one that is refused is as that of a file is
abbrev pub exit_of_last : SegmentStop → Exit
exit_of_last stops.NoMemory = Memory
exit_of_last (stops.Damaged line) = Script (line_of_file line)
exit_of_last (stops.Cut line) = BareRecord
exit_of_last stops.Read = Device Other
exit_of_last (stops.TooLong line) = Script (line_of_file line)
exit_of_last (stops.NoConfiguration line e) = exit_of_config e
exit_of_last (stops.OtherFrame line key) = Script (line_of_file line)

-- some bytes state a configuration
abbrev pub IsStated : Config → Type 0
IsStated config = (bytes : List ℕ) × States bytes config

-- ---- the configuration with which a record begins, of which the first line has this digest

-- it is its own; or it holds none
abbrev pub Begins : List ℕ → Reading → Reading → Option (List ℕ) → Option (List ℕ) → Option Config → Type 0
Begins digest old new before after (Some config) = (bytes : List ℕ) × HoldsOwn digest old new before after bytes config
Begins digest old new before after None = HoldsNone old new before after

-- why that isn't known; one that was cut is none
pub record IsFirstUnread (digest : List ℕ) (spent : Type 0) (old : Reading) (before : Option (List ℕ)) (exit : Exit) : Type 0 where
  pub stop : SegmentStop
  pub why : OwnStops digest spent (pending old before) old.number stop
  pub same : exit ≡ exit_of_last stop

-- ---- the last one behind it

-- it is the last one of what is left; or nothing left is one, and this was in force before
abbrev pub IsLastBehind : Option Config → Option (List ℕ) → Config → Type 0
IsLastBehind first rest config = ((bytes : List ℕ) × EndsWith rest bytes config) ⊎ ((first ≡ Some config) × EndsWithNone rest)

-- what is left isn't read
pub record IsUnread (spent : Type 0) (rest : Option (List ℕ)) (lines : ℕ) (exit : Exit) : Type 0 where
  pub stop : SegmentStop
  pub why : LastStops most_bytes spent rest lines stop
  pub same : exit ≡ exit_of_last stop

-- why there is none: none was in force before, and nothing left is one; or what is left isn't read
abbrev pub IsWithoutLast : Option Config → Type 0 → Option (List ℕ) → ℕ → Exit → Type 0
IsWithoutLast first spent rest lines exit = ((exit ≡ BareRecord) × (first ≡ None) × EndsWithNone rest) ⊎ IsUnread spent rest lines exit

-- ---- the last one of all

-- A configuration is the last one of what stands behind the first line of a record.
pub record IsLastOf (digest : List ℕ) (events : Option (List ℕ)) (config : Config) : Type 0 where
  pub reading : Reading
  pub rest : Option (List ℕ)
  pub first : Option Config
  pub begins : Begins digest unread reading events rest first
  pub last : IsLastBehind first (pending reading rest) config

-- it is read up to where the configuration with which it begins is known, and there is no last one
pub record IsLastless (digest : List ℕ) (spent : Type 0) (events : Option (List ℕ)) (exit : Exit) : Type 0 where
  pub reading : Reading
  pub rest : Option (List ℕ)
  pub first : Option Config
  pub begins : Begins digest unread reading events rest first
  pub why : IsWithoutLast first spent (pending reading rest) reading.number exit

-- Why there is none, by a reader that may have failed, and had been asked so often before and so often then, where it tells that: memory ran out;
-- or it isn't known with what the record begins; or there is no last one.
pub record IsNotLast (digest : List ℕ) (has_failed : Type 0) (before now : Option ℕ) (events : Option (List ℕ)) (exit : Exit) : Type 0 where
  pub asks : ℕ
  pub left_of : later asks now ≡ later most_asks before
  pub why : (exit ≡ Memory) ⊎ IsFirstUnread digest (IsSpent has_failed asks) unread events exit ⊎ IsLastless digest (IsSpent has_failed asks) events exit

-- ---- a change

-- the configuration from which a change is told: a stated one where a file is named, and none else
abbrev pub IsBefore : {A : Type 0} → Option A → Option Config → Type 0
IsBefore None None = ⊤
IsBefore None (Some before) = ⊥
IsBefore (Some path) None = ⊥
IsBefore (Some path) (Some before) = IsStated before

-- what a change from one configuration to another does was printed, and this is whether a server that runs can take it
pub record TellsChange (before config : Config) (taken : Bool) (old new : Option (List ℕ)) : Type 0 where
  pub printed : Appends old new (told (changes_of before config))
  pub is_taken : can_be_taken (changes_of before config) ≡ taken

-- what one configuration decides of an operation another one decides, too, of whoever asks for whomever: no cell was printed
pub record KeepsPolicy (before config : Config) (operation : Operation) (old new : Option (List ℕ)) : Type 0 where
  pub printed : Appends old new (changes_text before config operation)
  pub same : changes_text before config operation ≡ []

-- it decides something otherwise, and exactly the cells in which it does were printed
pub record ChangesPolicy (before config : Config) (operation : Operation) (old new : Option (List ℕ)) : Type 0 where
  pub printed : Appends old new (changes_text before config operation)
  pub other : changes_text before config operation ≢ []
