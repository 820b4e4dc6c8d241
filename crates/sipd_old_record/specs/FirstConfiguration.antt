-- With which configuration a record begins, and why it has none.
use Rattle.std.specs.Prelude.{◌≡◌, ◌≢◌, ◌⊎◌, List, [], ℕ, Option, Some, None, IfSome}
use Rattle.std.specs.Borrow.{Bor}
use Rattle.sip_config_types.specs.declared.config.Config.{Config}
use Rattle.sip_config.specs.Stated.{States}
use Rattle.sip_replay_script.specs.Lines.{Reading, pending}
use Rattle.sip_segment_config.specs.declared.stop.SegmentStop.{SegmentStop}
use Rattle.sip_segment_config.specs.declared.stop.SegmentStop.TheVariants as segments
use Rattle.sipd_exit.specs.Files.{IsRefusedWith}
use Rattle.sipd_exit.specs.declared.exit.Exit.{Exit}
use Rattle.sipd_exit.specs.declared.exit.Exit.TheVariants.{BareRecord, Device, Memory, OtherConfiguration, Script}
use Rattle.sipd_exit.specs.declared.files.Stated.{Stated}
use Rattle.sipd_exit.specs.declared.device_fault.DeviceFault.TheVariants.{Other}
use Rattle.sipd_old_record.specs.OldRecord.{line_of_file}
use Rattle.sipd_old_record.specs.Own.{BeginsAsEvent, HoldsNone, HoldsOwn, OwnStops}

-- how the program ends where the configuration isn't read with which a record begins
abbrev pub exit_of_segment : SegmentStop → Exit
exit_of_segment segments.NoMemory = Memory
exit_of_segment (segments.Damaged line) = Script (line_of_file line)
exit_of_segment (segments.Cut line) = Script (line_of_file line)
exit_of_segment (segments.TooLong line) = Script (line_of_file line)
exit_of_segment (segments.NoConfiguration line e) = Script (line_of_file line)
exit_of_segment (segments.OtherFrame line key) = Script (line_of_file line)
exit_of_segment segments.Read = Device Other

-- a record begins with this configuration of its own, where its first line has that digest
abbrev pub GivesOwn : List ℕ → Reading → Reading → Option (List ℕ) → Option (List ℕ) → Config → Type 0
GivesOwn digest old new before after config = (bytes : List ℕ) × HoldsOwn digest old new before after bytes config

-- a file that is named has this digest
abbrev pub HasDigest : List ℕ → Option (Bor Stated) → Type 0
HasDigest digest named = IfSome named (λ file. file.now.digest ≡ digest)

-- a file is named, and its bytes state this configuration
abbrev pub StatesNamed : Option (Bor Stated) → Config → Type 0
StatesNamed None config = ⊥
StatesNamed (Some file) config = States file.now.bytes config

-- The configuration with which a record begins whose first line has this digest: its own; or of one that holds none that of the file that is
-- named. A file that is named has that digest.
pub data BeginsWith (digest : List ℕ) (named : Option (Bor Stated)) (old new : Reading) (before after : Option (List ℕ)) (config : Config) : Type 0 where
  Own : HasDigest digest named → GivesOwn digest old new before after config → BeginsWith digest named old new before after config
  OfFile : HasDigest digest named → HoldsNone old new before after → StatesNamed named config → BeginsWith digest named old new before after config

-- why its own isn't read
pub record OwnUnread (digest : List ℕ) (spent : Type 0) (old : Reading) (before : Option (List ℕ)) (exit : Exit) : Type 0 where
  pub stop : SegmentStop
  pub same : exit ≡ exit_of_segment stop
  pub stops : OwnStops digest spent (pending old before) old.number stop

-- why the file's isn't: none is named; or its bytes state none; or memory ran out
abbrev pub UnnamedStops : Option (Bor Stated) → Exit → Type 0
UnnamedStops None exit = exit ≡ BareRecord
UnnamedStops (Some file) exit = (exit ≡ Memory) ⊎ IsRefusedWith file.now.bytes exit

-- a file is named, of another digest
abbrev pub IsOfAnother : List ℕ → Option (Bor Stated) → Exit → Type 0
IsOfAnother digest None exit = ⊥
IsOfAnother digest (Some file) exit = (exit ≡ OtherConfiguration) × (file.now.digest ≢ digest)

-- it holds no configuration, and none is taken of the file either
pub record IsUnnamed (named : Option (Bor Stated)) (old : Reading) (before : Option (List ℕ)) (exit : Exit) : Type 0 where
  pub none : IfSome (pending old before) (λ bytes. (bytes ≡ []) ⊎ BeginsAsEvent bytes)
  pub stops : UnnamedStops named exit

-- why a record isn't replayed at all
abbrev pub IsUnconfigured : List ℕ → Option (Bor Stated) → Type 0 → Reading → Option (List ℕ) → Exit → Type 0
IsUnconfigured digest named spent old before exit =
    IsOfAnother digest named exit ⊎ OwnUnread digest spent old before exit ⊎ IsUnnamed named old before exit
