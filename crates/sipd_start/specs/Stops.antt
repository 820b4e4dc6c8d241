-- Why a server doesn't go on from where a record leads.
use Rattle.std.specs.Prelude.{◌≡◌, ◌⊎◌, ℕ, Bool, true, false, List, Some}
use Rattle.sip_config.specs.Stated.{States}
use Rattle.sip_config_change.specs.declared.key.FrameKey.{FrameKey}
use Rattle.sip_config_change.specs.Frame.{frame_key_of}
use Rattle.sip_config_types.specs.declared.config.Config.{Config}
use Rattle.sip_resume.specs.declared.record_error.RecordError.{RecordError}
use Rattle.sip_resume.specs.declared.record_error.RecordError.TheVariants as resuming
use Rattle.sip_segment_config.specs.declared.stop.SegmentStop.{SegmentStop}
use Rattle.sip_segment_config.specs.declared.stop.SegmentStop.TheVariants as segments
use Rattle.sipd_exit.specs.Files.{IsRefusedWith}
use Rattle.sipd_exit.specs.declared.device_fault.DeviceFault.TheVariants.{Other}
use Rattle.sipd_exit.specs.declared.exit.Exit.{Exit}
use Rattle.sipd_exit.specs.declared.exit.Exit.TheVariants as exits
use Rattle.sipd_old_record.specs.OldRecord.{line_of_file}
use Rattle.sipd_record_files.specs.Unmade.{IsUnmade}
use Rattle.sipd_start.specs.declared.not_resumed.NotResumed.{NotResumed as Reason}
use Rattle.sipd_start.specs.declared.not_resumed.NotResumed.TheVariants.{Unreadable, NoRecord, CutConfiguration, Damaged, TooLong, NoConfiguration, OtherFrame, Unlawful}
use Rattle.sipd_start.specs.declared.not_resumed.StartStop.{StartStop}
use Rattle.sipd_start.specs.declared.not_resumed.StartStop.TheVariants.{NotResumed, Exits}

-- what it is that a file isn't read as a record: the server starts anew, unless memory ran out
abbrev pub unread : Exit → StartStop
unread exits.NoRecord = NotResumed NoRecord
unread (exits.Device fault) = NotResumed Unreadable
unread exit = Exits exit

-- what it is that what stands behind the first line isn't taken
abbrev pub untaken : RecordError → StartStop
untaken resuming.NoMemory = Exits exits.Memory
untaken (resuming.Damaged line) = NotResumed (Damaged (line_of_file line))
untaken resuming.Read = NotResumed Unreadable
untaken resuming.Step = NotResumed Unlawful
untaken resuming.Journal = Exits exits.Recording
untaken resuming.Write = Exits (exits.Device Other)
untaken (resuming.TooLong line) = NotResumed (TooLong (line_of_file line))
untaken (resuming.NoConfiguration line e) = NotResumed (NoConfiguration (line_of_file line) e)
untaken (resuming.OtherFrame line key) = NotResumed (OtherFrame (line_of_file line) key)

-- what it is that the configuration with which it begins isn't read
abbrev pub unheld : SegmentStop → StartStop
unheld segments.NoMemory = Exits exits.Memory
unheld (segments.Damaged line) = NotResumed (Damaged (line_of_file line))
unheld (segments.Cut line) = NotResumed CutConfiguration
unheld segments.Read = NotResumed Unreadable
unheld (segments.TooLong line) = NotResumed (TooLong (line_of_file line))
unheld (segments.NoConfiguration line e) = NotResumed (NoConfiguration (line_of_file line) e)
unheld (segments.OtherFrame line key) = NotResumed (OtherFrame (line_of_file line) key)

-- whether a record can't be read
abbrev pub is_unreadable : Reason → Bool
is_unreadable Unreadable = true
is_unreadable reason = false

-- ---- how a start ends

-- it makes no record, or the bytes of its configuration's file state none
abbrev pub EndsStart : List ℕ → Exit → Type 0
EndsStart bytes exit = IsUnmade exit ⊎ IsRefusedWith bytes exit

-- bytes state a configuration of another frame than the one in force has
pub record StatesOtherFrame (bytes : List ℕ) (in_force : Config) : Type 0 where
  pub config : Config
  pub states : States bytes config
  pub key : FrameKey
  pub other : frame_key_of in_force config ≡ Some key

-- why a server under some configuration doesn't come under that of these bytes
abbrev pub IsNotUnder : List ℕ → Config → Exit → Type 0
IsNotUnder bytes in_force exit = (exit ≡ exits.Memory) ⊎ IsRefusedWith bytes exit ⊎ ((exit ≡ exits.OtherFrame) × StatesOtherFrame bytes in_force)
