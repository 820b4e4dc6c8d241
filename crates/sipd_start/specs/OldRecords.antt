-- The configuration with which the first events of a record were taken, and what stands behind it.
use Rattle.std.specs.Prelude.{◌≡◌, ◌≢◌, ◌⊎◌, ℕ, List, Option, Some, None}
use Rattle.sip_config.specs.Stated.{States}
use Rattle.sip_config_change.specs.Frame.{frame_key_of}
use Rattle.sip_config_change.specs.declared.key.FrameKey.{FrameKey}
use Rattle.sip_config_types.specs.declared.config.Config.{Config}
use Rattle.sip_journal.specs.declared.record_head.RecordHead.{RecordHead}
use Rattle.sip_replay_script.specs.Lines.{Reading}
use Rattle.sip_segment_config.specs.declared.reading.RecordedConfig.{RecordedConfig}
use Rattle.sip_segment_config.specs.declared.stop.SegmentStop.{SegmentStop}
use Rattle.sipd_old_record.specs.Own.{HoldsNone, HoldsOwn, OwnStops, unread}
use Rattle.sipd_start.specs.Stops.{EndsStart, unheld}
use Rattle.sipd_start.specs.declared.not_resumed.NotResumed.TheVariants.{OtherConfiguration, OtherFrame}
use Rattle.sipd_start.specs.declared.not_resumed.StartStop.{StartStop}
use Rattle.sipd_start.specs.declared.not_resumed.StartStop.TheVariants.{NotResumed, Exits}

-- some configuration that bytes state is one of the same server to others
pub record HaveFrameOf (bytes : List ℕ) (other : Config) : Type 0 where
  pub config : Config
  pub states : States bytes config
  pub same : frame_key_of config other ≡ None

-- The bytes of the configuration with which the first events of a record were taken whose first line says that head, where the file that is to
-- be gone on with has these bytes and that digest: the record holds its own, of the same frame as the file's; or it holds none, and its first
-- line has the file's digest. So much of it is read then.
pub data IsBegunBy (bytes digest : List ℕ) (head : RecordHead) (events : Option (List ℕ)) (reading : Reading) (rest : Option (List ℕ)) (first : List ℕ) : Type 0 where
  ByOwn : (config : Config) → HoldsOwn head.digest unread reading events rest first config → HaveFrameOf bytes config
      → IsBegunBy bytes digest head events reading rest first
  ByFile : HoldsNone unread reading events rest → head.digest ≡ digest → first ≡ bytes → IsBegunBy bytes digest head events reading rest first

-- ---- why there is none

-- it holds none, and was made with another one than the file's
pub record IsOfAnother (digest : List ℕ) (head : RecordHead) (events : Option (List ℕ)) : Type 0 where
  pub other : head.digest ≢ digest
  pub reading : Reading
  pub rest : Option (List ℕ)
  pub none : HoldsNone unread reading events rest

-- its own is that of another server than the file's, by a key
pub record IsOfOtherFrame (bytes : List ℕ) (head : RecordHead) (events : Option (List ℕ)) (key : FrameKey) : Type 0 where
  pub reading : Reading
  pub rest : Option (List ℕ)
  pub first : List ℕ
  pub own : Config
  pub holds : HoldsOwn head.digest unread reading events rest first own
  pub config : Config
  pub states : States bytes config
  pub other : frame_key_of config own ≡ Some key

-- why a record's first events weren't taken with its own configuration, where it holds that, or with the file's
abbrev pub IsNotFirst : List ℕ → List ℕ → RecordHead → Option RecordedConfig → StartStop → Type 0
IsNotFirst bytes digest head own (Exits exit) = EndsStart bytes exit
IsNotFirst bytes digest head None (NotResumed reason) = (reason ≡ OtherConfiguration) × (head.digest ≢ digest)
IsNotFirst bytes digest head (Some own) (NotResumed reason) =
    (key : FrameKey) × (config : Config) × (reason ≡ OtherFrame 2 key) × States bytes config × (frame_key_of config own.config ≡ Some key)

-- its own isn't read
pub record IsUnheld (spent : Type 0) (head : RecordHead) (events : Option (List ℕ)) (stop : StartStop) : Type 0 where
  pub why : SegmentStop
  pub stops : OwnStops head.digest spent events 0 why
  pub same : stop ≡ unheld why

-- Why nothing is taken of what stands there: its own configuration isn't read; or it has none, and isn't the file's; or it is another server's.
abbrev pub IsUnbegun : Type 0 → List ℕ → List ℕ → RecordHead → Option (List ℕ) → StartStop → Type 0
IsUnbegun spent bytes digest head events (Exits exit) = EndsStart bytes exit
IsUnbegun spent bytes digest head events (NotResumed reason) =
    IsUnheld spent head events (NotResumed reason) ⊎ ((reason ≡ OtherConfiguration) × IsOfAnother digest head events)
    ⊎ ((key : FrameKey) × (reason ≡ OtherFrame 2 key) × IsOfOtherFrame bytes head events key)
