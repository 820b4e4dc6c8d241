-- The configuration with which a record begins, behind its first line.
use Rattle.std.specs.Prelude.{◌≡◌, ◌≢◌, ◌+◌, ◌⊎◌, ℕ, List, [], Option, IfSome, true}
use Rattle.std.specs.Io.KnownBytes.{Keeps}
use Rattle.sha2.specs.Sha256.{sha256}
use Rattle.sip_config_types.specs.declared.config.Config.{Config}
use Rattle.sip_replay_script.specs.Lines.{Reading, pending}
use Rattle.sip_replay_script.specs.Recorded.{IsDamagedRecord}
use Rattle.sip_journal.specs.Configurations.{BeginsBy, IsDamagedConfiguration, begins_event}
use Rattle.sip_segment_config.specs.Last.{IsDamagedPart}
use Rattle.sip_segment_config.specs.Reads.{GivesStated}
use Rattle.sip_segment_config.specs.Stops.{NextIs, ReadStops}
use Rattle.sip_segment_config.specs.declared.stop.SegmentStop.{SegmentStop}
use Rattle.sip_segment_config.specs.declared.stop.SegmentStop.TheVariants.{Damaged, Read}
use Rattle.sipd_old_record.specs.Readers.{most_asks}
use Rattle.sipd_reload.specs.File.{most_bytes}

-- nothing is read of what a reader gives
abbrev pub unread : Reading
unread = record { unread = []; asks = most_asks; number = 0 }

-- The text that comes next in a record whose first line has this digest says a configuration: these bytes, which have that digest, and they
-- state this.
pub record HoldsOwn (digest : List ℕ) (old new : Reading) (before after : Option (List ℕ)) (bytes : List ℕ) (config : Config) : Type 0 where
  pub gives : GivesStated old new before after bytes config
  pub same : sha256 bytes ≡ digest

-- what begins as an event does, and with no configuration, nor with a front of one's text
pub record BeginsAsEvent (bytes : List ℕ) : Type 0 where
  pub event : BeginsBy begins_event true bytes
  pub none : IsDamagedConfiguration bytes

-- no configuration comes next: nothing does, or what begins as an event; none of it was passed
pub record HoldsNone (old new : Reading) (before after : Option (List ℕ)) : Type 0 where
  pub kept : Keeps (pending old before) (pending new after)
  pub none : IfSome (pending old before) (λ bytes. (bytes ≡ []) ⊎ BeginsAsEvent bytes)

-- why what comes next begins as no event does, behind so many lines: nothing comes, or what is no event and no front of one's text; or the reader
-- stopped
abbrev pub IsNoEvent : Type 0 → Option (List ℕ) → ℕ → SegmentStop → Type 0
IsNoEvent spent rest lines stop =
    ((stop ≡ Damaged (lines + 1)) × IfSome rest (λ bytes. (bytes ≡ []) ⊎ IsDamagedRecord bytes)) ⊎ ((stop ≡ Read) × spent)

-- Why neither is known of a record whose first line has this digest, behind so many lines: a configuration comes next, and the digest is that
-- of other bytes, so that the first line is damaged; or what comes next is none, as `read_configuration` says, of at most as many bytes as are
-- read of one that changes; or it begins no event either.
abbrev pub OwnStops : List ℕ → Type 0 → Option (List ℕ) → ℕ → SegmentStop → Type 0
OwnStops digest spent rest lines stop =
    ((stop ≡ Damaged 0) × NextIs rest (λ bytes. sha256 bytes ≢ digest))
    ⊎ ((stop ≡ Damaged (lines + 1)) × IfSome rest IsDamagedPart)
    ⊎ ReadStops most_bytes spent rest lines stop
