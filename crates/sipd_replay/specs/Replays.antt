-- What is printed of a record that is replayed with the configuration with which it begins.
use Rattle.std.specs.Prelude.{◌≡◌, ◌⊎◌, ℕ, List, Option}
use Rattle.std.specs.Borrow.{Bor}
use Rattle.std.specs.Io.KnownBytes.{Keeps}
use Rattle.sip_config_types.specs.declared.config.Config.{Config}
use Rattle.sip_journal.specs.declared.record_head.RecordHead.{RecordHead}
use Rattle.sip_replay.specs.Records.{IsRecordReplay, IsRecordUnreplayed}
use Rattle.sip_replay_script.specs.Devices.{later}
use Rattle.sip_replay_script.specs.Lines.{IsSpent, Reading, pending}
use Rattle.sip_replay.specs.resume.declared.record_error.RecordError.{RecordError}
use Rattle.sip_replay.specs.resume.declared.record_error.RecordError.TheVariants.{Write}
use Rattle.sipd_exit.specs.declared.exit.Exit.{Exit}
use Rattle.sipd_exit.specs.declared.exit.Exit.TheVariants.{Device, Memory}
use Rattle.sipd_exit.specs.declared.files.Stated.{Stated}
use Rattle.sipd_exit.specs.declared.device_fault.DeviceFault.TheVariants.{Other}
use Rattle.sipd_old_record.specs.FirstConfiguration.{BeginsWith, IsUnconfigured}
use Rattle.sipd_old_record.specs.Own.{unread}
use Rattle.sipd_replay.specs.ReplayExits.{exit_of_record}
use Rattle.sipd_reload.specs.File.{most_bytes}

-- A server with the configuration with which the record begins, and with the word and the number of its first line, takes what stands behind
-- that, and what is printed of its steps was written.
pub record IsReplayed (head : RecordHead) (named : Option (Bor Stated)) (behind : Option (List ℕ)) (old new : Option (List ℕ)) : Type 0 where
  pub config : Config
  pub reading : Reading
  pub rest : Option (List ℕ)
  pub begins : BeginsWith head.digest named unread reading behind rest config
  pub replay : IsRecordReplay config head.word head.first (pending reading rest) reading.number old new

-- nothing was printed: memory ran out, or it has no configuration
pub record IsUnprinted (head : RecordHead) (named : Option (Bor Stated)) (spent : Type 0) (behind old new : Option (List ℕ)) (exit : Exit) : Type 0 where
  pub silent : new ≡ old
  pub why : (exit ≡ Memory) ⊎ IsUnconfigured head.digest named spent unread behind exit

-- It was refused behind a front of it, which the server took: exactly what is printed of the steps of that front was written, or some of what is
-- printed of what comes next, too, as `IsRecordUnreplayed` says. Where printing stopped, the writer gave up.
pub record IsPartlyPrinted (head : RecordHead) (named : Option (Bor Stated)) (spent writer_gave_up : Type 0) (behind old new : Option (List ℕ))
    (exit : Exit) : Type 0 where
  pub config : Config
  pub reading : Reading
  pub rest : Option (List ℕ)
  pub begins : BeginsWith head.digest named unread reading behind rest config
  pub why : RecordError
  pub lines : ℕ
  pub stopped : IsRecordUnreplayed config head.word head.first most_bytes spent (pending reading rest) reading.number old new why
  pub gave_up : why ≡ Write → writer_gave_up
  pub exit_is : exit ≡ exit_of_record why lines

-- Why not all of it was replayed, by a reader that may have failed, and had been asked so often before and so often then, where it tells that.
pub record IsUnreplayed (head : RecordHead) (named : Option (Bor Stated)) (has_failed : Type 0) (asked asked_then : Option ℕ) (writer_gave_up : Type 0)
    (behind old new : Option (List ℕ)) (exit : Exit) : Type 0 where
  pub asks : ℕ
  pub left_of : later asks asked_then ≡ later unread.asks asked
  pub why : IsUnprinted head named (IsSpent has_failed asks) behind old new exit
      ⊎ IsPartlyPrinted head named (IsSpent has_failed asks) writer_gave_up behind old new exit

-- ---- and handed on

-- it was replayed, and what was written then stays
pub record IsReplayedOn (head : RecordHead) (named : Option (Bor Stated)) (behind old new : Option (List ℕ)) : Type 0 where
  pub written : Option (List ℕ)
  pub replayed : IsReplayed head named behind old written
  pub kept : Keeps written new

-- it was, and the writer gave up when it was to hand that on
pub record IsKeptBack (head : RecordHead) (named : Option (Bor Stated)) (writer_gave_up : Type 0) (behind old new : Option (List ℕ)) (exit : Exit) : Type 0 where
  pub replayed : IsReplayedOn head named behind old new
  pub gave_up : writer_gave_up
  pub exit_is : exit ≡ Device Other
