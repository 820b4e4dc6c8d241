-- Records that are told to a listener, one behind the other, as one history. What a file holds no clause can say: for whatever records the files hold,
-- it is told these.
use Rattle.std.specs.Prelude.{◌≡◌, ◌⊎◌, ℕ, zero, suc, List, [], ◌++◌, Option, None, Some}
use Rattle.std.specs.Borrow.{Bor}
use Rattle.sip_config_types.specs.declared.config.Config.{Config}
use Rattle.sip_model.specs.state.declared.server.Server.{Server}
use Rattle.sip_model.specs.Access.{Access}
use Rattle.sip_model.specs.TimerOrder.{Standing, first_standing}
use Rattle.sip_journal.specs.declared.record_head.RecordHead.{RecordHead}
use Rattle.sip_replay_script.specs.Devices.{later}
use Rattle.sip_replay_script.specs.Lines.{IsSpent, Reading, pending}
use Rattle.sip_listener.specs.Heard.{Heard, adds}
use Rattle.sipd_exit.specs.declared.exit.Exit.{Exit}
use Rattle.sipd_exit.specs.declared.files.Stated.{Stated}
use Rattle.sipd_old_record.specs.Own.{unread}
use Rattle.sipd_old_record.specs.FirstConfiguration.{BeginsWith}
use Rattle.sipd_telling.specs.Onward.{HearsAll, new_steps, reached_behind, start_of}
use Rattle.sipd_telling.specs.Tellings.{IsToldOn, IsUnbegun, IsUntoldOn, server_with}
use Rattle.sipd_telling.specs.declared.onward.DayPoint.{DayPoint}

-- ---- a record

-- A listener was told a record whose first line says this head, to its end: the steps of the run over its events, from a start with the configuration
-- with which it begins. Each step of that run is lawful by its history.
pub record TellsRecord {L : Type 0} (hears : L → Heard → L → Type 0) (head : RecordHead) (named : Option (Bor Stated)) (behind : Option (List ℕ))
    (old new : L) : Type 0 where
  pub config : Config
  pub lines : Reading
  pub rest : Option (List ℕ)
  pub begins : BeginsWith head.digest named unread lines behind rest config
  pub server_then : Server
  pub standing : Standing
  pub told : IsToldOn hears (server_with config head.word) server_then (first_standing head.first) standing (pending lines rest) lines.number None old new
  pub access : Access (server_with config head.word) told.retold.takes.history

-- it was told what is in front of that for which it isn't told further, by a reader that may have failed, and had been asked so often before and so
-- often then, where it tells that
pub record TellsFront {L : Type 0} (hears refuses : L → Heard → L → Type 0) (head : RecordHead) (named : Option (Bor Stated)) (has_failed : Type 0)
    (asked asked_then : Option ℕ) (behind : Option (List ℕ)) (old new : L) (gave_up : Type 0) (exit : Exit) : Type 0 where
  pub config : Config
  pub lines : Reading
  pub rest : Option (List ℕ)
  pub begins : BeginsWith head.digest named unread lines behind rest config
  pub server_then : Server
  pub standing : Standing
  pub asks : ℕ
  pub left_of : later asks asked_then ≡ later unread.asks asked
  pub stopped : IsUntoldOn hears refuses (server_with config head.word) server_then (first_standing head.first) standing (IsSpent has_failed asks)
      (pending lines rest) lines.number None old new gave_up exit

-- nothing was: the record has no configuration
pub record TellsNone {L : Type 0} (head : RecordHead) (named : Option (Bor Stated)) (has_failed : Type 0) (asked asked_then : Option ℕ) (behind : Option
    (List ℕ)) (old new : L) (exit : Exit) : Type 0 where
  pub silent : new ≡ old
  pub why : IsUnbegun head named has_failed asked asked_then behind exit

-- ---- a history

-- a record says these steps
pub record SaysSteps (head : RecordHead) (steps : List Heard) : Type 0 where
  pub named : Option (Bor Stated)
  pub behind : Option (List ℕ)
  pub tells : TellsRecord adds head named behind [] steps

-- A record more stands behind others, of which these steps are the history, up to a point. What it follows by its own word is known of it, and else
-- nothing is.
pub record SaysMore (day : List Heard) (reached : Option DayPoint) (SaysOthers : List Heard → Option DayPoint → Type 0) : Type 0 where
  pub earlier : List Heard
  pub before : Option DayPoint
  pub others : SaysOthers earlier before
  pub known : Option DayPoint
  pub follows : (known ≡ None) ⊎ (known ≡ before)
  pub head : RecordHead
  pub steps : List Heard
  pub says : SaysSteps head steps
  pub reached_is : reached ≡ Some (reached_behind (start_of head.first) steps)
  pub day_is : day ≡ earlier ++ new_steps known (start_of head.first) steps

-- so many records say one history, one behind the other, up to a point
abbrev pub SaysHistory : ℕ → List Heard → Option DayPoint → Type 0
SaysHistory zero day reached = (day ≡ []) × (reached ≡ None)
SaysHistory (suc count) day reached = SaysMore day reached (SaysHistory count)

-- a listener was told so many records: the steps of their history
pub record TellsRecords {L : Type 0} (hears : L → Heard → L → Type 0) (count : ℕ) (old new : L) (reached : Option DayPoint) : Type 0 where
  pub day : List Heard
  pub says : SaysHistory count day reached
  pub heard : HearsAll hears old new day

-- up to whatever point
pub record TellsFiles {L : Type 0} (hears : L → Heard → L → Type 0) (count : ℕ) (old new : L) : Type 0 where
  pub reached : Option DayPoint
  pub tells : TellsRecords hears count old new reached

-- one record more, behind others that reached a point
pub record TellsNext {L : Type 0} (hears : L → Heard → L → Type 0) (before reached : Option DayPoint) (old new : L) : Type 0 where
  pub known : Option DayPoint
  pub follows : (known ≡ None) ⊎ (known ≡ before)
  pub head : RecordHead
  pub steps : List Heard
  pub says : SaysSteps head steps
  pub reached_is : reached ≡ Some (reached_behind (start_of head.first) steps)
  pub heard : HearsAll hears old new (new_steps known (start_of head.first) steps)
