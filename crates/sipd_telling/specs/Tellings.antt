-- The record in a file that is told.
use Rattle.std.specs.Prelude.{◌≡◌, ◌⊎◌, ℕ, Bool, List, Option}
use Rattle.std.specs.Borrow.{Bor}
use Rattle.sip_config_types.specs.declared.config.Config.{Config}
use Rattle.sip_model.specs.state.declared.server.Server.{Server}
use Rattle.sip_model.specs.TimerOrder.{Standing, first_standing}
use Rattle.sip_journal.specs.declared.record_head.RecordHead.{RecordHead}
use Rattle.sip_replay_script.specs.Devices.{later}
use Rattle.sip_replay_script.specs.Lines.{IsSpent, Reading}
use Rattle.sip_listener.specs.Heard.{Heard}
use Rattle.sip_retell.specs.Retells.{IsRetold}
use Rattle.sip_retell.specs.Stops.{IsUnretold, PassingStops}
use Rattle.sip_retell.specs.declared.error.RetellError.{RetellError}
use Rattle.sip_retell.specs.declared.error.RetellError.TheVariants.{Listener}
use Rattle.sipd_exit.specs.declared.exit.Exit.{Exit}
use Rattle.sipd_exit.specs.declared.exit.Exit.TheVariants.{Memory}
use Rattle.sipd_exit.specs.declared.files.Stated.{Stated}
use Rattle.sipd_old_record.specs.Own.{unread}
use Rattle.sipd_reload.specs.File.{most_bytes}
use Rattle.sipd_old_record.specs.FirstConfiguration.{BeginsWith, IsUnconfigured}
use Rattle.sipd_telling.specs.Exits.{exit_of_retell}

-- a server with this configuration, started with a word
abbrev pub server_with : Config → ℕ → Server
server_with config word = record { config = config; word = word }

-- A server stands at its start, with the configuration with which a record begins whose first line says this head, and with its word and number.
pub record IsBegun (head : RecordHead) (named : Option (Bor Stated)) (server : Server) (standing : Standing) (lines : Reading) (before after : Option
    (List ℕ)) : Type 0 where
  pub config : Config
  pub begins : BeginsWith head.digest named unread lines before after config
  pub server_is : server ≡ server_with config head.word
  pub starts : standing ≡ first_standing head.first

-- why there is none, by a reader that may have failed, and had been asked so often before and so often then, where it tells that
pub record IsUnbegun (head : RecordHead) (named : Option (Bor Stated)) (has_failed : Type 0) (asked asked_then : Option ℕ) (before : Option
    (List ℕ)) (exit : Exit) : Type 0 where
  pub asks : ℕ
  pub left_of : later asks asked_then ≡ later unread.asks asked
  pub why : (exit ≡ Memory) ⊎ IsUnconfigured head.digest named (IsSpent has_failed asks) unread before exit

-- what is left of a record was told
pub record IsToldOn {L : Type 0} (hears : L → Heard → L → Type 0) (server server_then : Server) (old new : Standing) (record_bytes : Option
    (List ℕ)) (lines : ℕ) (until : Option ℕ) (heard heard_then : L) : Type 0 where
  pub lines_then : ℕ
  pub is_over : Bool
  pub retold : IsRetold hears server server_then old new record_bytes lines lines_then until heard heard_then is_over

-- it wasn't, or not to its end; where the listener stopped it had given up
pub record IsUntoldOn {L : Type 0} (hears refuses : L → Heard → L → Type 0) (server server_then : Server) (old new : Standing) (spent : Type 0)
    (record_bytes : Option (List ℕ)) (lines : ℕ) (until : Option ℕ) (heard heard_then : L) (gave_up : Type 0) (exit : Exit) : Type 0 where
  pub why : RetellError
  pub lines_then : ℕ
  pub stopped : IsUnretold hears refuses server server_then old new most_bytes spent record_bytes lines until heard heard_then why
  pub given_up : why ≡ Listener → gave_up
  pub exit_is : exit ≡ exit_of_retell why lines_then

-- what is due by a moment didn't all happen; where the listener stopped it had given up
pub record IsUnpassed {L : Type 0} (hears refuses : L → Heard → L → Type 0) (server : Server) (old new : Standing) (at : ℕ) (heard heard_then : L)
    (gave_up : Type 0) (exit : Exit) : Type 0 where
  pub why : RetellError
  pub lines : ℕ
  pub stopped : PassingStops hears refuses server old new at heard heard_then why
  pub given_up : why ≡ Listener → gave_up
  pub exit_is : exit ≡ exit_of_retell why lines
