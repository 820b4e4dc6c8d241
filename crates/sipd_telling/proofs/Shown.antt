-- What is told of a record.
use Rattle.std.proofs.Common.{◌≡◌, ◌⊎◌, inr, subst, ℕ, Result, Ok, Err, List, Option, None}
use Rattle.std.specs.Prelude.{IfErr, OnOk}
use Rattle.std.specs.Borrow.{Bor}
use Rattle.sip_model.specs.state.declared.server.Server.{Server}
use Rattle.sip_model.specs.Run.{Link}
use Rattle.sip_model.specs.TimerOrder.{Standing, first_standing}
use Rattle.sip_journal.specs.declared.record_head.RecordHead.{RecordHead}
use Rattle.sip_replay_script.specs.Devices.{later}
use Rattle.sip_replay_script.specs.Lines.{IsSpent, Reading, pending}
use Rattle.sip_listener.specs.Heard.{Heard}
use Rattle.sip_retell.specs.Items.{Item}
use Rattle.sip_retell.specs.Retells.{GoesThrough, IsLawfulRun}
use Rattle.sipd_exit.specs.declared.exit.Exit.{Exit}
use Rattle.sipd_exit.specs.declared.files.Stated.{Stated}
use Rattle.sipd_old_record.specs.Own.{unread}
use Rattle.sipd_telling.specs.Records.{TellsFront, TellsNone, TellsRecord}
use Rattle.sipd_telling.specs.Tellings.{IsBegun, IsToldOn, IsUntoldOn, server_with}

-- ---- what laws say

abbrev pub RunsAreLawful : Type 0
RunsAreLawful =
    (server server_then : Server) (first : ℕ) (new : Standing) (items : List Item) (history : List Link)
    → GoesThrough server server_then (first_standing first) new items history → IsLawfulRun server history

-- ---- a record

module _ {L : Type 0} (hears refuses : L → Heard → L → Type 0) where
  told_from : RunsAreLawful → (head : RecordHead) (named : Option (Bor Stated)) (server server_then : Server) (old new : Standing) (lines : Reading)
      (behind rest : Option (List ℕ)) (heard heard_then : L) → (begun : IsBegun head named server old lines behind rest)
      → IsToldOn hears (server_with begun.config head.word) server_then (first_standing head.first) new (pending lines rest) lines.number None heard heard_then
      → TellsRecord hears head named behind heard heard_then
  told_from lawful head named server server_then old new lines behind rest heard heard_then begun told = record {
    config = begun.config;
    lines = lines;
    rest = rest;
    begins = begun.begins;
    server_then = server_then;
    standing = new;
    told = told;
    access =
        (lawful (server_with begun.config head.word) server_then head.first new told.retold.takes.items told.retold.takes.history told.retold.takes.goes).access;
  }

  -- of a server that begins
  told_whole : RunsAreLawful → (head : RecordHead) (named : Option (Bor Stated)) (server server_then : Server) (old new : Standing) (lines : Reading)
      (behind rest : Option (List ℕ)) (heard heard_then : L) → IsBegun head named server old lines behind rest
      → IsToldOn hears server server_then old new (pending lines rest) lines.number None heard heard_then
      → TellsRecord hears head named behind heard heard_then
  told_whole lawful head named server server_then old new lines behind rest heard heard_then begun told =
      told_from lawful head named server server_then old new lines behind rest heard heard_then begun
      (subst (λ (s : Server). IsToldOn hears s server_then (first_standing head.first) new (pending lines rest) lines.number None heard heard_then)
      begun.server_is
      (subst (λ (x : Standing). IsToldOn hears server server_then x new (pending lines rest) lines.number None heard heard_then) begun.starts told))

  pub told_ok : RunsAreLawful → (result : Result Unit Exit) (head : RecordHead) (named : Option (Bor Stated)) (server server_then : Server)
      (old new : Standing) (lines : Reading) (behind rest : Option (List ℕ)) (heard heard_then : L) → IsBegun head named server old lines behind rest
      → OnOk result (IsToldOn hears server server_then old new (pending lines rest) lines.number None heard heard_then)
      → OnOk result (TellsRecord hears head named behind heard heard_then)
  told_ok lawful (Ok x) head named server server_then old new lines behind rest heard heard_then begun told =
      told_whole lawful head named server server_then old new lines behind rest heard heard_then begun told
  told_ok lawful (Err e) head named server server_then old new lines behind rest heard heard_then begun told = tt

  -- one that wasn't told to its end
  told_front : (head : RecordHead) (named : Option (Bor Stated)) (has_failed : Type 0) (asks : ℕ) (asked asked_then : Option ℕ) (server server_then : Server)
      (old new : Standing) (lines : Reading) (behind rest : Option (List ℕ)) (heard heard_then : L) (gave_up : Type 0) (exit : Exit)
      → IsBegun head named server old lines behind rest → later asks asked_then ≡ later unread.asks asked
      → IsUntoldOn hears refuses server server_then old new (IsSpent has_failed asks) (pending lines rest) lines.number None heard heard_then gave_up exit
      → TellsFront hears refuses head named has_failed asked asked_then behind heard heard_then gave_up exit
  told_front head named has_failed asks asked asked_then server server_then old new lines behind rest heard heard_then gave_up exit begun left h = record {
    config = begun.config;
    lines = lines;
    rest = rest;
    begins = begun.begins;
    server_then = server_then;
    standing = new;
    asks = asks;
    left_of = left;
    stopped =
        subst (λ (s : Server). IsUntoldOn hears refuses s server_then (first_standing head.first) new (IsSpent has_failed asks) (pending lines rest) lines.number
        None heard heard_then gave_up exit) begun.server_is
        (subst (λ (x : Standing). IsUntoldOn hears refuses server server_then x new (IsSpent has_failed asks) (pending lines rest) lines.number None heard
        heard_then gave_up exit) begun.starts h);
  }

  pub told_err : (result : Result Unit Exit) (head : RecordHead) (named : Option (Bor Stated)) (has_failed : Type 0) (asks : ℕ) (asked asked_then : Option ℕ)
      (server server_then : Server) (old new : Standing) (lines : Reading) (behind rest : Option (List ℕ)) (heard heard_then : L) (gave_up : Type 0)
      → IsBegun head named server old lines behind rest → later asks asked_then ≡ later unread.asks asked
      → IfErr result (IsUntoldOn hears refuses server server_then old new (IsSpent has_failed asks) (pending lines rest) lines.number None heard heard_then gave_up)
      → IfErr result (λ exit. TellsNone head named has_failed asked asked_then behind heard heard_then exit
      ⊎ TellsFront hears refuses head named has_failed asked asked_then behind heard heard_then gave_up exit)
  told_err (Ok x) head named has_failed asks asked asked_then server server_then old new lines behind rest heard heard_then gave_up begun left h = tt
  told_err (Err exit) head named has_failed asks asked asked_then server server_then old new lines behind rest heard heard_then gave_up begun left h =
      inr (told_front head named has_failed asks asked asked_then server server_then old new lines behind rest heard heard_then gave_up exit begun left h)
