-- A record that is told to the notes.
use Rattle.std.proofs.Common.{◌≡◌, ◌∙◌, ap, subst, refl, ℕ, Result, Ok, Err, List, Option, None}
use Rattle.std.specs.Prelude.{IfOk}
use Rattle.std.specs.Borrow.{Bor}
use Rattle.sip_config_types.specs.declared.config.Config.{Config}
use Rattle.sip_model.specs.state.declared.server.Server.{Server}
use Rattle.sip_model.specs.Run.{Link}
use Rattle.sip_model.specs.TimerOrder.{Standing, first_standing}
use Rattle.sip_journal.specs.declared.record_head.RecordHead.{RecordHead}
use Rattle.sip_replay_script.specs.Lines.{Reading, pending}
use Rattle.sipd_telling.specs.retell.Items.{Item}
use Rattle.sipd_telling.specs.retell.Retells.{GoesThrough, IsLawfulRun}
use Rattle.sipd_exit.specs.declared.files.Stated.{Stated}
use Rattle.sipd_telling.specs.Tellings.{IsBegun, IsToldOn, server_with}
use Rattle.sipd_page_sections.specs.declared.notes.Notes.{Notes}
use Rattle.sipd_page_sections.specs.declared.told.FileTold.{FileTold}
use Rattle.sipd_page_sections.specs.Notes.{hears_notes}
use Rattle.sipd_page_sections.specs.Sections.{policy_by}
use Rattle.sipd_page.specs.Page.{TellsTo, WasTold}

-- what a law says
abbrev pub RunsAreLawful : Type 0
RunsAreLawful =
    (server server_then : Server) (first : ℕ) (new : Standing) (items : List Item) (history : List Link)
    → GoesThrough server server_then (first_standing first) new items history → IsLawfulRun server history

begun_from : RunsAreLawful → (head : RecordHead) (named : Option (Bor Stated)) (server server_then : Server) (old new : Standing) (lines : Reading)
    (behind rest : Option (List ℕ)) (heard heard_then : Notes) → (begun : IsBegun head named server old lines behind rest)
    → IsToldOn hears_notes (server_with begun.config head.word) server_then (first_standing head.first) new (pending lines rest) lines.number None heard heard_then
    → TellsTo head heard heard_then server_then.config
begun_from lawful head named server server_then old new lines behind rest heard heard_then begun told = record {
  named = named;
  behind = behind;
  day = record {
    config = begun.config;
    lines = lines;
    rest = rest;
    begins = begun.begins;
    server_then = server_then;
    standing = new;
    told = told;
    access =
        (lawful (server_with begun.config head.word) server_then head.first new told.retold.takes.items told.retold.takes.history told.retold.takes.goes).access;
  };
  config_is = refl;
}

-- of a server that begins
pub tells_to : RunsAreLawful → (head : RecordHead) (named : Option (Bor Stated)) (server server_then : Server) (old new : Standing) (lines : Reading)
    (behind rest : Option (List ℕ)) (heard heard_then : Notes) → IsBegun head named server old lines behind rest
    → IsToldOn hears_notes server server_then old new (pending lines rest) lines.number None heard heard_then → TellsTo head heard heard_then server_then.config
tells_to lawful head named server server_then old new lines behind rest heard heard_then begun told =
    begun_from lawful head named server server_then old new lines behind rest heard heard_then begun
    (subst (λ (s : Server). IsToldOn hears_notes s server_then (first_standing head.first) new (pending lines rest) lines.number None heard heard_then)
    begun.server_is
    (subst (λ (x : Standing). IsToldOn hears_notes server server_then x new (pending lines rest) lines.number None heard heard_then) begun.starts told))

-- with what is known of it then, by the configuration that is seen there
pub was_told : {E : Type 0} (result : Result FileTold E) (head : RecordHead) (old new : Notes) (config seen : Config) → TellsTo head old new config
    → seen ≡ config → IfOk result (λ told. told.policy ≡ policy_by seen) → IfOk result (λ told. told.offset ≡ seen.offset)
    → IfOk result (λ told. told.digest ≡ head.digest) → IfOk result (λ told. WasTold old new told.policy told.offset told.digest)
was_told (Ok x) head old new config seen told same policy offset digest = record {
  head = head;
  config = config;
  told = told;
  policy_is = policy ∙ ap policy_by same;
  offset_is = offset ∙ ap (λ (c : Config). c.offset) same;
  digest_is = digest;
}
was_told (Err e) head old new config seen told same policy offset digest = tt

-- the digest of its end is no part of that
pub sealed_told : (old new : Notes) (told after : FileTold) → WasTold old new told.policy told.offset told.digest → after.policy ≡ told.policy
    → after.offset ≡ told.offset → after.digest ≡ told.digest → WasTold old new after.policy after.offset after.digest
sealed_told old new told after was policy offset digest = record {
  head = was.head;
  config = was.config;
  told = was.told;
  policy_is = policy ∙ was.policy_is;
  offset_is = offset ∙ was.offset_is;
  digest_is = digest ∙ was.digest_is;
}
