-- What is written for a line that tells a record is what is written of that.
use Rattle.std.proofs.Common.{◌≡◌, ◌∙◌, ℕ, true, if◌then◌else◌, List, [], Option, Some, sym, ap}
use Rattle.sip_audit.specs.declared.record.Record.{Record}
use Rattle.sipd_report.specs.Entries.{is_filled, told_by}
use Rattle.sipd_report.specs.Steps.{entry_text, line_text, record_text}
use Rattle.sipd_report.specs.declared.query.Query.{Query}

pub of_its_record : (q : Query) (line : List ℕ) (r : Record) → is_filled line ≡ true → told_by line ≡ Some r → record_text q r ≡ line_text q line
of_its_record q line r is told =
    sym (ap (λ b. if b then entry_text q (told_by line) else []) is ∙ ap (entry_text q) told)
