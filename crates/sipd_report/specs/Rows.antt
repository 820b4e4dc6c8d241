-- What a row says of a record.
use Rattle.std.specs.Prelude.{ℕ, ℤ, List, [], ◌++◌, codes, decimal, Option, Some, None}
use Rattle.sip_audit.specs.Lines.{who_text, target_text, operation_text}
use Rattle.sip_audit.specs.declared.record.Record.{Record}
use Rattle.sip_audit.specs.declared.record.AuditOutcome.{AuditOutcome}
use Rattle.sip_audit.specs.declared.record.AuditOutcome.TheVariants.{Challenge, Deny, Sent, Answer}
use Rattle.sipd_report.specs.declared.query.Form.{Form}
use Rattle.sipd_report.specs.declared.cells.Cells.{Cells}
use Rattle.sipd_report.specs.Entries.{ruling_of}
use Rattle.sipd_report.specs.Times.{time_text, minutes_text}

-- the rule that decided, `-` for none
abbrev pub ruling_text : Option ℕ → List ℕ
ruling_text None = codes "-"
ruling_text (Some rule) = decimal rule

-- what became of a request, in the words of its audit line
abbrev pub outcome_words : AuditOutcome → List ℕ
outcome_words (Challenge status) = codes "challenge " ++ decimal status
outcome_words (Deny rule) = codes "deny"
outcome_words (Sent rule targets) = codes "sent " ++ decimal targets
outcome_words (Answer rule status) = codes "answer " ++ decimal status

-- the same, without the number of targets
abbrev pub outcome_kind : AuditOutcome → List ℕ
outcome_kind (Challenge status) = codes "challenge " ++ decimal status
outcome_kind (Deny rule) = codes "deny"
outcome_kind (Sent rule targets) = codes "sent"
outcome_kind (Answer rule status) = codes "answer " ++ decimal status

-- the minute of the day at which a rule with a window decided, as 08:00, else `-`
abbrev pub minute_text : Option ℕ → List ℕ
minute_text None = codes "-"
minute_text (Some minute) = minutes_text minute

-- a row's cells
abbrev pub cells_of : Form → ℤ → Record → Cells
cells_of form offset r = record {
  time = time_text form offset r.at;
  number = decimal r.number;
  method = r.method;
  user = who_text r.who;
  target = target_text r.target;
  operation = operation_text r.operation;
  rule = ruling_text (ruling_of r.outcome);
  outcome = outcome_words r.outcome;
  minute = minute_text r.minute;
}

-- ---- inside

-- no text in any cell
abbrev pub no_cells : Cells
no_cells = record { time = []; number = []; method = []; user = []; target = []; operation = []; rule = []; outcome = []; minute = [] }

-- cells with what was asked added
abbrev pub with_request : Form → ℤ → Record → Cells → Cells
with_request form offset r c = record c {
  time = c.time ++ time_text form offset r.at;
  number = c.number ++ decimal r.number;
  method = c.method ++ r.method;
  user = c.user ++ who_text r.who;
}

-- cells with what became of it added
abbrev pub with_decision : Record → Cells → Cells
with_decision r c = record c {
  target = c.target ++ target_text r.target;
  operation = c.operation ++ operation_text r.operation;
  rule = c.rule ++ ruling_text (ruling_of r.outcome);
  outcome = c.outcome ++ outcome_words r.outcome;
  minute = c.minute ++ minute_text r.minute;
}
