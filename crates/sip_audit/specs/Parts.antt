-- What a line says, in texts of that line.
use Rattle.std.specs.Prelude.{option_map}
use Rattle.sip_audit.specs.declared.parts.AuditLineParts.{AuditLineParts}
use Rattle.sip_audit.specs.declared.record.Record.{Record}

-- the record that it says, its user as it is written
abbrev pub seen : AuditLineParts → Record
seen p = record {
  at = p.at;
  number = p.number;
  method = p.method.now;
  who = option_map (λ name. name.now) p.who;
  target = record { user = p.user.now; host = p.host.now };
  operation = p.operation;
  minute = p.minute;
  outcome = p.outcome;
}
