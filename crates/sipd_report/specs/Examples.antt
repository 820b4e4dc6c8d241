-- Values of the worked examples.
use Rattle.std.specs.Prelude.{codes, pos, List, [], ◌∷◌, Some}
use Rattle.sip_audit.specs.declared.record.AuditOperation.TheVariants as AuditOperation
use Rattle.sip_audit.specs.declared.record.AuditOutcome.TheVariants.{Answer}
use Rattle.sip_audit.specs.declared.record.Record.{Record}
use Rattle.sipd_report.specs.declared.zone.Zone.{Zone}

-- Alice's INVITE to help that rule 4, which has a window, answers at 8:00
abbrev pub answered : Record
answered = record {
  at = 1795784616000;
  number = 7;
  method = codes "INVITE";
  who = Some (codes "alice");
  target = record { user = codes "help"; host = codes "host.com" };
  operation = AuditOperation.Send;
  minute = Some 480;
  outcome = Answer 4 480;
}

-- the clock of an office that is two hours ahead of UTC from 29 March 2026 on, and one from 25 October on
abbrev pub office_of_2026 : List Zone
office_of_2026 = record { since = 1774746000000; offset = pos 120 } ∷ record { since = 1792890000000; offset = pos 60 } ∷ []
