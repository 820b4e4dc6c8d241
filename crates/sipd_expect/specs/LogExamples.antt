-- Lines of a log that are asked again.
use Rattle.std.specs.Prelude.{ℕ, List, codes, Option, None, pos}
use Rattle.sip_audit.specs.declared.record.AuditOperation.TheVariants as Logged
use Rattle.sip_audit.specs.declared.record.AuditOutcome.{AuditOutcome}
use Rattle.sip_audit.specs.declared.record.Record.{Record}
use Rattle.sip_policy.specs.Examples.{by_day, rules_with, user_at}
use Rattle.sip_config_types.specs.declared.config.Config.{Config}
use Rattle.sip_config_types.specs.Sample.{sample}
use Rattle.sipd_expect.specs.LogTelling.{told_for}

-- an INVITE to a user of host.com, a minute and two seconds behind 1970
abbrev pub call : Option (List ℕ) → List ℕ → AuditOutcome → Record
call who user outcome = record {
  at = 62000;
  number = 4;
  method = codes "INVITE";
  who = who;
  target = user_at user (codes "host.com");
  operation = Logged.Send;
  minute = None;
  outcome = outcome;
}

-- a REGISTER for a user of host.com
abbrev pub registration : Option (List ℕ) → List ℕ → AuditOutcome → Record
registration who user outcome = record (call who user outcome) { method = codes "REGISTER"; operation = Logged.Register }

-- what is told of a line that is said to be `line`, under the sample
abbrev pub told : Record → Option (List ℕ)
told r = told_for sample (codes "line") r

-- the sample an hour ahead of UTC, where help may be called by anyone from 8:00 to before 18:00
abbrev pub by_hours : Config
by_hours = record sample { offset = pos 60; rules = rules_with by_day }

-- what is told of a call to help at a moment, under that
abbrev pub told_at : ℕ → AuditOutcome → Option (List ℕ)
told_at moment outcome = told_for by_hours (codes "line") (record (call None (codes "help") outcome) { at = moment })
