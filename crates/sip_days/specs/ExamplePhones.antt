-- A day on which two users register.
use Rattle.std.specs.Prelude.{ℕ, List, [], ◌∷◌, codes, None, Some}
use Rattle.sip_audit.specs.declared.record.AuditOperation.TheVariants as AuditOperation
use Rattle.sip_audit.specs.declared.record.AuditOutcome.{AuditOutcome}
use Rattle.sip_audit.specs.declared.record.AuditOutcome.TheVariants.{Answer, Deny}
use Rattle.sip_audit.specs.declared.record.Record.{Record}
use Rattle.sip_config_types.specs.declared.config.Config.{Config}
use Rattle.sip_listener.specs.Heard.{Heard, heard_as}

-- what is recorded of a user's REGISTER
abbrev pub asked : ℕ → List ℕ → AuditOutcome → Record
asked at user outcome = record {
  at = at;
  number = at;
  method = codes "REGISTER";
  who = Some user;
  target = record { user = user; host = codes "office.example" };
  operation = AuditOperation.Register;
  minute = None;
  outcome = outcome;
}

abbrev pub step_of : Config → Record → Heard
step_of config r = heard_as config None (record { at = r.at; packets = []; records = r ∷ [] })

abbrev pub registering_day : Config → List Heard
registering_day config =
    step_of config (asked 1000 (codes "carol") (Answer 1 200))
    ∷ step_of config (asked 2000 (codes "ivan") (Answer 1 200))
    ∷ step_of config (asked 2500 (codes "dave") (Deny 2))
    ∷ step_of config (asked 3000 (codes "carol") (Answer 1 200))
    ∷ []
