-- Records of the worked examples.
use Rattle.std.specs.Prelude.{codes, Some, None}
use Rattle.sip_uri.specs.declared.aor.Aor.{Aor}
use Rattle.sip_audit.specs.declared.record.AuditOperation.TheVariants as AuditOperation
use Rattle.sip_audit.specs.declared.record.AuditOutcome.TheVariants.{Challenge, Deny, Sent, Answer}
use Rattle.sip_audit.specs.declared.record.Record.{Record}

-- the user Mufasa of host.com
abbrev pub mufasa : Aor
mufasa = record { user = codes "Mufasa"; host = codes "host.com" }

-- the user help of host.com
abbrev pub help : Aor
help = record { user = codes "help"; host = codes "host.com" }

-- a REGISTER of nobody's that is challenged
abbrev pub challenged : Record
challenged = record {
  at = 1000;
  number = 1;
  method = codes "REGISTER";
  who = None;
  target = mufasa;
  operation = AuditOperation.Register;
  minute = None;
  outcome = Challenge 401;
}

-- one of Mufasa's that is answered
abbrev pub answered : Record
answered = record challenged { at = 2000; number = 2; who = Some (codes "Mufasa"); outcome = Answer 1 200 }

-- one of alice's that is denied, since no rule matches
abbrev pub denied : Record
denied = record answered { who = Some (codes "alice"); outcome = Deny 0 }

-- an INVITE of nobody's that goes to one target
abbrev pub sent : Record
sent = record {
  at = 62000;
  number = 4;
  method = codes "INVITE";
  who = None;
  target = help;
  operation = AuditOperation.Send;
  minute = None;
  outcome = Sent 4 1;
}

-- a REGISTER of Mufasa's without Contact
abbrev pub listed : Record
listed = record answered { operation = AuditOperation.List }

-- an INVITE of nobody's that rule 4, which has a window, lets through at 8:00, to a user without a live binding
abbrev pub within_a_window : Record
within_a_window = record {
  at = 25200000;
  number = 1;
  method = codes "INVITE";
  who = None;
  target = help;
  operation = AuditOperation.Send;
  minute = Some 480;
  outcome = Answer 4 480;
}

-- the same at 7:59, where rule 6 asks for a user
abbrev pub before_a_window : Record
before_a_window = record within_a_window { at = 25199999; minute = None; outcome = Challenge 407 }

-- the same, denied by a rule that holds then
abbrev pub denied_within : Record
denied_within = record within_a_window { outcome = Deny 4 }

-- the same, sent to two targets
abbrev pub sent_within : Record
sent_within = record within_a_window { outcome = Sent 4 2 }
