-- What the records of decisions come to (this project's profile).
use Rattle.std.specs.Prelude.{ℕ, ◌+◌, ◌-◌, ◌^◌, min, List, [], ◌∷◌, Option, Some, None}
use Rattle.sip_audit.specs.declared.record.AuditOutcome.{AuditOutcome}
use Rattle.sip_audit.specs.declared.record.AuditOutcome.TheVariants.{Challenge, Deny, Sent, Answer}
use Rattle.sip_audit.specs.declared.record.Record.{Record}
use Rattle.sipd_status.specs.declared.tally.Decisions.{Decisions}
use Rattle.sipd_status.specs.declared.tally.Proof.{Proof}
use Rattle.sipd_status.specs.declared.tally.Proof.TheVariants.{Given, Wanted, Unasked}
use Rattle.sipd_status.specs.declared.tally.Tally.{Tally}

-- one more, up to the greatest count
abbrev pub more : ℕ → ℕ
more n = min (n + 1) (2 ^ 64 - 1)

-- one more of what became of a request
abbrev pub with_outcome : AuditOutcome → Decisions → Decisions
with_outcome (Challenge status) d = record d { challenged = more d.challenged }
with_outcome (Deny rule) d = record d { denied = more d.denied }
with_outcome (Sent rule targets) d = record d { sent = more d.sent }
with_outcome (Answer rule status) d = record d { answered = more d.answered }

-- where nobody was proven: a challenge asks for that
abbrev pub proof_by : AuditOutcome → Proof
proof_by (Challenge status) = Wanted
proof_by (Deny rule) = Unasked
proof_by (Sent rule targets) = Unasked
proof_by (Answer rule status) = Unasked

-- what a record says of who asked
abbrev pub proof_from : Option (List ℕ) → AuditOutcome → Proof
proof_from (Some name) outcome = Given
proof_from None outcome = proof_by outcome

abbrev pub proof_of : Record → Proof
proof_of r = proof_from r.who r.outcome

-- of no record
abbrev pub no_tally : Tally
no_tally = record { decisions = record { challenged = 0; denied = 0; sent = 0; answered = 0 }; judged = None }

-- of one more
abbrev pub with_record : Record → Tally → Tally
with_record r t = record { decisions = with_outcome r.outcome t.decisions; judged = Some (record { number = r.number; proof = proof_of r }) }

-- of these more, in their order
abbrev pub tally_behind : List Record → Tally → Tally
tally_behind [] t = t
tally_behind (r ∷ rest) t = tally_behind rest (with_record r t)
