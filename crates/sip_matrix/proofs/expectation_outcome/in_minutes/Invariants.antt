use Rattle.std.proofs.Common.{◌≡◌, drop}
use Rattle.std.specs.Option.{option_copied}
use Rattle.sip_matrix.specs.Expected.{free_minutes}
use Rattle.sip_matrix.proofs.expectation_outcome.in_minutes.Given as goal

-- there is none so far
abbrev pub invariant-loop-minute : goal.invariant-loop-minute
invariant-loop-minute l = free_minutes l.rules l.users l.domains l.expectation (option_copied l.proven) l.operation l.aor (drop l.minute-index l.minutes)
    ≡ free_minutes l.rules l.users l.domains l.expectation (option_copied l.proven) l.operation l.aor l.minutes
