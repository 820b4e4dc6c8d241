use Rattle.std.proofs.Common.{◌≡◌, drop}
use Rattle.sip_matrix.specs.Expected.{free_users}
use Rattle.sip_matrix.proofs.expectation_outcome.in_users.Given as goal

-- there is none so far
abbrev pub invariant-loop-user : goal.invariant-loop-user
invariant-loop-user l = free_users l.rules l.users l.domains l.expectation l.operation l.aor l.minutes (drop l.user-index l.some)
    ≡ free_users l.rules l.users l.domains l.expectation l.operation l.aor l.minutes l.some
