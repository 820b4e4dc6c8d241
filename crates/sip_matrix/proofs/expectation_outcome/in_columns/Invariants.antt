use Rattle.std.proofs.Common.{◌≡◌, drop}
use Rattle.sip_matrix.specs.Expected.{free_columns}
use Rattle.sip_matrix.proofs.expectation_outcome.in_columns.Given as goal

-- there is none so far
abbrev pub invariant-loop-column : goal.invariant-loop-column
invariant-loop-column l = free_columns l.rules l.users l.domains l.expectation l.minutes (drop l.column-index l.columns) l.operation
    ≡ free_columns l.rules l.users l.domains l.expectation l.minutes l.columns l.operation
