use Rattle.std.proofs.Common.{◌≡◌, drop}
use Rattle.sip_matrix.specs.Expected.{free_operations}
use Rattle.sip_matrix.proofs.expectation_outcome.in_operations.Given as goal

-- there is none so far
abbrev pub invariant-loop-operation : goal.invariant-loop-operation
invariant-loop-operation l = free_operations l.rules l.users l.domains l.expectation l.minutes l.columns (drop l.operation-index l.operations)
    ≡ free_operations l.rules l.users l.domains l.expectation l.minutes l.columns l.operations
