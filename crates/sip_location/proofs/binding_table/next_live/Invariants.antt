use Rattle.std.proofs.Common.{◌≡◌, length}
use Rattle.sip_location.specs.Alive.{lives}
use Rattle.sip_location.proofs.binding_table.next_live.Given as goal

-- none so far lives
abbrev pub invariant-loop-first : goal.invariant-loop-first
invariant-loop-first l = lives l.now l.fn.rows ≡ lives l.now l.rest

abbrev pub decreases-loop-first : goal.decreases-loop-first
decreases-loop-first l = length l.rest
