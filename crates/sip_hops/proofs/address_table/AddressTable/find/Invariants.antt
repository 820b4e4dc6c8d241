use Rattle.std.proofs.Common.{length}
use Rattle.sip_hops.specs.HostAddress.{is_row_for}
use Rattle.sip_hops.specs.Code.{code_of}
use Rattle.sip_hops.proofs.Chains.{IsOnTheWay, rows_left}
use Rattle.sip_hops.proofs.address_table.AddressTable.find.Given as goal

-- no row in front of this place is looked for
abbrev pub invariant-loop-place : goal.invariant-loop-place
invariant-loop-place l = IsOnTheWay l.rows (code_of l.host l.port) (is_row_for l.host l.port) l.place

abbrev pub decreases-loop-place : goal.decreases-loop-place
decreases-loop-place l = rows_left (length l.rows) l.place
