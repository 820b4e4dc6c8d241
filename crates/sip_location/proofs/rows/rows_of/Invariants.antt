use Rattle.std.proofs.Common.{◌≡◌, map, take}
use Rattle.sip_location.specs.KeptBinding.{kept_of}
use Rattle.sip_location.proofs.rows.rows_of.Given as goal

-- what is kept of those so far
abbrev pub invariant-loop-binding : goal.invariant-loop-binding
invariant-loop-binding l = l.list.items ≡ map kept_of (take l.binding-index l.bindings)
