use Rattle.std.proofs.Common.{◌≡◌, take}
use Rattle.sip_location.proofs.candidates.lent.Given as goal

-- those so far
abbrev pub invariant-loop-binding : goal.invariant-loop-binding
invariant-loop-binding l = l.list.items ≡ take l.binding-index l.bindings
