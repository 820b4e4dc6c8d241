use Rattle.std.proofs.Common.{◌≡◌, length, take}
use Rattle.sip_uri_equality.specs.Order.{those_of}
use Rattle.sip_uri_equality.proofs.places.refer_to.Given as goal

-- the places so far
abbrev pub invariant-loop-index : goal.invariant-loop-index
invariant-loop-index g l = (length l.places ≡ length l.items) × (those_of (take l.index l.places) ≡ take l.index l.items)
