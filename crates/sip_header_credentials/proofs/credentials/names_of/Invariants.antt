use Rattle.std.proofs.Common.{◌≡◌, map, take}
use Rattle.sip_header_credentials.proofs.credentials.names_of.Given as goal

-- the names so far
abbrev pub invariant-loop-item : goal.invariant-loop-item
invariant-loop-item l = map (λ x. x.now) l.names.items ≡ map (λ i. i.name) (take l.item-index l.items)
