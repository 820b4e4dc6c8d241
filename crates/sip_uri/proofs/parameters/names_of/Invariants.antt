use Rattle.std.proofs.Common.{◌≡◌, map, take}
use Rattle.sip_uri.proofs.parameters.names_of.Given as goal

-- the names so far
abbrev pub invariant-loop-parameter : goal.invariant-loop-parameter
invariant-loop-parameter l = map (λ x. x.now) l.names.items ≡ map (λ p. p.name) (take l.parameter-index l.parameters)
