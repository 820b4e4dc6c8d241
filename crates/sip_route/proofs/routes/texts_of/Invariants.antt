use Rattle.std.proofs.Common.{◌≡◌, map, take}
use Rattle.sip_route.proofs.routes.texts_of.Given as goal

-- the texts so far
abbrev pub invariant-loop-route : goal.invariant-loop-route
invariant-loop-route l = l.texts ≡ map (λ x. x.now) (take l.route-index l.routes)
