use Rattle.sip_route_facts.proofs.KeptRoutes.{kept_is}
use Rattle.sip_route_facts.proofs.laws.kept_routes_are_left.Goals as goal

pub returns : goal.returns
returns c = λ own m kept via is. kept_is own m kept via is
