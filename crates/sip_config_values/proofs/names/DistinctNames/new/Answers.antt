use Rattle.std.proofs.Common.{map, ap}
use Rattle.sip_config_values.proofs.InOrder.{Name, none_placed}
use Rattle.sip_config_values.proofs.names.DistinctNames.new.Goals as goal

pub invariant_of-result : goal.invariant_of-result
invariant_of-result c = (none_placed c.new.result.entries c.new.ensures.empty).1

pub returns : goal.returns
returns c = ap (map (λ (name : Name). name.items)) (none_placed c.new.result.entries c.new.ensures.empty).0
