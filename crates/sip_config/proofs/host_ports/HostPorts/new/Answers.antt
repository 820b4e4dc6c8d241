use Rattle.std.proofs.Common.{ap}
use Rattle.sip_config_values.proofs.InOrder.{none_placed}
use Rattle.sip_config.proofs.RowPlaces.{places_of}
use Rattle.sip_config.proofs.host_ports.HostPorts.new.Goals as goal

pub invariant_of-result : goal.invariant_of-result
invariant_of-result c = (none_placed c.new.result.entries c.new.ensures.empty).1

pub returns : goal.returns
returns c = ap places_of (none_placed c.new.result.entries c.new.ensures.empty).0
