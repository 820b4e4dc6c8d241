use Rattle.std.proofs.Common.{refl}
use Rattle.std.specs.Fmt.{digits}
use Rattle.sip_route.proofs.examples.own_host_port_example.Goals as goal

pub returns-clause-address : goal.returns-clause-address
unfolding digits
returns-clause-address c = refl

pub returns-clause-other_host : goal.returns-clause-other_host
unfolding digits
returns-clause-other_host c = refl
