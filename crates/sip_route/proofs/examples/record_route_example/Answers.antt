use Rattle.std.proofs.Common.{refl}
use Rattle.std.specs.Fmt.{digits}
use Rattle.sip_route.proofs.examples.record_route_example.Goals as goal

pub returns-clause-text : goal.returns-clause-text
unfolding digits
returns-clause-text c = refl

pub returns-clause-own : goal.returns-clause-own
unfolding digits
returns-clause-own c = refl

pub returns-clause-escaped : goal.returns-clause-escaped
unfolding digits
returns-clause-escaped c = refl
