use Rattle.std.proofs.Common.{refl}
use Rattle.sip_engine_request.proofs.stepping.end.Goals as goal

pub returns-clause-leaves : goal.returns-clause-leaves
returns-clause-leaves g c = λ r at. record { at_moment = refl; packets_are = c.new.ensures; records_are = c.new-2.ensures; becomes = c.end.ensures.becomes r at }
