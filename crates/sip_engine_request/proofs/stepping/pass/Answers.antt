use Rattle.std.proofs.Common.{refl}
use Rattle.sip_engine_request.proofs.stepping.pass.Goals as goal

pub returns-clause-leaves : goal.returns-clause-leaves
returns-clause-leaves g c = record { at_moment = refl; packets_are = c.new.ensures; records_are = c.new-2.ensures; becomes = c.wait.ensures.becomes }
