use Rattle.std.proofs.Common.{refl}
use Rattle.sip_engine_request.proofs.stepping.change.Goals as goal

pub returns-clause-leaves : goal.returns-clause-leaves
returns-clause-leaves g c = record {
  at_moment = refl;
  packets_are = c.in_ok-packets.ensures.sent;
  records_are = c.new.ensures;
  becomes = c.in_ok-packets.ensures.becomes;
}
