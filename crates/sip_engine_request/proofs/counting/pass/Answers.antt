use Rattle.std.proofs.Common.{[], refl}
use Rattle.sip_engine_request.proofs.CountedStates.{left_same}
use Rattle.sip_engine_request.proofs.counting.pass.Goals as goal

pub returns-clause-leaves : goal.returns-clause-leaves
returns-clause-leaves g c =
    record {
      at_moment = refl;
      packets_are = refl;
      records_are = c.new.ensures;
      leaves =
          left_same c.args.arrival c.args.proxy.now.state.requests [] c.args.proxy.now.state c.wait.new.self.state c.count-number.new.self.state c.requires.number_is
          c.wait.ensures.becomes
          c.count-number.ensures.counted;
    }
