use Rattle.std.proofs.Common.{refl}
use Rattle.sip_proxy.specs.steps_model.Effect.{replaced}
use Rattle.sip_engine_request.proofs.CountedStates.{left_same}
use Rattle.sip_engine_request.proofs.counting.change.Goals as goal

pub returns-clause-leaves : goal.returns-clause-leaves
returns-clause-leaves g c =
    record {
      at_moment = refl;
      packets_are = c.in_ok-packets.ensures.sent;
      records_are = c.new.ensures;
      leaves =
          left_same c.args.arrival (replaced c.args.draft.change c.args.proxy.now.state.requests) c.args.draft.drafted.updates c.args.proxy.now.state
          c.change.new.self.state c.count-number.new.self.state
          c.requires.coming.number_is c.in_ok-packets.ensures.becomes c.count-number.ensures.counted;
    }
