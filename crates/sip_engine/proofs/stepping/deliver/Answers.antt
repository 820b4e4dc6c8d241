use Rattle.std.proofs.Common.{◌<◌, ◌^◌, ℕ, subst, sym, arith}
use Rattle.sip_model.specs.steps_model.Step.{NoneAgainBefore, NoneAgainBy, NoneBefore, NoneBy, moment_of}
use Rattle.sip_verdict.specs.context_model.Retransmission.{resends}
use Rattle.sip_verdict.specs.state.State.{deadlines}
use Rattle.sip_engine.proofs.Numbered.{later_is_not_before}
use Rattle.sip_engine.proofs.stepping.deliver.Goals as goal

pub take_datagram-requires : goal.take_datagram-requires
take_datagram-requires g c =
    let old = c.args.proxy.now.state in
    let now = moment_of old c.args.coming.now.at in
    let early : c.args.coming.now.at < 2 ^ 62 = c.is_too_large.ensures.small c.if-is_too_large.false in
    let few : old.next < 2 ^ 62 = omega (arith, c.is_too_large-2.ensures.small c.if-is_too_large-2.false, c.next.ensures) in
    let none : NoneBy now old.requests × NoneAgainBy now old.requests = c.requires.none_due early in
    record {
      coming = record {
        number_is = c.next-number.ensures;
        small = few;
        moment = record {
          later = c.moment_of-now.ensures.later;
          small = c.moment_of-now.ensures.small;
          none_before = subst (λ (n : ℕ). NoneBefore n old.requests) (sym c.moment_of-now.ensures.value) (later_is_not_before now (deadlines old.requests) none.0);
          none_again = subst (λ (n : ℕ). NoneAgainBefore n old.requests) (sym c.moment_of-now.ensures.value) (later_is_not_before now (resends old.requests) none.1);
        };
        below = c.reached_states_are_sound.ensures.below c.args.judge.now old c.requires.reached;
      };
    }
