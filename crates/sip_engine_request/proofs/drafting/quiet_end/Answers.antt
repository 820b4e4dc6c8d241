use Rattle.std.proofs.Common.{rules, ◌≡◌, true}
use Rattle.sip_proxy.specs.fork.Ending.{IsDeadlineOf}
use Rattle.sip_engine_request.proofs.Quiet.{kept_there}
use Rattle.sip_engine_request.proofs.drafting.quiet_end.Goals as goal

pub returns-then-ends_quietly-clause-kept : goal.returns-then-ends_quietly-clause-kept
returns-then-ends_quietly-clause-kept g c =
    let is : IsDeadlineOf c.get.result.now c.in_ok-transaction.transaction c.input_of-input.result = search rules in
    let took : c.ends_quietly.result ≡ true = search rules in
    kept_there c.args.proxy.now.state.requests c.args.first.place c.args.proxy.now.state.moment c.args.first.due c.in_ok-transaction.transaction c.get.result.now
    c.input_of-input.result c.get.ensures
    c.input_of-input.ensures.due is c.requires.later (c.ends_quietly.ensures.kept took)
