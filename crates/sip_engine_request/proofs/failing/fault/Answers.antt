use Rattle.sip_proxy.specs.fork.Places.{branch_at}
use Rattle.sip_engine_request.specs.Faults.{failed_of}
use Rattle.sip_engine_request.proofs.Failed.{branch_fails, names_one, no_branch_fails}
use Rattle.sip_engine_request.proofs.failing.fault.Goals as goal

pub returns-in-Some-clause-step : goal.returns-in-Some-clause-step
returns-in-Some-clause-step g c =
    branch_fails c.args.configured.now.server.now c.args.now c.args.proxy.now.state c.fail.new.proxy.state c.args.ticket c.in-Some.place c.in-Some.branch c.fail.result
    c.requires.moment
    c.in-Some.ensures.some
    c.in-Some.ensures.is c.fail.ensures.does

pub returns-in-Some-clause-never_refused : goal.returns-in-Some-clause-never_refused
returns-in-Some-clause-never_refused g c = λ none.
    absurd
    (names_one (branch_at c.args.proxy.now.state.requests (c.in-Some.place, c.in-Some.branch)) (failed_of c.args.ticket c.args.proxy.now.state.requests)
    c.in-Some.ensures.some c.in-Some.ensures.is
    none)

pub returns-clause-step : goal.returns-clause-step
returns-clause-step g c =
    no_branch_fails c.args.configured.now.server.now c.args.now c.args.proxy.now.state c.pass.new.proxy.state c.args.ticket c.pass.result c.requires.moment
    c.in_default.ensures.none
    c.pass.ensures.leaves
