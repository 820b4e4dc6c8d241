use Rattle.std.proofs.Common.{sym}
use Rattle.sip_proxy.specs.steps_model.Step.{is_failed}
use Rattle.sip_engine_request.proofs.Failed.{no_branch, some_branch, this_branch}
use Rattle.sip_engine_request.proofs.failing.find_failed.Goals as goal

pub returns-in_err-branch-clause-none : goal.returns-in_err-branch-clause-none
returns-in_err-branch-clause-none g c =
    rw c.from_residual-in_err-branch.ensures
    (no_branch c.args.ticket c.args.proxy.now.state.requests c.in_ok-place.place c.get.result.now c.get.ensures c.in_ok-place.ensures.request
    (sym c.in_err-branch.ensures))

pub returns-clause-some : goal.returns-clause-some
returns-clause-some g c =
    some_branch c.args.proxy.now.state.requests c.in_ok-place.place c.in_ok-branch.branch c.get.result.now (is_failed c.args.ticket.branch) c.get.ensures
    (sym c.in_ok-branch.ensures)

pub returns-clause-is : goal.returns-clause-is
returns-clause-is g c =
    this_branch c.args.ticket c.args.proxy.now.state.requests c.in_ok-place.place c.get.result.now c.get.ensures c.in_ok-place.ensures.request c.in_ok-branch.branch
    (sym c.in_ok-branch.ensures)
