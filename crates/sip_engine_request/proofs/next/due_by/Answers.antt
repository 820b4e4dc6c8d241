use Rattle.std.proofs.Common.{arith}
use Rattle.sip_engine_request.proofs.Moments.{before, before_again, first_is_next, never, never_again}
use Rattle.sip_engine_request.proofs.next.due_by.Goals as goal

pub returns-in_err-first-clause-none : goal.returns-in_err-first-clause-none
returns-in_err-first-clause-none g c = rw c.from_residual.ensures (never c.args.proxy.now.state.requests c.args.now c.in_err-first.ensures.first)

pub returns-in_err-first-clause-none_again : goal.returns-in_err-first-clause-none_again
returns-in_err-first-clause-none_again g c = rw c.from_residual.ensures (never_again c.args.proxy.now.state.requests c.args.now c.in_err-first.ensures.first)

pub returns-then-first-now-clause-none : goal.returns-then-first-now-clause-none
returns-then-first-now-clause-none g c =
    before c.args.proxy.now.state.requests c.in_ok-first.first.due c.args.now (first_is_next c.args.proxy.now.state.requests c.in_ok-first.first
    c.in_ok-first.ensures.first) (omega arith)

pub returns-then-first-now-clause-none_again : goal.returns-then-first-now-clause-none_again
returns-then-first-now-clause-none_again g c =
    before_again c.args.proxy.now.state.requests c.in_ok-first.first.due c.args.now (first_is_next c.args.proxy.now.state.requests c.in_ok-first.first
    c.in_ok-first.ensures.first) (omega arith)
