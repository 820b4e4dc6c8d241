use Rattle.sip_proxy.specs.steps_model.Effect.{replaced}
use Rattle.sip_engine_request.proofs.Results.{first_done, left_at, left_at_moment, left_next}
use Rattle.sip_engine_request.proofs.Quiet.{quiet_at, quiet_at_moment, quiet_done, quiet_next}
use Rattle.sip_engine_request.proofs.firing.fire_first.Goals as goal

pub returns-clause-step : goal.returns-clause-step
returns-clause-step g c =
    first_done c.args.configured.now.server.now c.args.proxy.now.state c.change.new.proxy.state c.args.proxy.now.timers c.args.configured.now.hops.now.addresses
    c.args.first c.in_ok-draft.draft
    c.change.result c.args.configured.now.rows c.requires.first
    c.requires.in_order c.in_ok-draft.ensures.fired c.change.ensures.leaves

pub returns-clause-at_first : goal.returns-clause-at_first
returns-clause-at_first g c =
    left_at c.args.first.due c.in_ok-draft.draft.drafted.packets (replaced c.in_ok-draft.draft.change c.args.proxy.now.state.requests) c.in_ok-draft.draft.drafted.updates
    c.args.proxy.now.state
    c.change.new.proxy.state c.change.result c.change.ensures.leaves

pub returns-clause-at_moment : goal.returns-clause-at_moment
returns-clause-at_moment g c =
    left_at_moment c.args.first.due c.in_ok-draft.draft.drafted.packets (replaced c.in_ok-draft.draft.change c.args.proxy.now.state.requests)
    c.in_ok-draft.draft.drafted.updates
    c.args.proxy.now.state c.change.new.proxy.state c.change.result c.change.ensures.leaves

pub returns-clause-next_stays : goal.returns-clause-next_stays
returns-clause-next_stays g c =
    left_next c.args.first.due c.in_ok-draft.draft.drafted.packets (replaced c.in_ok-draft.draft.change c.args.proxy.now.state.requests)
    c.in_ok-draft.draft.drafted.updates c.args.proxy.now.state
    c.change.new.proxy.state c.change.result c.change.ensures.leaves

pub end-requires-clause-kept : goal.end-requires-clause-kept
end-requires-clause-kept g c = c.in-Some.ensures.kept c.args.configured.now.server.now

pub returns-in-Some-clause-step : goal.returns-in-Some-clause-step
returns-in-Some-clause-step g c =
    quiet_done c.args.configured.now.server.now c.args.proxy.now.state c.end.new.proxy.state c.args.proxy.now.timers c.args.first c.in-Some.transaction c.end.result
    c.args.configured.now.hops.now.addresses c.args.configured.now.rows c.requires.first
    c.requires.in_order c.in-Some.ensures.quiet c.in-Some.ensures.kept c.end.ensures.leaves

pub returns-in-Some-clause-at_first : goal.returns-in-Some-clause-at_first
returns-in-Some-clause-at_first g c =
    quiet_at c.args.configured.now.server.now c.args.proxy.now.state c.end.new.proxy.state c.args.proxy.now.timers c.args.first c.in-Some.transaction c.end.result
    c.requires.first
    c.end.ensures.leaves

pub returns-in-Some-clause-at_moment : goal.returns-in-Some-clause-at_moment
returns-in-Some-clause-at_moment g c =
    quiet_at_moment c.args.configured.now.server.now c.args.proxy.now.state c.end.new.proxy.state c.args.proxy.now.timers c.args.first c.in-Some.transaction c.end.result
    c.requires.first c.end.ensures.leaves

pub returns-in-Some-clause-next_stays : goal.returns-in-Some-clause-next_stays
returns-in-Some-clause-next_stays g c =
    quiet_next c.args.configured.now.server.now c.args.proxy.now.state c.end.new.proxy.state c.args.proxy.now.timers c.args.first c.in-Some.transaction c.end.result
    c.requires.first
    c.end.ensures.leaves
