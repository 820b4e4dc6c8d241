use Rattle.sip_proxy.specs.steps_model.Effect.{replaced}
use Rattle.sip_engine_request.proofs.Failed.{failed_done}
use Rattle.sip_engine_request.proofs.Results.{left_at, left_moment, left_next}
use Rattle.sip_engine_request.proofs.failing.fail.Goals as goal

pub returns-clause-does : goal.returns-clause-does
returns-clause-does g c =
    failed_done c.args.configured.now.server.now c.args.now c.args.proxy.now.state c.change.new.proxy.state c.args.configured.now.hops.now.addresses c.args.place
    c.args.branch c.in_ok-draft.draft
    c.change.result c.args.configured.now.rows
    c.in_ok-draft.ensures.draft c.change.ensures.leaves

pub returns-clause-at_moment : goal.returns-clause-at_moment
returns-clause-at_moment g c =
    left_at c.args.now c.in_ok-draft.draft.drafted.packets (replaced c.in_ok-draft.draft.change c.args.proxy.now.state.requests) c.in_ok-draft.draft.drafted.updates
    c.args.proxy.now.state
    c.change.new.proxy.state c.change.result c.change.ensures.leaves

pub returns-clause-moment : goal.returns-clause-moment
returns-clause-moment g c =
    left_moment c.args.now c.in_ok-draft.draft.drafted.packets (replaced c.in_ok-draft.draft.change c.args.proxy.now.state.requests) c.in_ok-draft.draft.drafted.updates
    c.args.proxy.now.state
    c.change.new.proxy.state c.change.result c.change.ensures.leaves

pub returns-clause-next_stays : goal.returns-clause-next_stays
returns-clause-next_stays g c =
    left_next c.args.now c.in_ok-draft.draft.drafted.packets (replaced c.in_ok-draft.draft.change c.args.proxy.now.state.requests) c.in_ok-draft.draft.drafted.updates
    c.args.proxy.now.state
    c.change.new.proxy.state c.change.result c.change.ensures.leaves
