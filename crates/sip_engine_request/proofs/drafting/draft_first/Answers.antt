use Rattle.sip_engine_request.proofs.Drafts.{about_there, draft_few, draft_fired, draft_kept}
use Rattle.sip_engine_request.proofs.drafting.draft_first.Goals as goal

pub draft_input-requires-clause-about : goal.draft_input-requires-clause-about
draft_input-requires-clause-about g c =
    about_there c.args.proxy.now.state.requests c.args.first.place c.args.first.due c.get.result.now c.input_of-input.result c.get.ensures c.input_of-input.ensures.due

pub returns-clause-fired : goal.returns-clause-fired
returns-clause-fired g c =
    draft_fired c.args.configured.now.hops.now.addresses c.args.configured.now.server.now c.args.first.due c.args.first.what c.args.proxy.now.state.requests
    c.args.first.place c.get.result.now
    c.input_of-input.result c.draft_input.result
    c.get.ensures c.input_of-input.ensures.due c.input_of-input.ensures.part c.input_of-input.ensures.last c.draft_input.ensures

pub returns-clause-kept : goal.returns-clause-kept
returns-clause-kept g c =
    draft_kept c.args.configured.now.hops.now.addresses c.args.configured.now.server.now c.args.first.due c.args.proxy.now.state.requests c.args.first.place
    c.input_of-input.result
    c.draft_input.result c.draft_input.ensures

pub returns-clause-few : goal.returns-clause-few
returns-clause-few g c =
    draft_few c.args.configured.now.hops.now.addresses c.args.configured.now.server.now c.args.first.due c.args.proxy.now.state.requests c.args.first.place
    c.get.result.now c.input_of-input.result
    c.draft_input.result
    c.get.ensures c.draft_input.ensures
