use Rattle.std.proofs.Common.{refl}
use Rattle.sip_proxy.specs.context.declared.input.Input.TheVariants.{SendFault}
use Rattle.sip_engine_request.proofs.Drafts.{draft_few, draft_kept}
use Rattle.sip_engine_request.proofs.Failed.{branch_there, fault_drafted}
use Rattle.sip_engine_request.proofs.failing.draft_fault.Goals as goal

pub draft_input-requires-clause-about : goal.draft_input-requires-clause-about
draft_input-requires-clause-about g c = λ r at.
    branch_there c.args.proxy.now.state.requests c.args.place c.args.branch c.get.result.now c.branch_of-branch.result.now r c.get.ensures c.branch_of-branch.ensures at

pub returns-clause-draft : goal.returns-clause-draft
returns-clause-draft g c =
    fault_drafted c.args.configured.now.hops.now.addresses c.args.configured.now.server.now c.args.now c.args.proxy.now.state.requests c.args.place c.args.branch
    c.get.result.now
    c.branch_of-branch.result.now
    (SendFault c.branch_of-branch.result) c.draft_input.result c.get.ensures c.branch_of-branch.ensures refl c.draft_input.ensures

pub returns-clause-kept : goal.returns-clause-kept
returns-clause-kept g c =
    draft_kept c.args.configured.now.hops.now.addresses c.args.configured.now.server.now c.args.now c.args.proxy.now.state.requests c.args.place
    (SendFault c.branch_of-branch.result)
    c.draft_input.result c.draft_input.ensures

pub returns-clause-few : goal.returns-clause-few
returns-clause-few g c =
    draft_few c.args.configured.now.hops.now.addresses c.args.configured.now.server.now c.args.now c.args.proxy.now.state.requests c.args.place c.get.result.now
    (SendFault c.branch_of-branch.result)
    c.draft_input.result
    c.get.ensures c.draft_input.ensures
