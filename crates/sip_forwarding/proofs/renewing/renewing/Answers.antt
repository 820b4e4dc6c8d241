use Rattle.sip_forwarding.proofs.Drafts.{renewed_alone}
use Rattle.sip_forwarding.proofs.renewing.renewing.Goals as goal

pub returns-clause-told : goal.returns-clause-told
returns-clause-told c = renewed_alone c.args.hops.now.addresses c.args.id c.args.request.now c.new-updates.result c.add_request.new.self c.new-updates.ensures
    c.in_ok-add_request.ensures.told
