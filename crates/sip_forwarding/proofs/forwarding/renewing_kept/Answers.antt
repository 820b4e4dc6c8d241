use Rattle.sip_forwarding.proofs.Drafts.{renewed_is}
use Rattle.sip_forwarding.proofs.forwarding.renewing_kept.Goals as goal

pub returns-clause-told : goal.returns-clause-told
returns-clause-told c = renewed_is c.args.hops.now.addresses c.args.id c.in_ok-request.request c.args.request.now.message c.in_ok-updates.updates c.in_ok-request.ensures
    c.in_ok-updates.ensures.told
