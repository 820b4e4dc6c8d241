use Rattle.std.proofs.Common.{◌∙◌}
use Rattle.sip_forwarding.proofs.Drafts.{opening_told}
use Rattle.sip_forwarding.proofs.forwarding.begun.Goals as goal

pub returns-clause-told : goal.returns-clause-told
returns-clause-told c =
    opening_told c.args.hops.now.addresses c.args.server.now c.args.now c.args.open_request c.take_opening.new.open_request c.as_slice.result.now c.args.updates
    c.add_change.new.self c.in_ok-upward.ensures.request
    (c.as_slice.ensures ∙ c.in_ok-upward.ensures.upward) c.in_ok-add_change.ensures.told
