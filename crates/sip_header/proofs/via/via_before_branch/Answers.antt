use Rattle.sip_header.proofs.PlainVias.{before_branch}
use Rattle.sip_header.proofs.via.via_before_branch.Goals as goal

pub returns : goal.returns
returns c =
    before_branch c.args.front.now c.in_ok-text.text.now c.in_ok-sender.rest.now c.in_ok-sender.sender c.in_ok-parameters.parameters c.in_ok-text.ensures
    c.in_ok-sender.ensures
    (c.same_bytes.ensures.equal.0 c.if-not-same_bytes.false)
