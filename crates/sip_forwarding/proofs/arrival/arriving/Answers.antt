use Rattle.sip_forwarding.proofs.Keys.{arrives}
use Rattle.sip_forwarding.proofs.arrival.arriving.Goals as goal

pub returns : goal.returns
returns c =
    arrives c.args.arrival c.args.request c.args.key c.first_resend.result c.new.result c.new-2.result c.requires.key
    c.first_resend.ensures c.new.ensures c.new-2.ensures
