use Rattle.sip_request.proofs.Setting.{as_named}
use Rattle.sip_request.proofs.retiming.retime_side.Goals as goal

pub returns-clause-sets : goal.returns-clause-sets
returns-clause-sets g c =
    as_named _ _ _ _ _ _ (c.side_part-stood.ensures.names c.args.keys) (c.side_part-part.ensures.names c.sync_part.result)
    (c.sync_part.ensures.sets c.side_part-stood.ensures.slots c.side_part-part.ensures.slots)
