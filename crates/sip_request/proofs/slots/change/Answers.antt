use Rattle.std.proofs.Common.{refl}
use Rattle.sip_request.proofs.Setting.{replaced_in_order}
use Rattle.sip_request.proofs.slots.change.Goals as goal

pub returns-clause-sets : goal.returns-clause-sets
returns-clause-sets g c = replaced_in_order _ _ c.args.timer _ c.replace.ensures.placed (c.if-is_the.ensures.other refl, tt)
