use Rattle.sip_message.proofs.HeadFills.{taken_same}
use Rattle.sip_message.proofs.filling.Filling.take_parts.Goals as goal

pub returns : goal.returns
returns c = taken_same c.take_any.result c.args.self.now c.take_any.new.self _ _ _ _ c.of_part.ensures c.of_part-2.ensures c.take_any.ensures
