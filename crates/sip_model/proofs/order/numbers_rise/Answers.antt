use Rattle.sip_model.proofs.Rising.{chain_rising}
use Rattle.sip_model.proofs.order.numbers_rise.Goals as goal

pub returns : goal.returns
returns c = λ server first history last chain. (chain_rising server first history last chain).rising
