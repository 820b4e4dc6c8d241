use Rattle.sip_model.proofs.Ends.{chain_keeps}
use Rattle.sip_model.proofs.order.answered_keeps_no_finals.Goals as goal

pub returns : goal.returns
returns c = λ server first history last chain. chain_keeps server first history last chain
