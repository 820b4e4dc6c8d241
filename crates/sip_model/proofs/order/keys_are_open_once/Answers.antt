use Rattle.sip_model.proofs.Orders.{chain_named}
use Rattle.sip_model.proofs.order.keys_are_open_once.Goals as goal

pub returns : goal.returns
returns c = λ server first history last chain. (chain_named server first history last chain).keys
