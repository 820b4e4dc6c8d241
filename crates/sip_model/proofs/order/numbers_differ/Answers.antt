use Rattle.sip_model.proofs.Orders.{chain_named}
use Rattle.sip_model.proofs.order.numbers_differ.Goals as goal

pub returns : goal.returns
returns c = λ server first history last chain. (chain_named server first history last chain).numbers
