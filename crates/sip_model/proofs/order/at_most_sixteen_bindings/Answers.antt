use Rattle.std.proofs.Common.{arith}
use Rattle.sip_model.proofs.Sixteen.{few_of_chain}
use Rattle.sip_model.proofs.order.at_most_sixteen_bindings.Goals as goal

pub returns : goal.returns
returns c = λ server first history last chain aor. few_of_chain server first history last chain aor last.moment (omega arith)
