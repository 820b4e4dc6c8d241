use Rattle.std.specs.Prelude.{⊤}
use Rattle.sip_uri_equality.proofs.parameter_order.differ_at_a_place.Given as goal

abbrev pub invariant-loop-index : goal.invariant-loop-index
invariant-loop-index l = ⊤
