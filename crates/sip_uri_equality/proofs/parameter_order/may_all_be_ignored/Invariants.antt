use Rattle.std.proofs.Common.{◌≡◌, drop}
use Rattle.std.specs.Prelude.{not}
use Rattle.std.specs.List.{list_all}
use Rattle.sip_uri_equality.specs.Equality.{is_never_ignored}
use Rattle.sip_uri_equality.specs.Order.{those_of}
use Rattle.sip_uri_equality.proofs.parameter_order.may_all_be_ignored.Given as goal

-- the rest decides
abbrev pub invariant-loop-parameter : goal.invariant-loop-parameter
invariant-loop-parameter l = list_all (λ p. not (is_never_ignored p.name)) (those_of (drop l.parameter-index l.parameters))
    ≡ list_all (λ p. not (is_never_ignored p.name)) (those_of l.fn.parameters)
