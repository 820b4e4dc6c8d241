use Rattle.std.proofs.Common.{◌∙◌, Bor, sym, ap₂}
use Rattle.sip_uri.specs.declared.parameters.UriParameter.{UriParameter}
use Rattle.sip_uri_equality.specs.Equality.{agrees}
use Rattle.sip_uri_equality.proofs.PlaceLaws.{differ_there}
use Rattle.sip_uri_equality.proofs.parameter_order.differ_at_a_place.Goals as goal

pub returns-then-differ : goal.returns-then-differ
returns-then-differ c =
    λ same.
    differ_there c.args.left.now c.args.right.now c.loop-index.index c.index-left-index.result c.index-right-index.result c.loop-index-test.true c.if-index-right.false
    (sym (ap₂ (λ (p q : Bor UriParameter). agrees p.now q.now) c.index-left-index.is c.index-right-index.is) ∙ c.differ.ensures c.if-differ.true)
