use Rattle.std.proofs.Common.{refl}
use Rattle.std.specs.Prelude.{option_map}
use Rattle.sip_header_credentials.proofs.UsualItems.{usual_first, usual_shorter}
use Rattle.sip_header_credentials.proofs.credentials.usual_parts.Goals as goal

pub returns-clause-items : goal.returns-clause-items
returns-clause-items c =
    usual_first c.args.text.now c.in_ok-name.right.now c.in_ok-name.name.now c.in_ok-value.value.said.now (option_map (λ y. y.now) c.in_ok-value.value.rest) _
    c.in_ok-name.ensures c.in_ok-value.ensures refl

pub returns-clause-shorter : goal.returns-clause-shorter
returns-clause-shorter c =
    usual_shorter c.args.text.now c.in_ok-name.right.now c.in_ok-name.name.now c.in_ok-value.value.said.now (option_map (λ y. y.now) c.in_ok-value.value.rest)
    c.in_ok-name.ensures c.in_ok-value.ensures
