use Rattle.std.specs.Prelude.{option_map}
use Rattle.sip_header.proofs.Plain.{value_at_begins}
use Rattle.sip_header.proofs.parameters.plain_value.Goals as goal

pub returns : goal.returns
returns c =
    value_at_begins c.args.name.now c.args.text.now c.in_ok-value.value.now c.in_ok-value.rest.now c.new.result c.new-2.result
    (option_map (λ x. x.now) c.in_ok-behind.behind) c.requires c.in_ok-value.ensures c.in_ok-behind.ensures c.new.ensures c.new-2.ensures
