use Rattle.std.proofs.Common.{sym, ◌∙◌}
use Rattle.std.specs.Prelude.{option_map}
use Rattle.sip_header.proofs.Plain.{name_begins}
use Rattle.sip_header.proofs.parameters.plain_name.Goals as goal

pub returns : goal.returns
returns c =
    name_begins c.args.name.now c.args.rest.now c.new.result (option_map (λ x. x.now) c.in_ok-behind.behind) c.requires c.in_ok-behind.ensures
    (sym c.wants_value.ensures ∙ c.if-wants_value.false) c.new.ensures
