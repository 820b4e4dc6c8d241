use Rattle.std.proofs.Common.{◌∙◌}
use Rattle.sip_config_values.proofs.InOrder.{name_found}
use Rattle.sip_config_values.proofs.names.is_among.Goals as goal

pub returns : goal.returns
returns c = c.contains_key.ensures ∙ name_found c.args.places.now c.args.name.now c.requires
