use Rattle.std.proofs.Common.{◌∙◌, sym}
use Rattle.sip_config_values.proofs.InOrder.{name_count}
use Rattle.sip_config_values.proofs.names.count.Goals as goal

pub returns : goal.returns
returns c = c.len.ensures.len ∙ sym (name_count c.args.places.now c.requires)
