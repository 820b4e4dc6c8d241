use Rattle.toml.proofs.Views.{table_get}
use Rattle.sip_config_values.proofs.values.find.Goals as goal

pub returns : goal.returns
returns c = table_get c.get.result c.args.key.now c.args.table.now.entries c.get.ensures.value
