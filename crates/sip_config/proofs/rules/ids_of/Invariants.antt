use Rattle.std.proofs.Common.{◌≡◌, [], drop}
use Rattle.toml.specs.View.{items_view}
use Rattle.sip_config_values.specs.declared.key.ConfigKey.TheVariants as keys
use Rattle.sip_config_values.specs.Rows.{rows_after}
use Rattle.sip_config.specs.Rules.{new_id}
use Rattle.sip_config.proofs.rules.ids_of.Given as goal

abbrev pub invariant-loop-item : goal.invariant-loop-item
invariant-loop-item l = rows_after keys.Rules new_id l.ids (items_view (drop l.item-index l.items)) ≡ rows_after keys.Rules new_id [] (items_view l.items)
