use Rattle.std.proofs.Common.{◌≡◌, [], drop}
use Rattle.toml.specs.View.{items_view}
use Rattle.sip_config_values.specs.declared.key.ConfigKey.TheVariants as keys
use Rattle.sip_config_values.specs.Rows.{rows_after}
use Rattle.sip_config.specs.Hops.{new_hop}
use Rattle.sip_config.proofs.hops.hops_of.Given as goal

abbrev pub invariant-loop-item : goal.invariant-loop-item
invariant-loop-item l = rows_after keys.Hops new_hop l.hops (items_view (drop l.item-index l.items)) ≡ rows_after keys.Hops new_hop [] (items_view l.items)
