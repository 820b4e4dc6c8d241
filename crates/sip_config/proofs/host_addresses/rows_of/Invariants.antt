use Rattle.std.proofs.Common.{◌≡◌, [], drop}
use Rattle.toml.specs.View.{items_view}
use Rattle.sip_config_values.specs.declared.key.ConfigKey.TheVariants as keys
use Rattle.sip_config_values.specs.Rows.{rows_after}
use Rattle.sip_config.specs.HostAddresses.{new_row}
use Rattle.sip_config.specs.HostPorts.{rows_besides}
use Rattle.sip_config.proofs.host_addresses.rows_of.Given as goal

abbrev pub invariant-loop-item : goal.invariant-loop-item
invariant-loop-item l = rows_besides l.places l.rows (items_view (drop l.item-index l.items)) ≡ rows_after keys.HostAddresses new_row [] (items_view l.items)
