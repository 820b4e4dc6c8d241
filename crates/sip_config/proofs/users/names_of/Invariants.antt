use Rattle.std.proofs.Common.{◌≡◌, [], drop}
use Rattle.toml.specs.View.{items_view}
use Rattle.sip_config_values.specs.declared.key.ConfigKey.TheVariants as keys
use Rattle.sip_config_values.specs.Rows.{rows_after}
use Rattle.sip_config.specs.Users.{new_name}
use Rattle.sip_config.proofs.users.names_of.Given as goal

abbrev pub invariant-loop-item : goal.invariant-loop-item
invariant-loop-item l = rows_after keys.Users new_name l.names (items_view (drop l.item-index l.items)) ≡ rows_after keys.Users new_name [] (items_view l.items)
