use Rattle.std.proofs.Common.{◌≡◌, [], drop}
use Rattle.toml.specs.View.{items_view}
use Rattle.sip_config_values.specs.declared.key.ConfigKey.TheVariants as keys
use Rattle.sip_config_values.specs.Rows.{rows_after}
use Rattle.sip_config.specs.Rules.{rule_at}
use Rattle.sip_config.proofs.rules.rule_rows.Given as goal

abbrev pub invariant-loop-item : goal.invariant-loop-item
invariant-loop-item l = rows_after keys.Rules (rule_at l.version l.users l.hops) l.rules (items_view (drop l.item-index l.items))
    ≡ rows_after keys.Rules (rule_at l.version l.users l.hops) [] (items_view l.items)
