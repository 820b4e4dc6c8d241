use Rattle.std.proofs.Common.{◌≡◌, drop}
use Rattle.toml.specs.View.{items_view}
use Rattle.sip_config_values.specs.declared.key.ConfigKey.TheVariants as keys
use Rattle.sip_config_values.specs.Rows.{all_pass}
use Rattle.sip_config.specs.Rules.{rule_line}
use Rattle.sip_config.proofs.rules.check_each.Given as goal

abbrev pub invariant-loop-at : goal.invariant-loop-at
invariant-loop-at l = all_pass keys.Rules (rule_line l.version l.users l.line) l.at (items_view (drop l.at l.items))
    ≡ all_pass keys.Rules (rule_line l.version l.users l.line) 0 (items_view l.items)
