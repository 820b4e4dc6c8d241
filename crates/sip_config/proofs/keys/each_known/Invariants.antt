use Rattle.std.proofs.Common.{◌≡◌, drop}
use Rattle.toml.specs.View.{items_view}
use Rattle.sip_config_values.specs.Rows.{all_pass}
use Rattle.sip_config.specs.Keys.{known}
use Rattle.sip_config.proofs.keys.each_known.Given as goal

abbrev pub invariant-loop-at : goal.invariant-loop-at
invariant-loop-at l = all_pass l.list (known l.version l.kind) l.at (items_view (drop l.at l.items)) ≡ all_pass l.list (known l.version l.kind) 0 (items_view l.items)
