use Rattle.std.proofs.Common.{◌≡◌, drop}
use Rattle.toml.specs.View.{items_view}
use Rattle.sip_config.specs.Limits as Definitions
use Rattle.sip_config.proofs.limits.many_groups_of.Given as goal

abbrev pub invariant-loop-at : goal.invariant-loop-at
invariant-loop-at l = Definitions.many_groups_after l.at (items_view (drop l.at l.users)) ≡ Definitions.many_groups_after 0 (items_view l.users)
