use Rattle.std.proofs.Common.{◌≡◌}
use Rattle.toml.specs.View.{table_view, members_view}
use Rattle.sip_config.specs.Keys as Definitions
use Rattle.sip_config.proofs.keys.unknown_key.Given as goal

abbrev pub invariant-loop-key : goal.invariant-loop-key
invariant-loop-key l = Definitions.unknown_key l.version l.kind (members_view l.key-iterator) ≡ Definitions.unknown_key l.version l.kind (table_view l.table)
