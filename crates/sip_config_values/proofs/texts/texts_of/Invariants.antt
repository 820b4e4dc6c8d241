use Rattle.std.proofs.Common.{◌≡◌, drop}
use Rattle.toml.specs.View.{items_view}
use Rattle.sip_config_values.specs.Rows.{texts_after, texts_of}
use Rattle.sip_config_values.proofs.texts.texts_of.Given as goal

abbrev pub invariant-loop-item : goal.invariant-loop-item
invariant-loop-item l = texts_after l.grammar l.texts (items_view (drop l.item-index l.items)) ≡ texts_of l.grammar (items_view l.items)
