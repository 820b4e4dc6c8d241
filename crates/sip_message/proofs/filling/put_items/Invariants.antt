use Rattle.std.proofs.Common.{◌≡◌, ◌++◌, map, take}
use Rattle.sip_message.specs.Filled.{item_of}
use Rattle.sip_message.proofs.filling.put_items.Given as goal

abbrev pub invariant-loop-span : goal.invariant-loop-span
invariant-loop-span l = l.fields ≡ l.initial.fields ++ map (item_of l.name l.value) (take l.span-index l.spans)
