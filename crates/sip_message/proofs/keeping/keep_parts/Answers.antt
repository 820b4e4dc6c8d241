use Rattle.std.proofs.Common.{arith}
use Rattle.std.proofs.lemmas.Grind.{common_steps}
use Rattle.sip_message.proofs.Keeps.{no_items, items_next}
use Rattle.sip_message.proofs.keeping.keep_parts.Goals as goal

pub loop-span-init : goal.loop-span-init
loop-span-init c = no_items c.args.fields.now.items c.args.field.now

pub loop-span-preserved : goal.loop-span-preserved
loop-span-preserved c = items_next c.args.fields.now.items c.loop-span.fields.items c.keep_part.new.fields.items c.args.field.now _ _ _ c.loop-span.invariant
    c.in_ok-keep_part.ensures (grind (arith, common_steps))
