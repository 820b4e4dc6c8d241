use Rattle.std.proofs.Common.{refl, arith}
use Rattle.sip_text.proofs.Alike.{alike_more, alike_all}
use Rattle.sip_message_fields.proofs.kept_field.same_fields.Goals as goal

pub loop-at-preserved : goal.loop-at-preserved
loop-at-preserved c =
    alike_more c.args.left.now c.args.right.now c.loop-at.at _ _ (omega arith) (omega arith) (c.if-not-is_same.ensures refl) c.loop-at.invariant

pub returns : goal.returns
returns c = λ _. alike_all c.args.left.now c.args.right.now c.loop-at.at (omega arith) (omega arith) c.loop-at.invariant
