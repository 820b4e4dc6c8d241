use Rattle.std.proofs.Common.{refl, sym, ◌∙◌, arith}
use Rattle.sip_text.proofs.Alike.{alike_more, alike_all}
use Rattle.sip_state.proofs.open_request.same_finals.Goals as goal

pub loop-at-preserved : goal.loop-at-preserved
loop-at-preserved c =
    alike_more c.args.left.now c.args.right.now c.loop-at.at c.index-left-at.result c.index-right-at.result (omega arith) (omega arith)
    (sym c.index-left-at.is ∙ c.if-not-is_same.ensures refl ∙ c.index-right-at.is) c.loop-at.invariant

pub returns : goal.returns
returns c = λ _. alike_all c.args.left.now c.args.right.now c.loop-at.at (omega arith) (omega arith) c.loop-at.invariant
