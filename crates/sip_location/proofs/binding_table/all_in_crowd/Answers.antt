use Rattle.std.proofs.Common.{List, refl, subst, arith}
use Rattle.std.specs.List.{AllByRecursion}
use Rattle.std.proofs.lemmas.List.{take_all}
use Rattle.sip_text.proofs.Each.{each_more}
use Rattle.sip_location.specs.declared.aor_bindings.AorBindings.{AorBindings}
use Rattle.sip_location.specs.Alive.{LivesAlike}
use Rattle.sip_location.proofs.binding_table.all_in_crowd.Goals as goal

pub loop-filed-init : goal.loop-filed-init
loop-filed-init c = tt

pub loop-filed-preserved : goal.loop-filed-preserved
loop-filed-preserved c =
    each_more (LivesAlike c.args.other.now.rows c.args.now) c.args.crowd.now c.loop-filed.filed-index c.filed-item.result c.loop-filed-test.true c.filed-item.is
    c.loop-filed.invariant (c.if-not-lives_alike.ensures refl)

pub returns : goal.returns
returns c = λ _.
    subst (λ (fs : List AorBindings). AllByRecursion (LivesAlike c.args.other.now.rows c.args.now) fs) (take_all c.loop-filed.filed-index c.args.crowd.now (omega arith))
    c.loop-filed.invariant
