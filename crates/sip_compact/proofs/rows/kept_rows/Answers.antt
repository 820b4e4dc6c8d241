use Rattle.std.proofs.Common.{◌∙◌, ap, sym, subst, take}
use Rattle.sip_compact.specs.Parts.{places_of, IsPart}
use Rattle.sip_compact.proofs.Parting.{part_less, part_more}
use Rattle.sip_compact.proofs.rows.kept_rows.Goals as goal
use Rattle.sip_compact.proofs.rows.kept_rows.Goals.{then-is_marked+in_ok-push, else-is_marked}

pub loop-at-preserved : goal.loop-at-preserved
loop-at-preserved c =
    elim c.if-is_marked.branch [
      | then-is_marked+in_ok-push w ↦
          part_more c.args.rows.now c.loop-at.kept.items c.if-is_marked.kept.items c.loop-at.at _ c.loop-at-test.true
          (ap (λ v. v.items) w.kept-is ∙ w.in_ok-push.ensures.items) c.loop-at.invariant
      | else-is_marked w ↦
          part_less c.args.rows.now (places_of c.if-is_marked.kept.items) c.loop-at.at
          (subst (λ v. IsPart (places_of v.items) (places_of (take c.loop-at.at c.args.rows.now))) (sym w.kept-is) c.loop-at.invariant)
    ]
