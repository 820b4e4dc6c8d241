use Rattle.std.proofs.Common.{◌∙◌, ap, take}
use Rattle.sip_compact.specs.Parts.{lines_in, places_of}
use Rattle.sip_compact.proofs.Parting.{lines_kept, lines_more, part_less}
use Rattle.sip_compact.proofs.choice.choices_of.Goals as goal
use Rattle.sip_compact.proofs.choice.choices_of.Goals.{then-is_marked+in_ok-from, else-is_marked}

pub loop-at-preserved : goal.loop-at-preserved
loop-at-preserved c =
    elim c.if-is_marked.branch [
      | then-is_marked+in_ok-from w ↦
          lines_more c.args.rows.now c.loop-at.choices c.if-is_marked.choices c.loop-at.at _ c.loop-at-test.true
          (ap lines_in w.choices-is ∙ w.in_ok-from.ensures) c.loop-at.invariant
      | else-is_marked w ↦
          part_less c.args.rows.now (lines_in c.if-is_marked.choices) c.loop-at.at
          (lines_kept c.loop-at.choices c.if-is_marked.choices (places_of (take c.loop-at.at c.args.rows.now)) (ap lines_in w.choices-is) c.loop-at.invariant)
    ]
