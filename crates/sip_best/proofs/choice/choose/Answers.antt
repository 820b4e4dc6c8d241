use Rattle.std.proofs.Common.{◌∙◌, sym}
use Rattle.sip_best.specs.Best.{is_unbeaten}
use Rattle.sip_best.proofs.Picking.{chosen_at, not_chosen_at, none_left, picked_from_start}
use Rattle.sip_best.proofs.choice.choose.Goals as goal

pub loop-place-init : goal.loop-place-init
loop-place-init c = picked_from_start (is_unbeaten c.args.finals.now) c.args.finals.now

pub returns-then-not-is_outranked : goal.returns-then-not-is_outranked
returns-then-not-is_outranked c =
    chosen_at c.args.finals.now c.loop-place.place c.index-finals-place.result c.loop-place-test.true c.index-finals-place.is c.loop-place.invariant
    (sym c.is_outranked.ensures ∙ c.if-not-is_outranked.true)

pub loop-place-preserved : goal.loop-place-preserved
loop-place-preserved c =
    not_chosen_at c.args.finals.now c.loop-place.place c.index-finals-place.result c.loop-place-test.true c.index-finals-place.is c.loop-place.invariant
    (sym c.is_outranked.ensures ∙ c.if-not-is_outranked.false)

pub returns : goal.returns
returns c = sym c.loop-place.invariant ∙ none_left (is_unbeaten c.args.finals.now) c.args.finals.now c.loop-place.place c.loop-place-test.false
