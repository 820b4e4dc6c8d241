use Rattle.std.proofs.Common.{arith, below_more, refl}
use Rattle.sip_replay_script.proofs.Damaged.{ends_at, ends_elsewhere, ends_nowhere, none_false}
use Rattle.sip_replay_script.proofs.cut_line.ends_as.Goals as goal

pub returns-then-branch : goal.returns-then-branch
returns-then-branch c = (λ t. ends_at c.args.text.now c.args.sample.now c.loop-place.place (c.in_ok-begins_event.ensures.0 c.if-branch.true), λ e. refl)

pub loop-place-preserved : goal.loop-place-preserved
loop-place-preserved c = below_more _ _ c.loop-place.invariant (ends_elsewhere c.args.text.now c.args.sample.now c.loop-place.place c.in_ok-begins_event.field-0
    c.if-branch.false c.in_ok-begins_event.ensures)

pub returns : goal.returns
returns c = none_false (ends_nowhere c.args.text.now c.args.sample.now c.loop-place.place (omega arith) c.loop-place.invariant)
