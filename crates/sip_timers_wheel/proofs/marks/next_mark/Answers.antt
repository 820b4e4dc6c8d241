use Rattle.std.proofs.Common.{arith}
use Rattle.sip_timers_wheel.proofs.NextMark.{mark-above, mark-round}
use Rattle.sip_timers_wheel.proofs.marks.next_mark.Goals as goal

pub returns-then-above-ne0 : goal.returns-then-above-ne0
returns-then-above-ne0 c = mark-above c.args.word c.args.from c.ranges.word.fits c.requires (omega (arith, c.if-above-ne0.true))

pub returns-then-word-ne0 : goal.returns-then-word-ne0
returns-then-word-ne0 c = mark-round c.args.word c.args.from c.ranges.word.fits c.requires (omega (arith, c.if-above-ne0.false)) (omega (arith, c.if-word-ne0.true))
