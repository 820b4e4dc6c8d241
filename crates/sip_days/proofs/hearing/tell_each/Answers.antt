use Rattle.std.proofs.Common.{◌+◌, arith, get_or, take}
use Rattle.std.proofs.lemmas.Grind.{common_steps}
use Rattle.sip_days.specs.Hearing.{hears_with}
use Rattle.sip_days.proofs.Opened.{each_next}
use Rattle.sip_days.proofs.hearing.tell_each.Goals as goal

pub loop-place-preserved : goal.loop-place-preserved
loop-place-preserved c =
    each_next (hears_with c.args.bye.now c.args.out.now) (take c.loop-place.place-index c.args.places.now)
    (get_or c.args.places.now c.loop-place.place-index 0) (take (c.loop-place.place-index + 1) c.args.places.now) c.args.calls.now c.loop-place.calls c.tell_at.new.calls c.loop-place.invariant
    c.in_ok-tell_at.ensures (grind (arith, common_steps))
