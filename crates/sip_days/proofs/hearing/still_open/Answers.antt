use Rattle.std.proofs.Common.{◌+◌, arith, take}
use Rattle.std.proofs.lemmas.Grind.{common_steps}
use Rattle.sip_days.specs.Changing.{holds_at, is_open}
use Rattle.sip_days.proofs.Opened.{kept_next}
use Rattle.sip_days.proofs.hearing.still_open.Goals as goal

pub loop-place-preserved : goal.loop-place-preserved
loop-place-preserved c =
    kept_next (holds_at is_open c.args.calls.now) _ _ (take (c.loop-place.place-index + 1) c.args.places.now) c.loop-place.left c.keep_if_open.new.left c.loop-place.invariant c.in_ok-keep_if_open.ensures
    (grind (arith, common_steps))
