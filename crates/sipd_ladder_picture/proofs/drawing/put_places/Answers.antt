use Rattle.sipd_ladder_picture.proofs.Order.{next_place}
use Rattle.sipd_ladder_picture.proofs.drawing.put_places.Goals as goal

pub loop-place-preserved : goal.loop-place-preserved
loop-place-preserved c =
    next_place c.args.names.now c.args.rows c.args.places.now c.loop-place.place _ c.args.out.now c.loop-place.out c.put_place.new.out
    c.loop-place-test.true c.loop-place.invariant c.in_ok-put_place.ensures
