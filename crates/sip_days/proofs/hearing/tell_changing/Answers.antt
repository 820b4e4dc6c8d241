use Rattle.sip_days.proofs.Settled.{left_open, told_all}
use Rattle.sip_days.proofs.hearing.tell_changing.Goals as goal

pub returns-clause-told : goal.returns-clause-told
returns-clause-told c =
    told_all c.args.bye.now c.args.out.now c.args.places.now c.as_slice.result.now c.args.calls.now c.tell_places.new.calls c.requires c.as_slice.ensures
    c.in_ok-tell_places.ensures

pub returns-clause-places : goal.returns-clause-places
returns-clause-places c =
    left_open c.args.bye.now c.args.out.now c.args.places.now c.as_slice.result.now c.as_slice-3.result.now c.in_ok-left.left c.args.calls.now
    c.tell_places.new.calls c.as_slice-2.result.now c.requires c.as_slice.ensures c.as_slice-3.ensures c.as_slice-2.ensures c.in_ok-tell_places.ensures
    c.in_ok-left.ensures
