use Rattle.std.proofs.lemmas.Result.{on_ok_weaker}
use Rattle.sip_days.specs.Changing.{is_open}
use Rattle.sip_days.proofs.Opened.{placed}
use Rattle.sip_days.proofs.hearing.add_call.Goals as goal

pub returns-clause-places : goal.returns-clause-places
returns-clause-places c =
    on_ok_weaker c.push.result
    (λ h. placed is_open c.args.calls.now c.push.new.self c.as_slice.result.now c.args.call c.is_open.result c.args.places.now c.keep_place.new.places
    c.requires c.as_slice.ensures c.is_open.ensures c.in_ok-keep_place.ensures h)
    c.push.ensures.ok
