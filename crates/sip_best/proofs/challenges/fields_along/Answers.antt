use Rattle.std.proofs.Common.{◌≡◌, ◌++◌, [], ◌∷◌}
use Rattle.sip_message_form.specs.declared.message.Message.{Message}
use Rattle.sip_best.proofs.Lengths.{stops, goes_on, room_left}
use Rattle.sip_best.proofs.challenges.fields_along.Goals as goal

pub returns-then-length-room : goal.returns-then-length-room
returns-then-length-room c =
    let so_far : Message = record c.args.message.now { fields = c.loop-challenge.fields } in
    stops so_far c.args.challenges.now c.loop-challenge.challenge-index c.challenge-item.result _ _ _ c.loop-challenge-test.true c.challenge-item.is
    c.loop-challenge.invariant.0 c.line_length-length.ensures c.loop-challenge.invariant.1 c.if-length-room.true

pub loop-challenge-preserved : goal.loop-challenge-preserved
loop-challenge-preserved c =
    let so_far : Message = record c.args.message.now { fields = c.loop-challenge.fields } in
    let copy : c.in_ok-lent.field-0 ≡ c.challenge-item.result = c.in_ok-lent.ensures in
    let pushed : c.push.new.self ≡ c.loop-challenge.fields ++ c.in_ok-lent.field-0 ∷ [] = c.in_ok-push.ensures.ok in
    let fields : c.push.new.self ≡ c.loop-challenge.fields ++ c.challenge-item.result ∷ [] = rw copy at pushed in
    rw fields (
      goes_on so_far c.args.challenges.now c.loop-challenge.challenge-index c.challenge-item.result _ _ _ c.loop-challenge-test.true c.challenge-item.is
          c.loop-challenge.invariant.0 c.line_length-length.ensures c.loop-challenge.invariant.1 c.if-length-room.false,
      room_left so_far c.challenge-item.result _ _ c.line_length-length.ensures c.loop-challenge.invariant.1 c.if-length-room.false,
    )
