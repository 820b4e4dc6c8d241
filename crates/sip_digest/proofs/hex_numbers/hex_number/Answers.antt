use Rattle.std.proofs.Common.{arith}
use Rattle.sip_digest.proofs.HexNumbers.{fits}
use Rattle.sip_digest.proofs.hex_numbers.hex_number.Goals as goal

pub overflow_mul-number : goal.overflow_mul-number
overflow_mul-number c =
    let room = fits c.loop-digit.number c.loop-digit.digit-index c.loop-digit.invariant.below (omega arith) in
    omega (arith, room)

pub overflow_add-number : goal.overflow_add-number
overflow_add-number c =
    let room = fits c.loop-digit.number c.loop-digit.digit-index c.loop-digit.invariant.below (omega arith) in
    omega (arith, room, c.in_ok-value.ensures.0, c.from.ensures)
