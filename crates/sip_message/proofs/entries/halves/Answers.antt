use Rattle.std.proofs.Common.{arith}
use Rattle.sip_message.proofs.Halves.{fits, halves_are}
use Rattle.sip_message.proofs.entries.halves.Goals as goal

pub slice_before-requires : goal.slice_before-requires
slice_before-requires c = omega (arith, fits c.args.mark c.args.bytes.now c.in_ok-front.front.now c.in_ok-front.field-0-1.now c.in_ok-front.ensures)

pub slice_from-requires : goal.slice_from-requires
slice_from-requires c = fits c.args.mark c.args.bytes.now c.in_ok-front.front.now c.in_ok-front.field-0-1.now c.in_ok-front.ensures

pub returns-clause-halves : goal.returns-clause-halves
returns-clause-halves c =
    halves_are c.args.mark c.args.bytes.now c.in_ok-front.front.now c.in_ok-front.field-0-1.now c.slice_before.result.now c.slice_from.result.now c.in_ok-front.ensures
    c.slice_before.ensures.value c.slice_from.ensures.value
