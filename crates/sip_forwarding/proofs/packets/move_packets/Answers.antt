use Rattle.std.proofs.Common.{arith}
use Rattle.sip_context_branches.proofs.Lists.{one_more}
use Rattle.sip_forwarding.specs.Moved.{emptied}
use Rattle.sip_forwarding.proofs.Moved.{one_moved}
use Rattle.sip_forwarding.proofs.packets.move_packets.Goals as goal

pub loop-place-preserved : goal.loop-place-preserved
loop-place-preserved c = (
  one_moved c.args.packets.now c.loop-place.packets c.args.out.now c.loop-place.out c.move_packet.new.out c.loop-place.place-index c.place-item.result
      c.loop-place.invariant.1 (omega arith) c.loop-place.invariant.0 c.in_ok-move_packet.ensures.out,
  one_more emptied c.args.packets.now c.loop-place.packets c.loop-place.place-index c.move_packet.new.place c.place-item.result c.loop-place.invariant.1 (omega arith)
      c.in_ok-move_packet.ensures.place,
)
