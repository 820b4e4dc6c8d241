use Rattle.sipd_capture.specs.Frames.{went}
use Rattle.sipd_capture.proofs.Adding.{item_more}
use Rattle.sipd_capture.proofs.frames.push_all.Goals as goal

pub loop-packet-preserved : goal.loop-packet-preserved
loop-packet-preserved c =
    item_more (went c.args.choice.now c.args.own c.args.at) c.args.packets.now c.loop-packet.packet-index c.packet-item.result c.args.out.now c.loop-packet.out
    c.push_went.new.out c.loop-packet-test.true c.packet-item.is c.loop-packet.invariant c.in_ok-push_went.ensures
