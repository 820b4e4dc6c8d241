use Rattle.std.proofs.Common.{◌<◌, ◌≤◌, length, subst, ◌∙◌, arith}
use Rattle.sip_replay_script.specs.Events.{GoesOnBy, KeepsLine}
use Rattle.sip_replay_script.proofs.Datagrams.{keeps_both, keeps_more, keeps_less}
use Rattle.sip_replay_script.proofs.event.keep_lines.Goals as goal

pub loop-lines-init : goal.loop-lines-init
loop-lines-init c = (c.keep_plain.ensures.most, c.keep_plain.ensures.kept, c.keep_plain.ensures.asks, c.keep_plain.ensures.fewer)

pub loop-lines-preserved : goal.loop-lines-preserved
loop-lines-preserved c =
    let one : KeepsLine c.loop-lines.lines c.keep_any.new.lines c.loop-lines.bytes c.keep_any.new.bytes =
    subst (λ next. GoesOnBy next c.loop-lines.lines c.keep_any.new.lines c.loop-lines.bytes c.keep_any.new.bytes) c.in-Kept.is c.in_ok-keep_any.ensures.next in
    let fewer : length c.keep_any.new.lines.unread < length c.loop-lines.lines.unread =
    keeps_less c.loop-lines.lines c.keep_any.new.lines c.loop-lines.bytes c.keep_any.new.bytes one in
    let further : length c.keep_plain-in-Kept.new.lines.unread ≤ length c.keep_any.new.lines.unread = c.keep_plain-in-Kept.ensures.fewer in
    let before = c.loop-lines.invariant.3 in (
      c.keep_plain-in-Kept.ensures.most,
      keeps_both c.args.lines.now c.keep_any.new.lines c.keep_plain-in-Kept.new.lines c.args.bytes.now c.keep_any.new.bytes c.keep_plain-in-Kept.new.bytes
          (keeps_more c.args.lines.now c.loop-lines.lines c.keep_any.new.lines c.args.bytes.now c.loop-lines.bytes c.keep_any.new.bytes c.loop-lines.invariant.1 one)
          c.keep_plain-in-Kept.ensures.kept,
      c.keep_plain-in-Kept.ensures.asks ∙ c.keep_any.ensures.asks ∙ c.loop-lines.invariant.2,
      omega (arith, fewer, further, before),
    )
