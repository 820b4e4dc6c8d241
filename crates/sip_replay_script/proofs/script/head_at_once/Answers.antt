use Rattle.std.proofs.Common.{rules, arith}
use Rattle.sip_replay_script.proofs.HeadAtOnce.{head_is}
use Rattle.sip_replay_script.proofs.script.head_at_once.Goals as goal

pub returns : goal.returns
returns c =
    head_is c.args.text.now c.in_ok-at.at c.in_ok-at.next c.in_ok-from.next c.in_ok-word.word c.in_ok-word.count c.in_ok-from.from
    (search rules) c.in_ok-at.ensures.number c.in_ok-from.ensures c.in_ok-word.ensures (omega (arith, c.if-at-ge-TOO_LARGE.false))
