use Rattle.std.proofs.Common.{rules, arith}
use Rattle.sip_replay_script.proofs.HeadAtOnce.{time_is}
use Rattle.sip_replay_script.proofs.script.time_at_once.Goals as goal

pub returns : goal.returns
returns c = time_is c.args.text.now c.in_ok-at.at c.in_ok-at.next (search rules) c.in_ok-at.ensures.number (omega (arith, c.if-at-ge-TOO_LARGE.false))
