use Rattle.sip_replay_script.specs.declared.script.EventLine.TheVariants.{Head}
use Rattle.sip_replay_script.proofs.Datagrams.{at_once_passed}
use Rattle.sip_replay_script.proofs.event.front_head.Goals as goal

pub returns-clause-head : goal.returns-clause-head
returns-clause-head c rest =
    at_once_passed c.args.lines.now c.pass.new.self rest c.unread.result.now (Head c.in_ok-head.head) c.in_ok-head.count c.in_ok-head.ensures c.unread.ensures.unread
    c.pass.ensures.unread c.pass.ensures.number c.pass.ensures.asks
