use Rattle.sip_replay_script.proofs.Datagrams.{passes_line, keeps_next}
use Rattle.sip_replay_script.proofs.event.keep_other.Goals as goal

pub returns-clause-next : goal.returns-clause-next
returns-clause-next c =
    keeps_next c.args.lines.now c.pass.new.self c.in-Some.line.now c.args.bytes.now c.keep_line.new.bytes
    (passes_line c.args.lines.now c.pass.new.self c.in-Some.line.now c.in-Some.ensures c.pass.ensures.unread c.pass.ensures.number c.pass.ensures.asks)
    (c.requires.other c.in-Some.line.now c.in-Some.ensures) c.in_ok-keep_line.ensures.kept
