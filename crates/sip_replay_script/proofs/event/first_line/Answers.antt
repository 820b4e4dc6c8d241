use Rattle.std.proofs.Common.{sym}
use Rattle.sip_replay_script.proofs.Datagrams.{passes_line, said_passed}
use Rattle.sip_replay_script.proofs.event.first_line.Goals as goal

pub returns-in-Some-clause-given : goal.returns-in-Some-clause-given
returns-in-Some-clause-given g c =
    said_passed c.args.lines.now c.pass.new.self (g.R.TellingReader.remaining c.args.reader.now) c.in-Some.line.now c.in_ok-said.said
    (passes_line c.args.lines.now c.pass.new.self c.in-Some.line.now c.in-Some.ensures c.pass.ensures.unread c.pass.ensures.number c.pass.ensures.asks)
    (sym c.in_ok-said.ensures)
