use Rattle.std.proofs.Common.{subst}
use Rattle.sip_replay_script.specs.Gathered.{AddsLines}
use Rattle.sip_replay_script.proofs.Datagrams.{keeps_added}
use Rattle.sip_replay_script.proofs.event.keep_plain.Goals as goal

pub returns-clause-kept : goal.returns-clause-kept
returns-clause-kept c =
    let passed = c.add_lines-passed.result in
    keeps_added c.args.lines.now c.pass_lines.new.self c.args.bytes.now c.add_lines-passed.new.self passed.count passed.lines
    (subst (λ text. AddsLines text c.args.bytes.now c.add_lines-passed.new.self passed.count passed.lines) c.unread.ensures.unread c.add_lines-passed.ensures)
    c.pass_lines.ensures.unread c.pass_lines.ensures.number
