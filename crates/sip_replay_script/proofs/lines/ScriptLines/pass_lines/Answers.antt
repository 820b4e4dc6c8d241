use Rattle.std.proofs.Common.{ap}
use Rattle.sip_replay_script.proofs.LineEnds.{range_further}
use Rattle.sip_replay_script.proofs.lines.ScriptLines.pass_lines.Goals as goal

pub returns-clause-unread : goal.returns-clause-unread
returns-clause-unread c =
    let lines = c.self.inside in
    range_further lines.buffer.items c.args.self.now.unread lines.start lines.end c.args.count (ap (λ r. r.unread) c.self.view_is) c.self.invariant.0 c.requires.0
