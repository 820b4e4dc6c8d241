use Rattle.sipd_report.proofs.Ends.{part_ends}
use Rattle.sipd_report.proofs.lines.take_ended.Goals as goal

pub returns-clause-ends : goal.returns-clause-ends
returns-clause-ends c =
    let taken = c.unread-unread in
    part_ends c.args.lines.now c.pass.new.self taken.result.now c.args.line.now.items c.put_part.new.line.items c.args.place taken.ensures.unread c.requires.ends
    c.in_ok-put_part.ensures.grown c.pass.ensures.unread c.pass.ensures.asks
