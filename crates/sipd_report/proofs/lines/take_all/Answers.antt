use Rattle.sipd_report.proofs.Ends.{part_goes_on}
use Rattle.sipd_report.proofs.lines.take_all.Goals as goal

pub returns-clause-goes_on : goal.returns-clause-goes_on
returns-clause-goes_on c =
    let taken = c.unread-unread in
    part_goes_on c.args.lines.now c.pass_lines.new.self taken.result.now c.args.line.now.items c.put_part.new.line.items taken.ensures.unread c.requires.none
    c.in_ok-put_part.ensures.grown c.pass_lines.ensures.unread c.pass_lines.ensures.asks
