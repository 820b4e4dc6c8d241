use Rattle.std.proofs.Common.{arith}
use Rattle.sipd_report.proofs.Ends.{put_kept}
use Rattle.sipd_report.proofs.lines.put_part.Goals as goal

pub returns-clause-grown : goal.returns-clause-grown
returns-clause-grown c =
    put_kept c.args.line.now.items c.args.part.now c.extend_from_slice.new.self.items c.min-count.result (omega (arith, c.min-count.ensures, c.len.ensures)) c.requires
    c.in_ok-extend_from_slice.ensures.items
