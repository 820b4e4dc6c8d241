use Rattle.std.proofs.Common.{codes}
use Rattle.std.proofs.lemmas.Result.{on_ok_weaker}
use Rattle.sipd_report.specs.Report.{title_text, total_text}
use Rattle.sipd_report.proofs.Ends.{five_parts}
use Rattle.sipd_report.proofs.ending.push_counts.Goals as goal

pub returns : goal.returns
returns c =
    let t = c.args.tally.now in
    on_ok_weaker c.push_total-4.result
    (λ h. five_parts c.args.text.now (title_text (codes "lines")) (total_text (codes "in all", t.filled)) (total_text (codes "in the table", t.asked))
    (total_text (codes "challenges, left out", t.left_out)) (total_text (codes "no audit lines", t.none))
    c.push_title.new.text c.push_total.new.text c.push_total-2.new.text c.push_total-3.new.text c.push_total-4.new.text c.in_ok-push_title.ensures
    c.in_ok-push_total.ensures c.in_ok-push_total-2.ensures c.in_ok-push_total-3.ensures h) c.push_total-4.ensures
