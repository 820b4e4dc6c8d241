use Rattle.sipd_calls.proofs.Parts.{one_more}
use Rattle.sipd_page_sections.specs.Sections.{denial_row}
use Rattle.sipd_page_sections.proofs.sections.put_denial_rows.Goals as goal

pub loop-row-preserved : goal.loop-row-preserved
loop-row-preserved c =
    one_more denial_row c.args.rows.now c.loop-row.row-index c.row-item.result c.args.out.now c.loop-row.out c.put_denial.new.out c.loop-row-test.true
    c.row-item.is c.loop-row.invariant c.in_ok-put_denial.ensures
