use Rattle.sipd_service.proofs.Printed.{lines_more}
use Rattle.sipd_service.proofs.printing.print_records.Goals as goal

pub loop-record-preserved : goal.loop-record-preserved
loop-record-preserved g c =
    lines_more c.args.records.now c.loop-record.record-index c.record-item.result _ _ _ c.loop-record-test.true c.record-item.is c.loop-record.invariant
    c.in_ok-print_record.ensures.printed
