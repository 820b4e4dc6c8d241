use Rattle.sip_replay_print.specs.Print.{audit_text}
use Rattle.std.proofs.lemmas.Result.{err_from_is_err_and}
use Rattle.sip_replay_script.proofs.Fronts.{front_part}
use Rattle.sip_replay_script.proofs.Written.{appends_part}
use Rattle.sip_replay_print.proofs.print.print_records.Goals as goal

pub loop-record-preserved : goal.loop-record-preserved
loop-record-preserved g c =
    appends_part audit_text c.args.records.now c.loop-record.record-index c.record-item.result
    _ _ _ c.loop-record-test.true c.record-item.is c.loop-record.invariant c.in_ok-print_record.ensures.ok

pub returns-in_err-print_record-clause-front : goal.returns-in_err-print_record-clause-front
returns-in_err-print_record-clause-front g c =
    let p = err_from_is_err_and c.from_residual.result c.from_residual.ensures.1 in
    rw p.1 (front_part audit_text c.args.records.now c.loop-record.record-index c.record-item.result
    _ _ _ c.loop-record-test.true c.record-item.is c.loop-record.invariant c.in_err-print_record.ensures.front)
