use Rattle.std.proofs.Common.{refl, arith}
use Rattle.sip_text_runs.specs.TextRun.{is_visible}
use Rattle.sip_text_runs.proofs.TextRuns.{run_front, run_more}
use Rattle.sip_text_runs.proofs.text_run.visible_length.Goals as goal

pub returns-then-run-lt-LANES-clause-visible : goal.returns-then-run-lt-LANES-clause-visible
returns-then-run-lt-LANES-clause-visible c =
    run_front is_visible c.args.bytes.now _
    (run_more is_visible c.args.bytes.now c.by_lanes.end c.visible_in_lanes-run.result _ c.by_lanes.invariant c.visible_in_lanes-run.ensures.0
    (omega (arith, c.by_lanes-test.true, c.by_lanes.invariant.within)) refl)

pub returns-else-is_visible_byte-clause-visible : goal.returns-else-is_visible_byte-clause-visible
returns-else-is_visible_byte-clause-visible c = run_front is_visible c.args.bytes.now c.loop-end.end c.loop-end.invariant

pub returns-after-loop-end-clause-visible : goal.returns-after-loop-end-clause-visible
returns-after-loop-end-clause-visible c = run_front is_visible c.args.bytes.now c.loop-end.end c.loop-end.invariant
