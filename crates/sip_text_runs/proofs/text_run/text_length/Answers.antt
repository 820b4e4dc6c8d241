use Rattle.std.proofs.Common.{refl, arith}
use Rattle.sip_text_runs.specs.TextRun.{is_text_but_tab}
use Rattle.sip_text_runs.proofs.TextRuns.{run_front, run_more, text_front}
use Rattle.sip_text_runs.proofs.text_run.text_length.Goals as goal

pub returns-then-run-lt-LANES-clause-text : goal.returns-then-run-lt-LANES-clause-text
returns-then-run-lt-LANES-clause-text c =
    text_front c.args.bytes.now _
    (run_more is_text_but_tab c.args.bytes.now c.by_lanes.end c.text_in_lanes-run.result _ c.by_lanes.invariant c.text_in_lanes-run.ensures.0
    (omega (arith, c.by_lanes-test.true, c.by_lanes.invariant.within)) refl)

pub returns-then-run-lt-LANES-clause-run : goal.returns-then-run-lt-LANES-clause-run
returns-then-run-lt-LANES-clause-run c =
    run_front is_text_but_tab c.args.bytes.now _
    (run_more is_text_but_tab c.args.bytes.now c.by_lanes.end c.text_in_lanes-run.result _ c.by_lanes.invariant c.text_in_lanes-run.ensures.0
    (omega (arith, c.by_lanes-test.true, c.by_lanes.invariant.within)) refl)

pub returns-else-is_text_byte-clause-text : goal.returns-else-is_text_byte-clause-text
returns-else-is_text_byte-clause-text c = text_front c.args.bytes.now c.loop-end.end c.loop-end.invariant

pub returns-else-is_text_byte-clause-run : goal.returns-else-is_text_byte-clause-run
returns-else-is_text_byte-clause-run c = run_front is_text_but_tab c.args.bytes.now c.loop-end.end c.loop-end.invariant

pub returns-after-loop-end-clause-text : goal.returns-after-loop-end-clause-text
returns-after-loop-end-clause-text c = text_front c.args.bytes.now c.loop-end.end c.loop-end.invariant

pub returns-after-loop-end-clause-run : goal.returns-after-loop-end-clause-run
returns-after-loop-end-clause-run c = run_front is_text_but_tab c.args.bytes.now c.loop-end.end c.loop-end.invariant
