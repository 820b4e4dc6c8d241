use Rattle.std.proofs.Common.{refl, arith}
use Rattle.sip_replay_script.proofs.PlainRuns.{run_front, run_more}
use Rattle.sip_replay_script.proofs.plain.plain_length.Goals as goal

pub returns-then-run-lt-LANES-clause-plain : goal.returns-then-run-lt-LANES-clause-plain
returns-then-run-lt-LANES-clause-plain c =
    run_front c.args.bytes.now _
    (run_more c.args.bytes.now c.by_lanes.end c.plain_in_lanes-run.result _ c.by_lanes.invariant c.plain_in_lanes-run.ensures.0
    (omega (arith, c.by_lanes-test.true, c.by_lanes.invariant.within)) refl)

pub returns-else-is_plain_byte-clause-plain : goal.returns-else-is_plain_byte-clause-plain
returns-else-is_plain_byte-clause-plain c = run_front c.args.bytes.now c.loop-end.end c.loop-end.invariant

pub returns-after-loop-end-clause-plain : goal.returns-after-loop-end-clause-plain
returns-after-loop-end-clause-plain c = run_front c.args.bytes.now c.loop-end.end c.loop-end.invariant
