use Rattle.std.proofs.Common.{◌-◌, ◌+◌, length, refl, sym, arith}
use Rattle.std.proofs.lemmas.List.Folds.{list_all_at}
use Rattle.sip_text_runs.specs.Marks.{is_unmarked}
use Rattle.sip_text_runs.proofs.OneValue.{unmarked_all}
use Rattle.sip_text_runs.proofs.marks.are_unmarked.Goals as goal

pub returns-then-run-lt-LANES : goal.returns-then-run-lt-LANES
returns-then-run-lt-LANES c =
    sym (list_all_at is_unmarked c.args.bytes.now (c.by_lanes.seen + c.unmarked_in_lanes-run.result) 0 (omega arith) (c.unmarked_in_lanes-run.ensures.1 (omega arith)))

pub returns-then-run-lt-LANES-2 : goal.returns-then-run-lt-LANES-2
returns-then-run-lt-LANES-2 c =
    sym (list_all_at is_unmarked c.args.bytes.now (length c.args.bytes.now - 16 + c.unmarked_in_lanes-run-2.result) 0 (omega arith)
    (c.unmarked_in_lanes-run-2.ensures.1 (omega arith)))

pub returns : goal.returns
returns c =
    sym (unmarked_all c.args.bytes.now c.by_lanes.seen c.unmarked_in_lanes-run-2.result (length c.args.bytes.now - 16) (omega (arith, c.if-bytes-lt-LANES.false)) refl
    (omega (arith, c.by_lanes-test.false)) c.by_lanes.invariant
    c.unmarked_in_lanes-run-2.ensures.0 (omega (arith, c.if-run-lt-LANES-2.false)))
