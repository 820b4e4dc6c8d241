use Rattle.std.proofs.Common.{◌++◌, ◌∙◌, ap}
use Rattle.sipd_calls.specs.declared.cells.OfficeClock.{OfficeClock}
use Rattle.sipd_calls.specs.Cells.{call_row, clock_of}
use Rattle.sipd_calls.specs.Table.{head_between}
use Rattle.sipd_calls.proofs.Parts.{two_parts}
use Rattle.sipd_calls.proofs.table.push_call.Goals as goal

pub returns-clause-text : goal.returns-clause-text
returns-clause-text c =
    two_parts c.args.out.now (head_between c.args.rows.clock (clock_of c.args.call.now)) (call_row c.args.call.now) c.push_clock.new.out c.push_row.new.out
    (c.in_ok-push_clock.ensures ∙ ap (λ (clock : OfficeClock). c.args.out.now ++ head_between c.args.rows.clock clock) c.clock_of-clock.ensures)
    c.in_ok-push_row.ensures
