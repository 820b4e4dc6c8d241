use Rattle.std.proofs.Common.{codes, decimal}
use Rattle.std.proofs.lemmas.Result.{on_ok_weaker}
use Rattle.sipd_report.specs.Times.{offset_text}
use Rattle.sipd_calls.proofs.Parts.{three_parts}
use Rattle.sipd_calls.proofs.cells.push_clock_name.Goals as goal

pub returns : goal.returns
returns c =
    on_ok_weaker c.push_ahead.result
    (λ h. three_parts c.args.out.now (decimal c.args.clock.year) (codes " UTC") (offset_text c.args.clock.offset) c.push_decimal.new.self
    c.extend.new.self c.push_ahead.new.out c.in_ok-push_decimal.ensures.ok c.in_ok-extend.ensures.ok h) c.push_ahead.ensures
