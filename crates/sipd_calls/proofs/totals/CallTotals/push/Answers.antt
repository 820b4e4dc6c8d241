use Rattle.std.proofs.Common.{codes, decimal}
use Rattle.std.proofs.lemmas.Result.{on_ok_weaker}
use Rattle.sipd_calls.specs.Totals.{talked_text}
use Rattle.sipd_calls.proofs.Parts.{five_parts}
use Rattle.sipd_calls.proofs.totals.CallTotals.push.Goals as goal

pub returns : goal.returns
returns c =
    on_ok_weaker c.push_talked.result
    (λ h. five_parts c.args.out.now (codes "calls: ") (decimal c.args.self.calls) (codes ", answered: ") (decimal c.args.self.answered)
    (talked_text c.args.self.talked) c.extend.new.self c.push_decimal.new.self c.extend-2.new.self c.push_decimal-2.new.self c.push_talked.new.out
    c.in_ok-extend.ensures.ok c.in_ok-push_decimal.ensures.ok c.in_ok-extend-2.ensures.ok c.in_ok-push_decimal-2.ensures.ok h) c.push_talked.ensures
