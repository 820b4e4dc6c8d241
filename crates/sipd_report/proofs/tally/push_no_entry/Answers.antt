use Rattle.std.proofs.Common.{◌∙◌, ap, arith, ◌++◌, ◌∷◌, [], codes, decimal, map, take}
use Rattle.std.proofs.lemmas.Result.{on_ok_weaker}
use Rattle.sipd_report.specs.Report.{shown_byte}
use Rattle.sipd_report.proofs.Ends.{five_parts, front_of}
use Rattle.sipd_report.proofs.tally.push_no_entry.Goals as goal

pub returns : goal.returns
returns c =
    on_ok_weaker c.push.result
    (λ h. five_parts c.args.text.now (codes "line ") (decimal c.args.number) (codes ": ") (map shown_byte (take 120 c.args.line.now)) (10 ∷ [])
    c.extend.new.self c.push_decimal.new.self c.extend-2.new.self c.push_shown.new.text c.push.new.self
    c.in_ok-extend.ensures.ok c.in_ok-push_decimal.ensures.ok c.in_ok-extend-2.ensures.ok
    (c.in_ok-push_shown.ensures ∙ ap (λ l. c.extend-2.new.self ++ map shown_byte l) (front_of 120 c.args.line.now c.min.result (omega (arith, c.min.ensures)))) h)
    c.push.ensures.ok
