use Rattle.std.proofs.Common.{codes, decimal}
use Rattle.std.proofs.lemmas.Result.{on_ok_weaker}
use Rattle.sipd_calls.proofs.Parts.{three_parts}
use Rattle.sipd_page_sections.proofs.comparing.put_same.Goals as goal

pub returns : goal.returns
returns c =
    on_ok_weaker c.extend-2.result
    (λ h. three_parts c.args.out.now (codes "<p class=\"allow\">The log comes out of the records again, byte for byte. Lines: ") (decimal c.args.count) (codes "</p>\n")
    c.extend.new.self c.push_decimal.new.self c.extend-2.new.self
    c.in_ok-extend.ensures.ok c.in_ok-push_decimal.ensures.ok h) c.extend-2.ensures.ok
