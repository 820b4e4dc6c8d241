use Rattle.std.proofs.Common.{codes, decimal}
use Rattle.std.proofs.lemmas.Result.{on_ok_weaker}
use Rattle.sipd_calls.proofs.Parts.{three_parts}
use Rattle.sipd_page_sections.proofs.picture.put_scale.Goals as goal

pub returns : goal.returns
returns c =
    on_ok_weaker c.extend-2.result
    (λ h. three_parts c.args.out.now (codes "<text x=\"34\" y=\"24\" class=\"end\">") (decimal c.args.most)
    (codes "</text>\n<text x=\"34\" y=\"184\" class=\"end\">0</text>\n") c.extend.new.self c.push_decimal.new.self c.extend-2.new.self
    c.in_ok-extend.ensures.ok c.in_ok-push_decimal.ensures.ok h) c.extend-2.ensures.ok
