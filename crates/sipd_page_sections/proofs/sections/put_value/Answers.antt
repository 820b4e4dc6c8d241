use Rattle.std.proofs.Common.{codes}
use Rattle.std.proofs.lemmas.Result.{on_ok_weaker}
use Rattle.sipd_report.specs.Html.{escaped}
use Rattle.sipd_calls.proofs.Parts.{three_parts}
use Rattle.sipd_page_sections.proofs.sections.put_value.Goals as goal

pub returns : goal.returns
returns c =
    on_ok_weaker c.extend-2.result
    (λ h. three_parts c.args.out.now (codes "</th><td><code>") (escaped c.args.value.now) (codes "</code></td></tr>\n") c.extend.new.self c.put_escaped.new.text
    c.extend-2.new.self
    c.in_ok-extend.ensures.ok c.in_ok-put_escaped.ensures h) c.extend-2.ensures.ok
