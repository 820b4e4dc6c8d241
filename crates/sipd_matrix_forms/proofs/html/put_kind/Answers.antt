use Rattle.std.proofs.Common.{codes}
use Rattle.std.proofs.lemmas.Result.{on_ok_weaker}
use Rattle.sipd_report.specs.Html.{escaped}
use Rattle.sipd_matrix_forms.proofs.Written.{three_parts}
use Rattle.sipd_matrix_forms.proofs.html.put_kind.Goals as goal

pub returns : goal.returns
returns c =
    on_ok_weaker c.extend-2.result
    (λ h. three_parts c.args.text.now (codes "<td class=\"") (escaped c.args.kind.now) (codes "\">")
    c.extend.new.self c.put_escaped.new.text c.extend-2.new.self c.in_ok-extend.ensures.ok c.in_ok-put_escaped.ensures h) c.extend-2.ensures.ok
