use Rattle.std.proofs.lemmas.Result.{on_ok_weaker}
use Rattle.sipd_matrix_forms.specs.Html.{text_block}
use Rattle.sipd_calls.proofs.Parts.{two_parts}
use Rattle.sipd_page_sections.proofs.comparing.put_line.Goals as goal

pub returns : goal.returns
returns c =
    on_ok_weaker c.put_block.result
    (λ h. two_parts c.args.out.now c.args.name.now (text_block c.args.line.now) c.extend.new.self c.put_block.new.text c.in_ok-extend.ensures.ok h)
    c.put_block.ensures
