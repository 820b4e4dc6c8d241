use Rattle.std.proofs.Common.{codes}
use Rattle.std.proofs.lemmas.Result.{on_ok_weaker}
use Rattle.sipd_page_sections.specs.Sections.{value_cell}
use Rattle.sipd_calls.proofs.Parts.{three_parts}
use Rattle.sipd_page_sections.proofs.sections.put_fact.Goals as goal

pub returns : goal.returns
returns c =
    on_ok_weaker c.put_value.result
    (λ h. three_parts c.args.out.now (codes "<tr><th>") c.args.name.now (value_cell c.args.value.now) c.extend.new.self c.extend-2.new.self
    c.put_value.new.out c.in_ok-extend.ensures.ok c.in_ok-extend-2.ensures.ok h) c.put_value.ensures
