use Rattle.std.proofs.lemmas.Result.{on_ok_weaker}
use Rattle.sipd_page_sections.specs.Sections.{table_end}
use Rattle.sipd_calls.proofs.Parts.{three_parts}
use Rattle.sipd_page_sections.proofs.sections.put_rows.Goals as goal

pub returns : goal.returns
returns c =
    on_ok_weaker c.extend-3.result
    (λ h. three_parts c.args.out.now c.args.names.now c.args.rows.now table_end c.extend.new.self c.extend-2.new.self c.extend-3.new.self
    c.in_ok-extend.ensures.ok c.in_ok-extend-2.ensures.ok h) c.extend-3.ensures.ok
