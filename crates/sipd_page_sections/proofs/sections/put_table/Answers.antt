use Rattle.std.proofs.Common.{codes, ◌++◌}
use Rattle.std.proofs.lemmas.Result.{on_ok_weaker}
use Rattle.sipd_page_sections.specs.Sections.{table_end}
use Rattle.sipd_calls.proofs.Parts.{four_parts}
use Rattle.sipd_page_sections.proofs.sections.put_table.Goals as goal

pub returns : goal.returns
returns c =
    on_ok_weaker c.put_rows.result
    (λ h. four_parts c.args.out.now (codes "<h3>") c.args.name.now (codes "</h3>\n<table>\n") (c.args.names.now ++ c.args.rows.now ++ table_end)
    c.extend.new.self c.extend-2.new.self c.extend-3.new.self c.put_rows.new.out c.in_ok-extend.ensures.ok c.in_ok-extend-2.ensures.ok
    c.in_ok-extend-3.ensures.ok h) c.put_rows.ensures
