use Rattle.std.proofs.Common.{codes}
use Rattle.std.proofs.lemmas.Result.{on_ok_weaker}
use Rattle.std.specs.List.{flat_map}
use Rattle.sipd_page_sections.specs.Sections.{denial_row, table_end}
use Rattle.sipd_calls.proofs.Parts.{three_parts}
use Rattle.sipd_page_sections.proofs.sections.put_denials.Goals as goal

pub returns : goal.returns
returns c =
    on_ok_weaker c.extend-2.result
    (λ h. three_parts c.args.out.now (codes "<h3>Denied, by rule (0: none matched)</h3>\n<table>\n<tr><th>rule</th><th>denied</th></tr>\n")
    (flat_map denial_row c.args.rows.now) (table_end) c.extend.new.self c.put_denial_rows.new.out c.extend-2.new.self
    c.in_ok-extend.ensures.ok c.in_ok-put_denial_rows.ensures h) c.extend-2.ensures.ok
