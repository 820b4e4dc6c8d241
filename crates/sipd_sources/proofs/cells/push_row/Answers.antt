use Rattle.std.proofs.lemmas.Result.{on_ok_weaker}
use Rattle.sipd_calls.proofs.Parts.{four_parts}
use Rattle.sipd_sources.specs.Cells.{first_cell, heard_cells, last_cell, proven_cells}
use Rattle.sipd_sources.proofs.cells.push_row.Goals as goal

pub returns : goal.returns
returns c =
    let source = c.args.source.now in
    on_ok_weaker c.push_last.result
    (λ h. four_parts c.args.out.now (heard_cells source) (proven_cells source) (first_cell source.first) (last_cell source.last) c.push_heard.new.out
    c.push_proven.new.out c.push_first.new.out c.push_last.new.out c.in_ok-push_heard.ensures c.in_ok-push_proven.ensures c.in_ok-push_first.ensures h)
    c.push_last.ensures
