use Rattle.std.proofs.lemmas.Result.{on_ok_weaker}
use Rattle.sipd_calls.proofs.Parts.{three_parts}
use Rattle.sipd_sources.specs.Cells.{count_cell}
use Rattle.sipd_sources.proofs.cells.push_proven.Goals as goal

pub returns : goal.returns
returns c =
    let source = c.args.source.now in
    on_ok_weaker c.push_count-3.result
    (λ h. three_parts c.args.out.now (count_cell 6 source.proven) (count_cell 5 source.wrong) (count_cell 5 source.names) c.push_count.new.out
    c.push_count-2.new.out c.push_count-3.new.out c.in_ok-push_count.ensures c.in_ok-push_count-2.ensures h) c.push_count-3.ensures
