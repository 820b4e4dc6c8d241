use Rattle.std.proofs.lemmas.Result.{on_ok_weaker}
use Rattle.sipd_calls.proofs.Parts.{three_parts}
use Rattle.sipd_sources.specs.Cells.{address_cell, count_cell}
use Rattle.sipd_sources.proofs.cells.push_heard.Goals as goal

pub returns : goal.returns
returns c =
    let source = c.args.source.now in
    on_ok_weaker c.push_count-2.result
    (λ h. three_parts c.args.out.now (address_cell source.ip) (count_cell 8 source.heard) (count_cell 6 source.challenged) c.push_address.new.out
    c.push_count.new.out c.push_count-2.new.out c.in_ok-push_address.ensures c.in_ok-push_count.ensures h) c.push_count-2.ensures
