use Rattle.std.proofs.Common.{ℕ, List, ◌++◌, ◌∙◌, ap, codes}
use Rattle.std.proofs.lemmas.Result.{on_ok_weaker}
use Rattle.sipd_calls.specs.Cells.{cell, clock_name, names}
use Rattle.sipd_calls.proofs.Parts.{three_parts}
use Rattle.sipd_calls.proofs.cells.push_head.Goals as goal

pub returns : goal.returns
returns c =
    on_ok_weaker c.push_names.result
    (λ h. three_parts c.args.out.now (cell 6 (codes "number")) (cell 14 (clock_name c.args.clock)) names c.push_cell.new.out c.push_cell-2.new.out
    c.push_names.new.out c.in_ok-push_cell.ensures
    (c.in_ok-push_cell-2.ensures
    ∙ ap (λ (text : List ℕ). c.push_cell.new.out ++ cell 14 text)
    (c.as_slice.ensures ∙ c.in_ok-push_clock_name.ensures ∙ ap (λ (text : List ℕ). text ++ clock_name c.args.clock) c.new-name.ensures)) h) c.push_names.ensures
