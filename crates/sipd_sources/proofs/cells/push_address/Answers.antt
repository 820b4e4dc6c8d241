use Rattle.std.proofs.Common.{ℕ, List, ◌++◌, ◌∙◌, ap}
use Rattle.std.proofs.lemmas.Result.{on_ok_weaker}
use Rattle.sipd_calls.specs.Cells.{cell}
use Rattle.sipd_sources.proofs.cells.push_address.Goals as goal

pub returns : goal.returns
returns c =
    on_ok_weaker c.push_cell.result
    (λ h. h ∙ ap (λ (text : List ℕ). c.args.out.now ++ cell 15 text) (c.as_slice.ensures ∙ c.in_ok-text.ensures)) c.push_cell.ensures
