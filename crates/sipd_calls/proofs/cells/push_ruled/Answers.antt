use Rattle.std.proofs.Common.{ℕ, List, ◌++◌, ◌∙◌, ap}
use Rattle.std.proofs.lemmas.Result.{on_ok_weaker}
use Rattle.sipd_calls.specs.Cells.{cell, rule_word}
use Rattle.sipd_calls.proofs.cells.push_ruled.Goals as goal

pub returns : goal.returns
returns c =
    on_ok_weaker c.push_cell.result
    (λ h. h ∙ ap (λ (text : List ℕ). c.args.out.now ++ cell 5 text) (c.rule_word.ensures ∙ ap rule_word c.in_ok-rule.ensures)) c.push_cell.ensures
