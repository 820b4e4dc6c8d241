use Rattle.std.proofs.Common.{◌≡◌, ℕ, List, subst}
use Rattle.std.specs.Prelude.{IfOk}
use Rattle.sipd_ladder_picture.proofs.Whole.{drawn}
use Rattle.sipd_ladder_picture.proofs.drawing.drawing_of.Goals as goal

pub returns-in-Some : goal.returns-in-Some
returns-in-Some c =
    subst (λ (l : List ℕ). IfOk c.drawing_from.result (λ drawing. drawing ≡ l))
    (drawn c.args.ladder.now.call_id c.args.ladder.now.names c.in-Some.first.now c.args.rungs.now c.in-Some.field-0-1.now c.in-Some.ensures.cases.0)
    c.drawing_from.ensures
