use Rattle.std.proofs.Common.{◌≡◌, ◌++◌, List, ℕ, sym, subst}
use Rattle.std.specs.Prelude.{OnOk}
use Rattle.sipd_ladder.specs.Table.{came_row, row_by}
use Rattle.sipd_ladder.specs.declared.rung.RungKind.{RungKind}
use Rattle.sipd_ladder.proofs.table.push_kind.Goals as goal

pub returns-in-Came : goal.returns-in-Came
returns-in-Came c =
    subst (λ (k : RungKind). OnOk c.push_came.result (c.push_came.new.out ≡ c.args.out.now ++ row_by c.args.since c.args.places.now k)) (sym c.in-Came.is)
    (subst (λ (w : List ℕ). OnOk c.push_came.result (c.push_came.new.out ≡ c.args.out.now ++ came_row c.args.since c.args.places.now c.in-Came.from
    c.in-Came.again w)) c.as_slice.ensures c.push_came.ensures)
