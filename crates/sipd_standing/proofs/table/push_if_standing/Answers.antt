use Rattle.std.proofs.Common.{Option, ◌++◌, sym, ◌∙◌, ap, append-nil}
use Rattle.std.proofs.lemmas.Result.{on_ok_weaker}
use Rattle.sipd_standing.specs.declared.standing.Standing.{Standing}
use Rattle.sipd_standing.specs.Standing.{row_if}
use Rattle.sipd_standing.proofs.table.push_if_standing.Goals as goal

pub returns-in-Some : goal.returns-in-Some
returns-in-Some c =
    on_ok_weaker c.push_standing.result
    (λ h. h ∙ ap (λ (standing : Option Standing). c.args.out.now ++ row_if c.args.form c.args.at c.args.call.now standing) c.in-Some.ensures)
    c.push_standing.ensures

pub returns-in-None : goal.returns-in-None
returns-in-None c =
    sym (append-nil c.args.out.now)
    ∙ ap (λ (standing : Option Standing). c.args.out.now ++ row_if c.args.form c.args.at c.args.call.now standing) c.in-None.ensures
