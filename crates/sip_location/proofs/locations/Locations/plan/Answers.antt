use Rattle.std.proofs.Common.{◌∙◌}
use Rattle.std.proofs.lemmas.Result.{err_from_is_err_and}
use Rattle.sip_location.proofs.Planning.{edited_of_own, ok_of_own, refusal_of_own}
use Rattle.sip_location.proofs.locations.Locations.plan.Goals as goal

pub returns-in_err-rows-clause-refused : goal.returns-in_err-rows-clause-refused
returns-in_err-rows-clause-refused c =
    let p = err_from_is_err_and c.from_residual.result c.from_residual.ensures.1 in
    let refused = rw c.rows_of-kept.ensures at c.in_err-rows.ensures.refused in
    rw (p.1, p.2, ← c.self.view_is) (refusal_of_own c.self.inside.filing.rows c.args.request.now c.args.now c.in_err-rows.field-0.0 refused)

pub returns-clause-plan : goal.returns-clause-plan
returns-clause-plan c =
    let r = c.args.request.now in
    let rows = c.self.inside.filing.rows in
    let plan = rw c.rows_of-kept.ensures at c.in_ok-rows.ensures.plan in
    rw (← c.self.view_is) (ok_of_own rows r c.args.now plan.0, c.in_ok-aor.ensures, rw c.in_ok-aor.ensures plan.1 ∙ edited_of_own rows r c.args.now)
