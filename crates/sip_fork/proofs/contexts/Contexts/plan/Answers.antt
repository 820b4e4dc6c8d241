use Rattle.std.proofs.Common.{◌≡◌, ◌≤◌, Some, slice_get, sym, ◌∙◌, ap, subst}
use Rattle.std.specs.Option.{unwrap_or}
use Rattle.sip_dialog_updates.specs.state.declared.open_request.OpenRequest.{OpenRequest}
use Rattle.sip_request.specs.declared.request.Request.{Request}
use Rattle.sip_context.specs.Inputs.{outcome, outcome_of}
use Rattle.sip_request.specs.transactions_model.Fits.{Fits}
use Rattle.sip_request.specs.transactions_model.Near.{IsWithin}
use Rattle.sip_fork.specs.Contexts.{Contexts, IsKept}
use Rattle.sip_fork.proofs.OnTime.{near_at}
use Rattle.sip_fork.proofs.Tying.{contexts, kept_at, seen_at}
use Rattle.sip_fork.proofs.contexts.Contexts.plan.Goals as goal

pub returns-clause-outcome : goal.returns-clause-outcome
returns-clause-outcome g c = λ r at.
    let seen : slice_get c.args.self.now.requests c.args.place ≡ Some c.get-row.result.now.open_request =
    subst (λ (v : Contexts). slice_get v.requests c.args.place ≡ Some c.get-row.result.now.open_request) c.self.view_is
    (seen_at c.self.inside.table.rows c.args.place c.get-row.result.now c.get-row.ensures.row) in
    let stands : c.row.inside.request.open_request ≡ r = ap (λ (x : Request). x.open_request) c.row.view_is ∙ ap (λ o. unwrap_or o r) (sym seen ∙ at) in
    subst (λ (x : OpenRequest). outcome c.in_ok-prepared.prepared.change c.in_ok-prepared.prepared.sent ≡ outcome_of c.args.server.now c.args.now x c.args.input) stands
    c.in_ok-prepared.ensures

pub returns-clause-kept : goal.returns-clause-kept
returns-clause-kept g c = λ r at.
    let row : Request = c.get-row.result.now in
    let seen : slice_get (contexts c.self.inside.table.rows) c.args.place ≡ Some row.open_request =
    seen_at c.self.inside.table.rows c.args.place row c.get-row.ensures.row in
    let shown : slice_get c.args.self.now.requests c.args.place ≡ Some row.open_request =
    subst (λ (v : Contexts). slice_get v.requests c.args.place ≡ Some row.open_request) c.self.view_is seen in
    let is_row : row.open_request ≡ r = ap (λ o. unwrap_or o r) (sym shown ∙ at) in
    let kept : IsKept c.self.inside.timers.reached row = kept_at c.self.inside.timers.pending c.self.inside.timers.reached c.self.inside.table.rows c.args.place row
    c.self.invariant.tied c.get-row.ensures.row in
    let near : IsWithin c.self.inside.moment row.open_request = near_at c.self.inside.moment c.self.inside.timers.reached (contexts c.self.inside.table.rows) c.args.place
    row.open_request c.self.invariant.on_time seen in
    let later : c.self.inside.moment ≤ c.args.now = subst (λ (v : Contexts). v.moment ≤ c.args.now) (sym c.self.view_is) c.requires.later in
    c.inputs_keep.ensures.planned c.args.server.now c.self.inside.moment c.args.now r c.in_ok-prepared.prepared.change c.in_ok-prepared.prepared.sent c.args.input
    (subst Fits is_row kept.fits)
    (subst (IsWithin c.self.inside.moment) is_row near)
    later
    (c.requires.about r at)
    (returns-clause-outcome g c r at)
