use Rattle.std.proofs.Common.{◌≡◌, ◌≤◌, Some, slice_get, sym, ◌∙◌, ap, subst, []}
use Rattle.std.specs.Option.{unwrap_or}
use Rattle.sip_dialog_updates.specs.state.declared.open_request.OpenRequest.{OpenRequest}
use Rattle.sip_request.specs.declared.request.Request.{Request}
use Rattle.sip_context.specs.Inputs.{Outcome, changing, outcome_of}
use Rattle.sip_fork.specs.Quiet.{alone, ends_alone}
use Rattle.sip_request.specs.transactions_model.Fits.{Fits}
use Rattle.sip_request.specs.transactions_model.Near.{IsWithin}
use Rattle.sip_fork.specs.Contexts.{Contexts, IsKept}
use Rattle.sip_fork.specs.Ending.{IsDeadlineOf, ended}
use Rattle.sip_fork.specs.Keeping.{IsKeptAs}
use Rattle.sip_fork.proofs.OnTime.{near_at}
use Rattle.sip_fork.proofs.Tying.{contexts, kept_at, seen_at}
use Rattle.sip_fork.proofs.contexts.Contexts.ends_quietly.Goals as goal

pub returns-clause-exact : goal.returns-clause-exact
returns-clause-exact g c = λ r at.
    let row : Request = c.row.inside.request in
    let there : slice_get c.self.inside.table.rows c.args.place ≡ Some row = rw c.row.view_is c.get-row.ensures.row in
    let shown : slice_get c.args.self.now.requests c.args.place ≡ Some row.open_request =
    subst (λ (v : Contexts). slice_get v.requests c.args.place ≡ Some row.open_request) c.self.view_is (seen_at c.self.inside.table.rows c.args.place row there) in
    let is_row : row.open_request ≡ r = ap (λ o. unwrap_or o r) (sym shown ∙ at) in
    subst (λ (x : OpenRequest). c.ends_quietly.result ≡ ends_alone c.args.transaction x) is_row c.ends_quietly.ensures.exact

pub returns-clause-outcome : goal.returns-clause-outcome
returns-clause-outcome g c = λ quiet r at server now input is.
    let row : Request = c.row.inside.request in
    let there : slice_get c.self.inside.table.rows c.args.place ≡ Some row = rw c.row.view_is c.get-row.ensures.row in
    let shown : slice_get c.args.self.now.requests c.args.place ≡ Some row.open_request =
    subst (λ (v : Contexts). slice_get v.requests c.args.place ≡ Some row.open_request) c.self.view_is (seen_at c.self.inside.table.rows c.args.place row there) in
    let is_row : row.open_request ≡ r = ap (λ o. unwrap_or o r) (sym shown ∙ at) in
    subst (λ (x : OpenRequest). IsDeadlineOf x c.args.transaction input → outcome_of server now x input ≡ changing (alone (ended c.args.transaction x)) []) is_row
    (c.ends_quietly.ensures.outcome quiet server now input) is

pub returns-clause-kept : goal.returns-clause-kept
returns-clause-kept g c = λ quiet r at server now input later about is.
    let row : Request = c.row.inside.request in
    let there : slice_get c.self.inside.table.rows c.args.place ≡ Some row = rw c.row.view_is c.get-row.ensures.row in
    let seen : slice_get (contexts c.self.inside.table.rows) c.args.place ≡ Some row.open_request = seen_at c.self.inside.table.rows c.args.place row there in
    let shown : slice_get c.args.self.now.requests c.args.place ≡ Some row.open_request =
    subst (λ (v : Contexts). slice_get v.requests c.args.place ≡ Some row.open_request) c.self.view_is seen in
    let is_row : row.open_request ≡ r = ap (λ o. unwrap_or o r) (sym shown ∙ at) in
    let kept : IsKept c.self.inside.timers.reached row = kept_at c.self.inside.timers.pending c.self.inside.timers.reached c.self.inside.table.rows c.args.place row
    c.self.invariant.tied there in
    let near : IsWithin c.self.inside.moment row.open_request = near_at c.self.inside.moment c.self.inside.timers.reached (contexts c.self.inside.table.rows) c.args.place
    row.open_request c.self.invariant.on_time seen in
    let come : c.self.inside.moment ≤ now = subst (λ (v : Contexts). v.moment ≤ now) (sym c.self.view_is) later in
    subst (λ (o : Outcome). IsKeptAs now r o.request) (returns-clause-outcome g c quiet r at server now input is)
    (c.inputs_keep.ensures.change server c.self.inside.moment now r input (subst Fits is_row kept.fits) (subst (IsWithin c.self.inside.moment) is_row near) come about)
