use Rattle.std.proofs.Common.{◌≡◌, ◌==◌, Some, position, slice_get, sym, ◌∙◌, ap, subst, List}
use Rattle.model_steps.specs.Effect.{replaced}
use Rattle.sip_dialog_updates.specs.state.declared.open_request.OpenRequest.{OpenRequest}
use Rattle.sip_request.specs.declared.request.Request.{Request}
use Rattle.sip_request.specs.transactions_model.Near.{IsWithin}
use Rattle.sip_fork.specs.Contexts.{Contexts, IsSame}
use Rattle.sip_fork.proofs.OnTime.{whole}
use Rattle.sip_fork.proofs.Tying.{contexts, place_of, replaced_in, replaced_out, seen_at}
use Rattle.sip_fork.specs.Firing.{KeepsOrder}
use Rattle.sip_fork.proofs.contexts.Contexts.change.Goals as goal

pub change_row-requires-clause-same : goal.change_row-requires-clause-same
change_row-requires-clause-same g c = λ r at.
    c.requires.same r.open_request (subst (λ (v : Contexts). slice_get v.requests c.args.place ≡ Some r.open_request) c.self.view_is
    (seen_at c.self.inside.table.rows c.args.place r at))

pub change_row-requires-clause-branches : goal.change_row-requires-clause-branches
change_row-requires-clause-branches g c = λ r at.
    c.requires.branches r.open_request (subst (λ (v : Contexts). slice_get v.requests c.args.place ≡ Some r.open_request) c.self.view_is
    (seen_at c.self.inside.table.rows c.args.place r at))

pub returns-then-closes-clause-requests : goal.returns-then-closes-clause-requests
returns-then-closes-clause-requests g c =
    let same : IsSame c.get-stood.result.now.open_request c.args.change =
    c.requires.same c.get-stood.result.now.open_request (subst (λ (v : Contexts). slice_get v.requests c.args.place ≡ Some c.get-stood.result.now.open_request)
    c.self.view_is (seen_at c.self.inside.table.rows c.args.place c.get-stood.result.now c.get-stood.ensures.row)) in
    let found : position (λ (x : OpenRequest). x.number == c.args.change.number) (contexts c.self.inside.table.rows) ≡ Some c.args.place =
    place_of c.args.change c.self.inside.table.rows c.args.place c.get-stood.result.now same.number c.get-stood.ensures.number in
    subst (λ (v : Contexts). contexts c.close_row.new.table.rows ≡ replaced c.args.change v.requests) c.self.view_is
    (ap (λ (xs : List Request). contexts xs) c.close_row.ensures.rows ∙ replaced_out c.args.change c.self.inside.table.rows c.args.place
    (sym c.closes.ensures ∙ c.if-closes.true) found)

pub returns-else-closes-clause-requests : goal.returns-else-closes-clause-requests
returns-else-closes-clause-requests g c =
    let same : IsSame c.get-stood.result.now.open_request c.args.change =
    c.requires.same c.get-stood.result.now.open_request (subst (λ (v : Contexts). slice_get v.requests c.args.place ≡ Some c.get-stood.result.now.open_request)
    c.self.view_is (seen_at c.self.inside.table.rows c.args.place c.get-stood.result.now c.get-stood.ensures.row)) in
    let found : position (λ (x : OpenRequest). x.number == c.args.change.number) (contexts c.self.inside.table.rows) ≡ Some c.args.place =
    place_of c.args.change c.self.inside.table.rows c.args.place c.get-stood.result.now same.number c.get-stood.ensures.number in
    subst (λ (v : Contexts). contexts c.change_row.new.table.rows ≡ replaced c.args.change v.requests) c.self.view_is
    (c.change_row.ensures.rows ∙ replaced_in c.args.change (contexts c.self.inside.table.rows) c.args.place (sym c.closes.ensures ∙ c.if-closes.false) found)

pub invariant_of-self : goal.invariant_of-self
invariant_of-self g c =
    let same : IsSame c.get-stood.result.now.open_request c.args.change =
    c.requires.same c.get-stood.result.now.open_request (subst (λ (v : Contexts). slice_get v.requests c.args.place ≡ Some c.get-stood.result.now.open_request)
    c.self.view_is (seen_at c.self.inside.table.rows c.args.place c.get-stood.result.now c.get-stood.ensures.row)) in
    let found : position (λ (x : OpenRequest). x.number == c.args.change.number) (contexts c.self.inside.table.rows) ≡ Some c.args.place =
    place_of c.args.change c.self.inside.table.rows c.args.place c.get-stood.result.now same.number c.get-stood.ensures.number in
    let near : IsWithin c.self.inside.moment c.args.change = subst (λ (v : Contexts). IsWithin v.moment c.args.change) (sym c.self.view_is) c.requires.within in
    whole c.self.inside.moment c.self.inside.timers.reached c.args.change (contexts c.self.inside.table.rows) c.close_row.new.timers.pending
    c.close_row.new.timers.reached c.close_row.new.table.rows near c.self.invariant.on_time
    (ap (λ (xs : List Request). contexts xs) c.close_row.ensures.rows ∙ replaced_out c.args.change c.self.inside.table.rows c.args.place
    (sym c.closes.ensures ∙ c.if-closes.true) found)
    c.close_row.ensures.still
    c.close_row.ensures.tied

pub returns-then-closes-clause-queue : goal.returns-then-closes-clause-queue
returns-then-closes-clause-queue g c =
    subst (λ (v : Contexts). KeepsOrder v.pending c.close_row.new.timers.pending (contexts c.close_row.new.table.rows)) c.self.view_is c.close_row.ensures.queue

pub returns-else-closes-clause-queue : goal.returns-else-closes-clause-queue
returns-else-closes-clause-queue g c =
    subst (λ (v : Contexts). KeepsOrder v.pending c.change_row.new.timers.pending (contexts c.change_row.new.table.rows)) c.self.view_is c.change_row.ensures.queue
