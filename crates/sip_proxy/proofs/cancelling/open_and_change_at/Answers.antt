use Rattle.std.proofs.Common.{◌≡◌, ℕ, ◌≤◌, ◌∙◌, List, Some, slice_get, sym, ap, subst, arith}
use Rattle.sip_dialog_updates.specs.state.State.{with_one_more}
use Rattle.sip_dialog_updates.specs.state.declared.open_request.OpenRequest.{OpenRequest}
use Rattle.sip_fork.specs.Firing.{IsQueueOf, KeepsOrder}
use Rattle.sip_fork.specs.Keeping.{IsKeptAs}
use Rattle.sip_fork.specs.steps_model.Effect.{replaced}
use Rattle.sip_fork.specs.request.Near.{most_timers}
use Rattle.sip_forwarding.specs.transactions_model.Near.{IsWithin}
use Rattle.sip_proxy.proofs.cancelling.open_and_change_at.Goals as goal

pub change-requires-clause-same : goal.change-requires-clause-same
change-requires-clause-same g c = λ r at.
    let there : slice_get c.args.contexts.now.requests c.args.place ≡ Some r =
    sym (c.others_keep_their_places.ensures c.args.opened c.args.contexts.now.requests c.args.place c.requires.place)
    ∙ subst (λ (rs : List OpenRequest). slice_get rs c.args.place ≡ Some r) c.open_at.ensures.requests at in
    let kept : IsKeptAs c.args.now r c.args.change = c.requires.kept r there in
    record { number = kept.number; key = kept.key }

pub change-requires-clause-within : goal.change-requires-clause-within
change-requires-clause-within g c =
    let kept : IsKeptAs c.args.now c.get-stood.result.now c.args.change = c.requires.kept c.get-stood.result.now c.get-stood.ensures in
    subst (λ (n : ℕ). IsWithin n c.args.change) (sym c.open_at.ensures.moment) kept.within

pub change-requires-clause-fitting : goal.change-requires-clause-fitting
change-requires-clause-fitting g c =
    let kept : IsKeptAs c.args.now c.get-stood.result.now c.args.change = c.requires.kept c.get-stood.result.now c.get-stood.ensures in
    let room : most_timers c.args.change ≤ c.open_at.new.contexts.room = omega (arith, c.requires.room, c.open_at.ensures.room) in
    c.fits_once_it_came.ensures.fitting c.args.contexts.now.reached c.args.now c.open_at.new.contexts.reached c.open_at.new.contexts.room c.args.change
    c.open_at.ensures.reached kept.fits kept.within room

pub returns-clause-queue : goal.returns-clause-queue
returns-clause-queue g c =
    let r : OpenRequest = c.get-stood.result.now in
    let kept : IsKeptAs c.args.now r c.args.change = c.requires.kept r c.get-stood.ensures in
    let after : c.change.new.self.requests ≡ replaced c.args.change (with_one_more c.args.opened c.args.contexts.now.requests) =
    c.change.ensures.requests ∙ ap (λ (rs : List OpenRequest). replaced c.args.change rs) c.open_at.ensures.requests in
    subst (λ (rs : List OpenRequest). KeepsOrder c.args.contexts.now.pending c.change.new.self.pending rs) (sym after)
    (c.orders_join.ensures c.args.contexts.now.pending c.open_at.new.contexts.pending c.change.new.self.pending c.args.contexts.now.requests c.args.opened c.args.change r
    c.args.place c.get-stood.ensures kept.number
    c.stand_in_order.ensures.timers
    (subst (λ (rs : List OpenRequest). IsQueueOf c.open_at.new.contexts.pending rs) c.open_at.ensures.requests c.stand_in_order-2.ensures.timers)
    (subst (λ (rs : List OpenRequest). IsQueueOf c.change.new.self.pending rs) after c.stand_in_order-3.ensures.timers)
    (subst (λ (rs : List OpenRequest). KeepsOrder c.args.contexts.now.pending c.open_at.new.contexts.pending rs) c.open_at.ensures.requests c.open_at.ensures.queue)
    (subst (λ (rs : List OpenRequest). KeepsOrder c.open_at.new.contexts.pending c.change.new.self.pending rs) after c.change.ensures.queue))
