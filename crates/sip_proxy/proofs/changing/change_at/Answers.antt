use Rattle.std.proofs.Common.{◌≡◌, ◌≤◌, List, Some, slice_get, subst, arith}
use Rattle.sip_dialog_updates.specs.state.declared.open_request.OpenRequest.{OpenRequest}
use Rattle.sip_fork.specs.Keeping.{IsKeptAs}
use Rattle.sip_fork.specs.request.Near.{most_timers}
use Rattle.sip_proxy.proofs.changing.change_at.Goals as goal

pub change-requires-clause-same : goal.change-requires-clause-same
change-requires-clause-same g c = λ r at.
    let kept : IsKeptAs c.args.now r c.args.change = c.requires.kept r (subst (λ (rs : List OpenRequest). slice_get rs c.args.place ≡ Some r) c.reach.ensures.requests at)
    in
    record { number = kept.number; key = kept.key }

pub change-requires-clause-within : goal.change-requires-clause-within
change-requires-clause-within g c =
    let kept : IsKeptAs c.args.now c.get-stood.result.now c.args.change = c.requires.kept c.get-stood.result.now c.get-stood.ensures in
    c.fits_once_it_came.ensures.within c.args.contexts.now.moment c.args.now c.reach.new.self.moment c.args.change c.reach.ensures.moment kept.within

pub change-requires-clause-fitting : goal.change-requires-clause-fitting
change-requires-clause-fitting g c =
    let kept : IsKeptAs c.args.now c.get-stood.result.now c.args.change = c.requires.kept c.get-stood.result.now c.get-stood.ensures in
    let room : most_timers c.args.change ≤ c.reach.new.self.room = omega (arith, c.requires.room, c.reach.ensures.room) in
    c.fits_once_it_came.ensures.fitting c.args.contexts.now.reached c.args.now c.reach.new.self.reached c.reach.new.self.room c.args.change c.reach.ensures.reached
    kept.fits kept.within room
