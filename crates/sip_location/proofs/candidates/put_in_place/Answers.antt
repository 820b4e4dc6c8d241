use Rattle.std.proofs.Common.{◌≡◌, arith, ◌∙◌, ap}
use Rattle.sip_uri.specs.declared.uri.Uri.{Uri}
use Rattle.sip_location.proofs.Places.{place, put_last}
use Rattle.sip_location.proofs.candidates.put_in_place.Goals as goal

pub returns : goal.returns
returns c =
    let at : c.place_of-place.result ≡ place c.args.binding.uri c.args.list.now.items = c.place_of-place.ensures
    ∙ ap (λ (u : Uri). place u c.deref.result.now) c.uri.ensures ∙ ap (place c.args.binding.uri) c.deref.ensures.value in
    rw c.in_ok-push.ensures.items (put_last c.args.binding c.args.list.now.items (omega (arith, at)))
