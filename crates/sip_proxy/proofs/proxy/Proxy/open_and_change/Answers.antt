use Rattle.std.proofs.Common.{◌≡◌, List, Some, slice_get, subst}
use Rattle.sip_dialog_updates.specs.state.declared.open_request.OpenRequest.{OpenRequest}
use Rattle.sip_proxy.specs.Proxy.{Proxy}
use Rattle.sip_proxy.proofs.proxy.Proxy.open_and_change.Goals as goal

pub open_and_change_at-requires-clause-kept : goal.open_and_change_at-requires-clause-kept
open_and_change_at-requires-clause-kept g c = λ r at.
    c.requires.kept r (subst (λ (p : Proxy). slice_get p.state.requests c.args.place ≡ Some r) c.self.view_is
    (subst (λ (rs : List OpenRequest). slice_get rs c.args.place ≡ Some r) c.reserve_both.ensures.requests at))
