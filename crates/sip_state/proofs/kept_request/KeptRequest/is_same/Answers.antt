use Rattle.std.proofs.Common.{refl, sym, ◌∙◌}
use Rattle.sip_state.proofs.Alike.{kept_alike}
use Rattle.sip_state.proofs.kept_request.KeptRequest.is_same.Goals as goal

pub returns : goal.returns
returns c = λ is.
    sym c.self.view_is
    ∙ kept_alike c.self.inside.message c.other.inside.message c.self.inside.via.source c.other.inside.via.source (c.is_same-2.ensures is)
    (c.if-not-is_same.ensures refl)
    ∙ c.other.view_is
