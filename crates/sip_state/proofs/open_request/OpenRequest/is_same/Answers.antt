use Rattle.std.proofs.Common.{refl, sym, ◌∙◌}
use Rattle.sip_state.proofs.Alike.{request_alike}
use Rattle.sip_state.proofs.open_request.OpenRequest.is_same.Goals as goal

pub returns : goal.returns
returns c = λ is.
    let came = c.if-not-came_as.ensures refl in
    let answered = c.if-not-is_answered_as.ensures refl in
    request_alike c.args.self.now c.args.other.now came.2 (sym c.get.ensures ∙ c.is_same.ensures is ∙ c.get-2.ensures) came.0 came.1
    answered.0 answered.1 answered.2
    (sym c.as_slice-finals.ensures ∙ c.if-not-same_finals.ensures refl ∙ c.as_slice.ensures)
    (sym c.as_slice-branches.ensures ∙ c.if-not-same_branches.ensures refl ∙ c.as_slice-2.ensures)
