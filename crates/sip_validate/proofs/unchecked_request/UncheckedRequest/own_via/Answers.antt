use Rattle.std.proofs.Common.{ap, ◌∙◌}
use Rattle.sip_validate.specs.UncheckedRequest.{UncheckedRequest}
use Rattle.sip_validate.proofs.Vias.{own_seen}
use Rattle.sip_validate.proofs.unchecked_request.UncheckedRequest.own_via.Goals as goal

pub returns-clause-own : goal.returns-clause-own
returns-clause-own c =
    own_seen c.one_is_own_via.result c.args.self.now c.self.inside.own.now c.as_slice.result.now (ap (λ (r : UncheckedRequest). r.own) c.self.view_is)
    (c.as_slice.ensures ∙ ap (λ (r : UncheckedRequest). r.fields) c.self.view_is) c.one_is_own_via.ensures.own
