use Rattle.std.proofs.Common.{◌≤◌, slice_get, sym, ap, subst, ◌∙◌}
use Rattle.sip_proxy.specs.Proxy.{Proxy}
use Rattle.sip_proxy.proofs.proxy.Proxy.ends_quietly.Goals as goal

pub returns-clause-kept : goal.returns-clause-kept
returns-clause-kept g c = λ took r at server now input later about is.
    c.ends_quietly.ensures.kept took r (ap (λ (p : Proxy). slice_get p.state.requests c.args.place) c.self.view_is ∙ at) server now input
    (subst (λ (p : Proxy). p.state.moment ≤ now) (sym c.self.view_is) later) about is
