use Rattle.std.proofs.Common.{◌≡◌, Some, slice_get, sym, subst, rules}
use Rattle.sip_fork.specs.context.Inputs.{outcome}
use Rattle.sip_proxy.specs.Proxy.{Proxy}
use Rattle.sip_proxy.proofs.Drafts.{drafted_is}
use Rattle.sip_proxy.proofs.proxy.Proxy.draft_input.Goals as goal

pub returns : goal.returns
returns g c = λ r at.
    let seen : slice_get c.self.inside.contexts.requests c.args.place ≡ Some r = subst (λ (p : Proxy). slice_get p.state.requests c.args.place ≡ Some r)
    (sym c.self.view_is) at in
    drafted_is c.args.configured.now.hops.now.addresses c.args.configured.now.server.now c.args.now r c.args.input (record {
      change = c.in_ok-change.field-0.change;
      drafted = c.in_ok-drafted.drafted;
    }) c.in_ok-change.field-0.sent
    (c.in_ok-change.ensures.outcome r seen)
    (c.in_ok-change.ensures.kept r seen)
    (search rules)
