use Rattle.std.proofs.Common.{nat_le, length, ap, ◌∙◌}
use Rattle.sip_proxy.specs.Proxy.{Proxy}
use Rattle.sip_proxy.proofs.Verdicts.{whole}
use Rattle.sip_proxy.proofs.proxy.Proxy.verdict.Goals as goal

pub returns-clause-verdict : goal.returns-clause-verdict
returns-clause-verdict g c =
    whole c.args.judge.now c.args.request.now.arrival.now c.args.request.now.message.now c.args.request.now.short c.args.request.now.method.now
    c.args.self.now.state c.self.inside.locations.rows c.self.inside.nonces
    c.self.inside.dialogs.dialogs c.is_full-is_full.result c.new_verdict.result
    (ap (λ (p : Proxy). p.state.bindings) c.self.view_is)
    (ap (λ (p : Proxy). p.state.nonces) c.self.view_is)
    (ap (λ (p : Proxy). p.state.dialogs) c.self.view_is)
    (c.is_full-is_full.ensures ∙ ap (λ (p : Proxy). nat_le 1024 (length p.state.requests)) c.self.view_is)
    c.new_verdict.ensures.verdict
