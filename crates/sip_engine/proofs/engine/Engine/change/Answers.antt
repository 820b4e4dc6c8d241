use Rattle.std.proofs.Common.{◌∙◌, sym, ap}
use Rattle.sip_verdict.specs.state.declared.server.Server.{Server}
use Rattle.sip_config_change.specs.Frame.{frame_key_of}
use Rattle.sip_engine.proofs.Leading.{none_left, reached_under}
use Rattle.sip_engine.proofs.engine.Engine.change.Goals as goal

-- src/engine.rt:88:5
pub invariant_of-self : goal.invariant_of-self
invariant_of-self g c =
    reached_under c.histories_are_under_each.ensures c.self.inside.judge c.in_ok-self-inside.field-0 c.args.config c.self.inside.proxy.state
    (c.policy_in_the_old_frame_is_new.ensures c.self.inside.judge.config c.args.config
    (ap (λ (s : Server). frame_key_of s.config c.args.config) (sym c.server-old.ensures) ∙ sym c.frame_key.ensures ∙ none_left c.frame_key.result c.in_default.not-Some))
    (c.in_ok-self-inside.ensures ∙ ap (λ (s : Server). record { config = c.args.config; word = s.word }) c.server-old.ensures)
    c.self.invariant
