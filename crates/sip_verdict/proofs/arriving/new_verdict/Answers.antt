use Rattle.std.proofs.Common.{◌∙◌, ap, sym}
use Rattle.model_verdict.specs.state.declared.server.Server.{Server}
use Rattle.sip_verdict.proofs.Deciding.{on_ack, on_cancel, on_other}
use Rattle.sip_verdict.proofs.arriving.new_verdict.Goals as goal

pub returns-then-is_ack-clause-verdict : goal.returns-then-is_ack-clause-verdict
returns-then-is_ack-clause-verdict g c =
    on_ack c.ack_verdict.result c.args.judge.now c.args.locations.now.rows c.args.known.now.nonces.now c.args.known.now.dialogs.now.dialogs c.args.known.now.is_full
    c.args.request.now.moment c.args.request.now.message.now c.args.request.now.short c.args.request.now.method.now (sym c.is_ack.ensures ∙ c.if-is_ack.true)
    c.ack_verdict.ensures.verdict

pub returns-then-is_cancel-clause-verdict : goal.returns-then-is_cancel-clause-verdict
returns-then-is_cancel-clause-verdict g c =
    on_cancel c.cancel_verdict.result c.args.judge.now c.args.locations.now.rows c.args.known.now.nonces.now c.args.known.now.dialogs.now.dialogs c.args.known.now.is_full
    c.args.request.now.moment c.args.request.now.message.now c.args.request.now.short c.args.request.now.method.now c.server.result.now.config.own
    (sym c.is_ack.ensures ∙ c.if-is_ack.false) (sym c.is_cancel.ensures ∙ c.if-is_cancel.true) (ap (λ (s : Server). s.config.own) (sym c.server.ensures))
    c.cancel_verdict.ensures.verdict

pub returns-clause-verdict : goal.returns-clause-verdict
returns-clause-verdict g c =
    on_other c.checked_verdict.result c.args.judge.now c.args.locations.now.rows c.args.known.now.nonces.now c.args.known.now.dialogs.now.dialogs c.args.known.now.is_full
    c.args.request.now.moment c.args.request.now.message.now c.args.request.now.short c.args.request.now.method.now (sym c.is_ack.ensures ∙ c.if-is_ack.false)
    (sym c.is_cancel.ensures ∙ c.if-is_cancel.false) c.checked_verdict.ensures.verdict
