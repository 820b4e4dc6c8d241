use Rattle.std.proofs.Common.{◌≡◌}
use Rattle.sip_header.specs.declared.error.HeaderError.TheVariants as Bad
use Rattle.sip_verdict.proofs.Checking.{unread, core_unread}
use Rattle.sip_verdict.proofs.Deciding.{ack_unread}
use Rattle.sip_verdict.proofs.acknowledging.ack_verdict.Goals as goal

pub returns-clause-verdict : goal.returns-clause-verdict
returns-clause-verdict g c =
    ack_unread c.unread_ack.result c.args.judge.now c.args.dialogs.now.dialogs c.args.request.now.moment c.args.request.now.message.now c.args.request.now.short
    (c.in-Err.error ≡ Bad.NoMemory → ⊥)
    (λ not. unread c.args.judge.now.config.own c.args.request.now.message.now c.args.request.now.short c.args.request.now.method.now c.requires.request
    (c.unread_is_refused.ensures.bad c.args.judge.now.config.own c.args.request.now.message.now c.args.request.now.short)
    (core_unread c.core_of-core.result c.in-Err.error c.args.request.now.message.now c.in-Err.is not c.core_of-core.ensures))
    c.unread_ack.ensures.memory c.unread_ack.ensures.verdict
