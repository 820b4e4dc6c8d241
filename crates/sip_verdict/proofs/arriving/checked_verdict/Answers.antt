use Rattle.std.proofs.Common.{◌≡◌}
use Rattle.sip_header.specs.declared.error.HeaderError.TheVariants as Bad
use Rattle.sip_validate.specs.Refusal.{refusal_of}
use Rattle.sip_verdict.proofs.Checking.{unread, core_unread}
use Rattle.sip_verdict.proofs.Deciding.{by_unread}
use Rattle.sip_verdict.proofs.arriving.checked_verdict.Goals as goal

pub returns-clause-verdict : goal.returns-clause-verdict
returns-clause-verdict g c =
    by_unread c.unread_verdict.result c.args.judge.now c.args.locations.now.rows c.args.known.now.nonces.now c.args.known.now.dialogs.now.dialogs c.args.known.now.is_full
    c.args.request.now.moment c.args.request.now.message.now c.args.request.now.method.now
    (refusal_of c.args.judge.now.config.own c.args.request.now.message.now c.args.request.now.short) (c.in-Err.error ≡ Bad.NoMemory → ⊥)
    (λ not. unread c.args.judge.now.config.own c.args.request.now.message.now c.args.request.now.short c.args.request.now.method.now c.requires.request
    (c.unread_is_refused.ensures.bad c.args.judge.now.config.own c.args.request.now.message.now c.args.request.now.short)
    (core_unread c.core_of-core.result c.in-Err.error c.args.request.now.message.now c.in-Err.is not c.core_of-core.ensures))
    c.unread_verdict.ensures.memory c.unread_verdict.ensures.verdict
