use Rattle.std.proofs.Common.{◌∙◌, sym}
use Rattle.sip_verdict.proofs.Deciding.{outside}
use Rattle.sip_verdict.proofs.arriving.core_verdict.Goals as goal

pub returns-after-goes_out-clause-verdict : goal.returns-after-goes_out-clause-verdict
returns-after-goes_out-clause-verdict g c =
    outside c.args.judge.now c.args.locations.now.rows c.args.known.now.nonces.now c.args.known.now.dialogs.now.dialogs c.args.request.now.moment
    c.args.request.now.message.now c.args.request.now.method.now c.args.request.now.core.now c.in-Ok.judged (sym c.is_outside.ensures ∙ c.if-is_outside.true)
    c.in-Ok.ensures.minute c.in-Ok.ensures.outcome
