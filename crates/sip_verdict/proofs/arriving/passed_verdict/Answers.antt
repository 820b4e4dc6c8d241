use Rattle.sip_verdict.proofs.Deciding.{with_room}
use Rattle.sip_verdict.proofs.arriving.passed_verdict.Goals as goal

pub returns-clause-verdict : goal.returns-clause-verdict
returns-clause-verdict g c =
    with_room c.core_verdict.result c.args.judge.now c.args.locations.now.rows c.args.known.now.nonces.now c.args.known.now.dialogs.now.dialogs c.args.known.now.is_full
    c.args.request.now.moment c.args.request.now.message.now c.args.request.now.method.now c.args.request.now.core.now c.if-known.false c.requires.core
    c.core_verdict.ensures.verdict
