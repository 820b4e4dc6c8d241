use Rattle.std.proofs.Common.{◌∙◌, ℕ, List, Option, Some, None, ap, sym}
use Rattle.sip_validate.specs.Refusal.{refusal_of}
use Rattle.sip_verdict.proofs.Checking.{none_applies, told_applies}
use Rattle.sip_verdict.proofs.Deciding.{by_checks, by_refusal}
use Rattle.sip_verdict.proofs.arriving.read_verdict.Goals as goal

pub returns-in-None-clause-verdict : goal.returns-in-None-clause-verdict
returns-in-None-clause-verdict g c =
    by_checks c.passed_verdict.result c.args.judge.now c.args.locations.now.rows c.args.known.now.nonces.now c.args.known.now.dialogs.now.dialogs c.args.known.now.is_full
    c.args.request.now.moment c.args.request.now.message.now c.args.request.now.method.now
    (refusal_of c.args.judge.now.config.own c.args.request.now.message.now c.args.request.now.short) None
    (none_applies (refusal_of c.args.judge.now.config.own c.args.request.now.message.now c.args.request.now.short) c.in_ok-refused.refused c.in-None.is
    c.in_ok-refused.ensures) c.passed_verdict.ensures.verdict

pub returns-in-Some-Status-clause-verdict : goal.returns-in-Some-Status-clause-verdict
returns-in-Some-Status-clause-verdict g c =
    let pair : List ℕ → Option (ℕ × List ℕ) = λ (items : List ℕ). Some (c.in-Some-Status.status, items) in
    by_refusal c.refusal_verdict.result c.args.judge.now c.args.locations.now.rows c.args.known.now.nonces.now c.args.known.now.dialogs.now.dialogs
    c.args.known.now.is_full c.args.request.now.moment c.args.request.now.message.now c.args.request.now.method.now
    (refusal_of c.args.judge.now.config.own c.args.request.now.message.now c.args.request.now.short) c.in-Some-Status.status c.as_slice.result.now
    (told_applies (refusal_of c.args.judge.now.config.own c.args.request.now.message.now c.args.request.now.short) c.in_ok-refused.refused c.in-Some-Status.field-0
    c.in-Some-Status.status c.in-Some-Status.items c.in-Some-Status.is c.in-Some-Status.field-0-is c.in_ok-refused.ensures ∙ ap pair (sym c.as_slice.ensures))
    c.refusal_verdict.ensures.verdict
