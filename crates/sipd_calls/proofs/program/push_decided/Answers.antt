use Rattle.std.proofs.Common.{◌++◌, ◌∙◌, ap, codes}
use Rattle.std.proofs.lemmas.Result.{on_ok_weaker}
use Rattle.sipd_calls.specs.Notation.{Said, further_text}
use Rattle.sipd_calls.specs.Program.{called_member, result_member, words_said}
use Rattle.sipd_calls.specs.Words.{ruled_text}
use Rattle.sipd_calls.proofs.Parts.{three_parts}
use Rattle.sipd_calls.proofs.program.push_decided.Goals as goal

pub returns : goal.returns
returns c =
    let call = c.args.call.now in
    let notation = c.args.notation in
    on_ok_weaker c.push_came.result
    (λ h. three_parts c.args.out.now (called_member notation call)
    (further_text notation (codes "rule") (words_said (ruled_text call.decision.outcome call.decision.minute))) (result_member notation call)
    c.push_called.new.out c.push_further.new.out c.push_came.new.out c.in_ok-push_called.ensures
    (c.in_ok-push_further.ensures
    ∙ ap (λ (said : Said). c.push_called.new.out ++ further_text notation (codes "rule") said) (c.words_of.ensures ∙ ap words_said c.in_ok-rule.ensures)) h)
    c.push_came.ensures
