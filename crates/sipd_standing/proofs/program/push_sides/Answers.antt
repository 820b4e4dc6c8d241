use Rattle.std.proofs.Common.{◌++◌, ◌∙◌, ap, codes}
use Rattle.std.proofs.lemmas.Result.{on_ok_weaker}
use Rattle.sipd_calls.specs.Notation.{Said, further_text}
use Rattle.sipd_calls.specs.Program.{called_member, source_member, words_said}
use Rattle.sipd_calls.specs.Words.{ruled_text}
use Rattle.sipd_calls.proofs.Parts.{four_parts}
use Rattle.sipd_standing.proofs.program.push_sides.Goals as goal

pub returns : goal.returns
returns c =
    let call = c.args.call.now in
    let notation = c.args.notation in
    on_ok_weaker c.push_further-2.result
    (λ h. four_parts c.args.out.now (further_text notation (codes "caller") (words_said call.decision.who)) (source_member notation call.source)
    (called_member notation call) (further_text notation (codes "rule") (words_said (ruled_text call.decision.outcome call.decision.minute)))
    c.push_further.new.out c.push_source.new.out c.push_called.new.out c.push_further-2.new.out
    (c.in_ok-push_further.ensures ∙ ap (λ (said : Said). c.args.out.now ++ further_text notation (codes "caller") said) c.words_of.ensures)
    c.in_ok-push_source.ensures c.in_ok-push_called.ensures
    (h
    ∙ ap (λ (said : Said). c.push_called.new.out ++ further_text notation (codes "rule") said) (c.words_of-2.ensures ∙ ap words_said c.in_ok-rule.ensures)))
    c.push_further-2.ensures
