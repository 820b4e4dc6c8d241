use Rattle.std.proofs.Common.{◌++◌, ◌∙◌, ap, codes}
use Rattle.std.proofs.lemmas.Result.{on_ok_weaker}
use Rattle.sipd_calls.specs.Notation.{Number, Said, first_text, further_text}
use Rattle.sipd_calls.specs.Program.{source_member, start_member, words_said}
use Rattle.sipd_calls.proofs.Parts.{four_parts}
use Rattle.sipd_calls.proofs.program.push_asked.Goals as goal

pub returns : goal.returns
returns c =
    let call = c.args.call.now in
    let notation = c.args.notation in
    on_ok_weaker c.push_source.result
    (λ h. four_parts c.args.out.now (first_text notation (codes "number") (Number call.decision.number)) (start_member notation call)
    (further_text notation (codes "caller") (words_said call.decision.who)) (source_member notation call.source) c.push_first.new.out
    c.push_start.new.out c.push_further.new.out c.push_source.new.out c.in_ok-push_first.ensures c.in_ok-push_start.ensures
    (c.in_ok-push_further.ensures ∙ ap (λ (said : Said). c.push_start.new.out ++ further_text notation (codes "caller") said) c.words_of.ensures) h)
    c.push_source.ensures
