use Rattle.std.proofs.Common.{ℕ, ◌-◌, ◌++◌, ◌∙◌, ap, codes}
use Rattle.std.proofs.lemmas.Result.{on_ok_weaker}
use Rattle.sipd_calls.specs.Notation.{Number, Said, Words, end_text, further_text}
use Rattle.sipd_calls.specs.Program.{words_said}
use Rattle.sipd_calls.proofs.Parts.{four_parts}
use Rattle.sipd_standing.proofs.program.push_back.Goals as goal

pub returns : goal.returns
returns c =
    let call = c.args.call.now in
    let notation = c.args.notation in
    on_ok_weaker c.push_end.result
    (λ h. four_parts c.args.out.now (further_text notation (codes "state") (Words c.args.word.now))
    (further_text notation (codes "for_ms") (Number (c.args.at - c.args.since))) (further_text notation (codes "call_id") (words_said call.call_id))
    (end_text notation) c.push_further.new.out c.push_further-2.new.out c.push_further-3.new.out c.push_end.new.out c.in_ok-push_further.ensures
    (c.in_ok-push_further-2.ensures
    ∙ ap (λ (n : ℕ). c.push_further.new.out ++ further_text notation (codes "for_ms") (Number n)) c.saturating_sub.ensures)
    (c.in_ok-push_further-3.ensures ∙ ap (λ (said : Said). c.push_further-2.new.out ++ further_text notation (codes "call_id") said) c.words_of.ensures) h)
    c.push_end.ensures
