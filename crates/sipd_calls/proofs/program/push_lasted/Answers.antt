use Rattle.std.proofs.Common.{◌++◌, ◌∙◌, ap, codes}
use Rattle.std.proofs.lemmas.Result.{on_ok_weaker}
use Rattle.sip_days.specs.Results.{ring_of, talk_of}
use Rattle.sipd_calls.specs.Notation.{Said, further_text}
use Rattle.sipd_calls.specs.Program.{ended_said, number_said, words_said}
use Rattle.sipd_calls.proofs.Parts.{four_parts}
use Rattle.sipd_calls.proofs.program.push_lasted.Goals as goal

pub returns : goal.returns
returns c =
    let call = c.args.call.now in
    let notation = c.args.notation in
    on_ok_weaker c.push_further-4.result
    (λ h. four_parts c.args.out.now (further_text notation (codes "ring_ms") (number_said (ring_of call)))
    (further_text notation (codes "talk_ms") (number_said (talk_of call))) (further_text notation (codes "ended_by") (ended_said call.ending))
    (further_text notation (codes "call_id") (words_said call.call_id)) c.push_further.new.out c.push_further-2.new.out c.push_further-3.new.out
    c.push_further-4.new.out
    (c.in_ok-push_further.ensures
    ∙ ap (λ (said : Said). c.args.out.now ++ further_text notation (codes "ring_ms") said) (c.number_of.ensures ∙ ap number_said c.ring.ensures))
    (c.in_ok-push_further-2.ensures
    ∙ ap (λ (said : Said). c.push_further.new.out ++ further_text notation (codes "talk_ms") said) (c.number_of-2.ensures ∙ ap number_said c.talk.ensures))
    (c.in_ok-push_further-3.ensures
    ∙ ap (λ (said : Said). c.push_further-2.new.out ++ further_text notation (codes "ended_by") said) c.ended_of.ensures)
    (h ∙ ap (λ (said : Said). c.push_further-3.new.out ++ further_text notation (codes "call_id") said) c.words_of.ensures)) c.push_further-4.ensures
