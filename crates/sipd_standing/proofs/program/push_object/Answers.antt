use Rattle.std.proofs.lemmas.Result.{on_ok_weaker}
use Rattle.sipd_calls.proofs.Parts.{two_parts}
use Rattle.sipd_standing.specs.Program.{back_text, front_text}
use Rattle.sipd_standing.proofs.program.push_object.Goals as goal

pub returns : goal.returns
returns c =
    let call = c.args.call.now in
    let notation = c.args.notation in
    on_ok_weaker c.push_back.result
    (λ h. two_parts c.args.out.now (front_text notation call c.args.since) (back_text notation c.args.at call c.args.word.now c.args.since)
    c.push_front.new.out c.push_back.new.out c.in_ok-push_front.ensures h) c.push_back.ensures
