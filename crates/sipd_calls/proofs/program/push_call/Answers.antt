use Rattle.std.proofs.lemmas.Result.{on_ok_weaker}
use Rattle.sipd_calls.specs.Notation.{end_text}
use Rattle.sipd_calls.specs.Program.{asked_text, came_text, lasted_text}
use Rattle.sipd_calls.proofs.Parts.{four_parts}
use Rattle.sipd_calls.proofs.program.push_call.Goals as goal

pub returns : goal.returns
returns c =
    let call = c.args.call.now in
    let notation = c.args.notation in
    on_ok_weaker c.push_end.result
    (λ h. four_parts c.args.out.now (asked_text notation call) (came_text notation call) (lasted_text notation call) (end_text notation)
    c.push_asked.new.out c.push_decided.new.out c.push_lasted.new.out c.push_end.new.out c.in_ok-push_asked.ensures c.in_ok-push_decided.ensures
    c.in_ok-push_lasted.ensures h) c.push_end.ensures
