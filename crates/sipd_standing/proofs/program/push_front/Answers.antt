use Rattle.std.proofs.Common.{codes}
use Rattle.std.proofs.lemmas.Result.{on_ok_weaker}
use Rattle.sipd_calls.specs.Notation.{Number, first_text}
use Rattle.sipd_calls.proofs.Parts.{three_parts}
use Rattle.sipd_standing.specs.Program.{sides_text, since_member}
use Rattle.sipd_standing.proofs.program.push_front.Goals as goal

pub returns : goal.returns
returns c =
    let call = c.args.call.now in
    let notation = c.args.notation in
    on_ok_weaker c.push_sides.result
    (λ h. three_parts c.args.out.now (first_text notation (codes "number") (Number call.decision.number)) (since_member notation call c.args.since)
    (sides_text notation call) c.push_first.new.out c.push_since.new.out c.push_sides.new.out c.in_ok-push_first.ensures c.in_ok-push_since.ensures h)
    c.push_sides.ensures
