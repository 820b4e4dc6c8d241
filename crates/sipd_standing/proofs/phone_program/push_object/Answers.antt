use Rattle.std.proofs.lemmas.Result.{on_ok_weaker}
use Rattle.sipd_calls.proofs.Parts.{two_parts}
use Rattle.sipd_standing.specs.PhoneProgram.{back_text, front_text}
use Rattle.sipd_standing.proofs.phone_program.push_object.Goals as goal

pub returns : goal.returns
returns c =
    on_ok_weaker c.push_back.result
    (λ h. two_parts c.args.out.now (front_text c.args.notation c.args.at c.args.row.now c.args.binding.now) (back_text c.args.notation c.args.row.now)
    c.push_front.new.out c.push_back.new.out c.in_ok-push_front.ensures h) c.push_back.ensures
