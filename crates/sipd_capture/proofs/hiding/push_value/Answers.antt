use Rattle.std.specs.Prelude.{option_map}
use Rattle.sipd_capture.proofs.Lines.{first_on}
use Rattle.sipd_capture.proofs.hiding.push_value.Goals as goal

pub loop-rest-init : goal.loop-rest-init
loop-rest-init c =
    first_on c.args.out.now c.push_piece.new.out c.args.value.now c.first_part.result.0.now (option_map (λ x. x.now) c.first_part.result.1)
    c.in_ok-push_piece.ensures c.first_part.ensures.parts
