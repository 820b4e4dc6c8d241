use Rattle.std.proofs.Common.{ℕ, ◌==◌, ◌%◌, true, get_or, slice_index, refl, arith, eqb-true}
use Rattle.std.proofs.lemmas.Bool.{agree_below_at}
use Rattle.hex.specs.Hex.{lower_digits}
use Rattle.sip_text.specs.declared.numbers.TheConstants.{LOW_DIGITS}
use Rattle.sip_text.proofs.numbers.low_digit.Goals as goal

pub returns : goal.returns
returns c = eqb-true _ _ (agree_below_at (λ (b : ℕ). get_or LOW_DIGITS b 0 == slice_index lower_digits (b % 16)) (λ b. true) 256 c.args.byte refl (omega arith))
