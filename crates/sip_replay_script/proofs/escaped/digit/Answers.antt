use Rattle.std.proofs.Common.{ℕ, ◌==◌, true, get_or, slice_index, refl, eqb-true}
use Rattle.std.proofs.lemmas.Bool.{agree_below_at}
use Rattle.hex.specs.Hex.{lower_digits}
use Rattle.sip_replay_script.specs.declared.escaped.TheConstants.{DIGITS}
use Rattle.sip_replay_script.proofs.escaped.digit.Goals as goal

pub returns : goal.returns
returns c = eqb-true _ _ (agree_below_at (λ (n : ℕ). get_or DIGITS n 0 == slice_index lower_digits n) (λ n. true) 16 c.args.value refl c.requires)
