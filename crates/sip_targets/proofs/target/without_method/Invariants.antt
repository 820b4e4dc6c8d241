use Rattle.std.proofs.Common.{◌≡◌, take}
use Rattle.std.specs.Prelude.{not, filter}
use Rattle.sip_targets.specs.Target.{is_method}
use Rattle.sip_targets.proofs.target.without_method.Given as goal

abbrev pub invariant-loop-parameter : goal.invariant-loop-parameter
invariant-loop-parameter l = l.kept ≡ filter (λ p. not (is_method p)) (take l.parameter-index l.parameters)
