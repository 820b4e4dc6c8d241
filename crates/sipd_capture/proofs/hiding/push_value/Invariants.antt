use Rattle.std.proofs.Common.{◌≡◌, ◌++◌}
use Rattle.std.specs.Prelude.{option_map}
use Rattle.std.specs.List.{flat_map}
use Rattle.sip_text.specs.Cuts.{parts_behind}
use Rattle.sipd_capture.specs.Hiding.{value_hidden}
use Rattle.sipd_capture.proofs.Lines.{comma_hidden, left_behind}
use Rattle.sipd_capture.proofs.hiding.push_value.Given as goal

-- what was written, with the rest of the parts hidden, is the whole
abbrev pub invariant-loop-rest : goal.invariant-loop-rest
invariant-loop-rest l = l.out ++ flat_map comma_hidden (parts_behind 44 (option_map (λ x. x.now) l.rest)) ≡ l.fn.out ++ value_hidden l.value

abbrev pub decreases-loop-rest : goal.decreases-loop-rest
decreases-loop-rest l = left_behind (option_map (λ x. x.now) l.rest)
