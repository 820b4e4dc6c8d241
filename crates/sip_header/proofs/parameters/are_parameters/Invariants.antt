use Rattle.std.proofs.Common.{◌≡◌}
use Rattle.std.specs.Prelude.{option_map, is_some}
use Rattle.sip_text.specs.Cuts.{parts_behind}
use Rattle.sip_header.specs.Parameters.{parameters_in}
use Rattle.sip_header.proofs.Collecting.{length_left}
use Rattle.sip_header.proofs.parameters.are_parameters.Given as goal

-- the rest decides
abbrev pub invariant-loop-behind : goal.invariant-loop-behind
invariant-loop-behind l = is_some (parameters_in (parts_behind 59 (option_map (λ x. x.now) l.behind)))
    ≡ is_some (parameters_in (parts_behind 59 (option_map (λ x. x.now) l.fn.behind)))

abbrev pub decreases-loop-behind : goal.decreases-loop-behind
decreases-loop-behind l = length_left (option_map (λ x. x.now) l.behind)
