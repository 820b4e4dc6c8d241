use Rattle.std.proofs.Common.{◌≡◌, true}
use Rattle.std.specs.Prelude.{option_map, is_some}
use Rattle.sip_text.specs.Cuts.{parts_behind}
use Rattle.sip_header.specs.Parameters.{parameters_in, said_in, parameter_of}
use Rattle.sip_header.proofs.Collecting.{length_left}
use Rattle.sip_header.proofs.parameters.first_named.Given as goal

-- the rest is of parameters, and the first of the name among them is the first of all
abbrev pub invariant-loop-behind : goal.invariant-loop-behind
invariant-loop-behind l = record {
  some : is_some (parameters_in (parts_behind 59 (option_map (λ x. x.now) l.behind))) ≡ true;
  named : parameter_of l.name (said_in (parts_behind 59 (option_map (λ x. x.now) l.behind)))
      ≡ parameter_of l.name (said_in (parts_behind 59 (option_map (λ x. x.now) l.fn.behind)));
}

abbrev pub decreases-loop-behind : goal.decreases-loop-behind
decreases-loop-behind l = length_left (option_map (λ x. x.now) l.behind)
