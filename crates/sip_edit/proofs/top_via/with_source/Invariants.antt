use Rattle.std.proofs.Common.{◌≡◌, ◌++◌}
use Rattle.std.specs.Prelude.{◌||◌, option_map}
use Rattle.std.specs.List.{flat_map}
use Rattle.sip_text.specs.Cuts.{parts_behind}
use Rattle.sip_edit.specs.TopVia.{edited, asks_for_port}
use Rattle.sip_edit.proofs.Edits.{bytes_left}
use Rattle.sip_edit.proofs.top_via.with_source.Given as goal

-- what was written and what was asked, with the rest of the parameters
abbrev pub invariant-loop-rest : goal.invariant-loop-rest
invariant-loop-rest l = record {
  text : l.out ++ flat_map (edited l.from.port) (parts_behind 59 (option_map (λ x. x.now) l.rest)) ≡ l.initial.out
      ++ flat_map (edited l.from.port) (parts_behind 59 (option_map (λ x. x.now) l.initial.rest));
  asked : (l.asks || asks_for_port (parts_behind 59 (option_map (λ x. x.now) l.rest))) ≡ asks_for_port (parts_behind 59 (option_map (λ x. x.now) l.initial.rest));
}

abbrev pub decreases-loop-rest : goal.decreases-loop-rest
decreases-loop-rest l = bytes_left (option_map (λ x. x.now) l.rest)
