use Rattle.std.proofs.Common.{◌≡◌, take}
use Rattle.std.specs.Prelude.{filter}
use Rattle.sip_location.specs.Binding.{is_live}
use Rattle.sip_location.specs.AorBindings.{bindings_of}
use Rattle.sip_location.proofs.read_binding.read_live.Given as goal

-- the live ones so far
abbrev pub invariant-loop-row : goal.invariant-loop-row
invariant-loop-row l = l.bindings.items ≡ filter (is_live l.now) (bindings_of l.aor (take l.row-index l.rows))
