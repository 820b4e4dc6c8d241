use Rattle.std.proofs.Common.{◌≡◌, length}
use Rattle.std.specs.Prelude.{filter}
use Rattle.sip_location.specs.Binding.{is_live}
use Rattle.sip_location.proofs.live.LiveBindings.next.Given as goal

-- the live ones are among those that are left
abbrev pub invariant-loop-binding : goal.invariant-loop-binding
invariant-loop-binding l = l.fn.self ≡ filter (is_live l.self-inside.now) l.self-inside.left

abbrev pub decreases-loop-binding : goal.decreases-loop-binding
decreases-loop-binding l = length l.self-inside.left
