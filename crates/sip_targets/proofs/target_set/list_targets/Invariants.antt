use Rattle.std.proofs.Common.{◌≡◌, ◌++◌, length, map}
use Rattle.sip_targets.specs.Target.{target_for}
use Rattle.sip_targets.proofs.target_set.list_targets.Given as goal

-- the targets so far, in front of those of the bindings that are left
abbrev pub invariant-loop-binding : goal.invariant-loop-binding
invariant-loop-binding l =
    l.targets ++ map (target_for l.hops.addresses) (map (λ binding. binding.uri) l.left) ≡ map (target_for l.hops.addresses) (map (λ binding. binding.uri) l.fn.bindings)

abbrev pub decreases-loop-binding : goal.decreases-loop-binding
decreases-loop-binding l = length l.left
