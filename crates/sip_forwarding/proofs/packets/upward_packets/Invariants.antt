use Rattle.std.proofs.Common.{◌≡◌, ◌++◌, take}
use Rattle.model_steps.specs.Effect as Effects
use Rattle.sip_forwarding.proofs.packets.upward_packets.Given as goal

-- the packets so far
abbrev pub invariant-loop-up : goal.invariant-loop-up
invariant-loop-up l = l.out ≡ l.fn.out ++ Effects.upward_packets l.request (take l.up-index l.upward)
