use Rattle.std.proofs.Common.{◌≡◌, ◌++◌, take}
use Rattle.std.specs.List.{flat_map}
use Rattle.sip_context.specs.Base.{sends}
use Rattle.sip_context.proofs.target_packets.put_each.Given as goal

-- the packets so far
abbrev pub invariant-loop-branch : goal.invariant-loop-branch
invariant-loop-branch l = l.out ≡ l.fn.out ++ flat_map (sends l.server l.again l.request) (take l.branch-index l.branches)
