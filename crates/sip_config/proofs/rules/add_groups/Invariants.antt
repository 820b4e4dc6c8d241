use Rattle.std.proofs.Common.{take}
use Rattle.sip_config.proofs.Groups.{AreAdded}
use Rattle.sip_config.proofs.rules.add_groups.Given as goal

-- the groups so far are added
abbrev pub invariant-loop-group : goal.invariant-loop-group
invariant-loop-group l = AreAdded l.initial.names l.names (take l.group-index l.groups)
