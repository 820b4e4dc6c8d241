use Rattle.std.proofs.Common.{take}
use Rattle.sip_config.proofs.Groups.{HaveMembers}
use Rattle.sip_config.proofs.rules.groups_of.Given as goal

-- the names are those of the groups of the users so far
abbrev pub invariant-loop-user : goal.invariant-loop-user
invariant-loop-user l = HaveMembers l.names (take l.user-index l.users)
