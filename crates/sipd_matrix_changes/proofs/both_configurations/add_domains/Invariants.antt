use Rattle.std.proofs.Common.{◌≡◌, ◌++◌, take}
use Rattle.sipd_matrix_changes.proofs.both_configurations.add_domains.Given as goal

-- the domains so far are there
abbrev pub invariant-loop-domain : goal.invariant-loop-domain
invariant-loop-domain l = l.list ≡ l.fn.list ++ take l.domain-index l.domains
