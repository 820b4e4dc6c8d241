use Rattle.std.proofs.Common.{◌≡◌, ◌++◌, take}
use Rattle.std.specs.List.{flat_map}
use Rattle.sip_matrix.specs.Table.{columns_of_domain}
use Rattle.sip_matrix.proofs.listing.add_domains.Given as goal

-- the columns of the domains so far are there
abbrev pub invariant-loop-domain : goal.invariant-loop-domain
invariant-loop-domain l = l.columns ≡ l.fn.columns ++ flat_map (columns_of_domain l.users) (take l.domain-index l.domains)
