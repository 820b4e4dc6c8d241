use Rattle.std.proofs.Common.{◌≡◌, ◌++◌, take}
use Rattle.std.specs.List.{flat_map, list_any}
use Rattle.std.specs.Str.{bytes_eq}
use Rattle.sipd_changes.specs.declared.difference.Difference.TheVariants.{Joins}
use Rattle.sipd_changes.specs.Changes.{unless}
use Rattle.sipd_changes.proofs.users.add_joined.Given as goal

-- the groups so far are told
abbrev pub invariant-loop-group : goal.invariant-loop-group
invariant-loop-group l =
    l.changes ≡ l.fn.changes ++ flat_map (λ group. unless (list_any (bytes_eq group) l.before.groups) (Joins l.name group)) (take l.group-index l.groups)
