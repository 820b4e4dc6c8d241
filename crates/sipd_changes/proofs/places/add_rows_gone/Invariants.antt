use Rattle.std.proofs.Common.{◌≡◌, ◌++◌, take}
use Rattle.std.specs.List.{flat_map, list_any}
use Rattle.sipd_changes.specs.declared.difference.Move.TheVariants.{Goes}
use Rattle.sipd_changes.specs.declared.difference.Difference.TheVariants.{Host}
use Rattle.sipd_changes.specs.Changes.{unless, is_row}
use Rattle.sipd_changes.proofs.places.add_rows_gone.Given as goal

-- the hosts so far are told
abbrev pub invariant-loop-row : goal.invariant-loop-row
invariant-loop-row l =
    l.changes ≡ l.fn.changes
    ++ flat_map (λ row. unless (list_any (is_row row.host row.port) l.new) (Host row.host row.port (Goes row.address))) (take l.row-index l.old)
