use Rattle.std.proofs.Common.{◌≡◌, ◌++◌, find, take}
use Rattle.std.specs.List.{flat_map}
use Rattle.sipd_changes.specs.Changes.{is_row, row_now}
use Rattle.sipd_changes.proofs.places.add_rows_now.Given as goal

-- the hosts so far are told
abbrev pub invariant-loop-row : goal.invariant-loop-row
invariant-loop-row l = l.changes ≡ l.fn.changes ++ flat_map (λ row. row_now row (find (is_row row.host row.port) l.old)) (take l.row-index l.new)
