use Rattle.std.proofs.Common.{◌≡◌, drop}
use Rattle.sip_matrix.specs.Kinds.{kinds_of, with_kinds}
use Rattle.sipd_matrix_changes.specs.Both.{are_asked_alike_by_both}
use Rattle.sipd_matrix_changes.proofs.table.classes_among.Given as goal

-- the classes so far, and those of the other columns, are those of all
abbrev pub invariant-loop-column : goal.invariant-loop-column
invariant-loop-column l = with_kinds (are_asked_alike_by_both l.old l.new) l.classes (drop l.column-index l.all) ≡ kinds_of (are_asked_alike_by_both l.old l.new) l.all
