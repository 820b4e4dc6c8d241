use Rattle.std.proofs.Common.{◌≡◌, drop}
use Rattle.sip_matrix.specs.Asker.{names_of}
use Rattle.sip_matrix.specs.Kinds.{kinds_of, with_kinds}
use Rattle.sipd_matrix_changes.specs.Both.{ask_alike_of_both}
use Rattle.sipd_matrix_changes.proofs.table.rows_among.Given as goal

-- the rows so far, and those of the other users, are those of all
abbrev pub invariant-loop-user : goal.invariant-loop-user
invariant-loop-user l = with_kinds (ask_alike_of_both l.old l.new) l.rows (names_of (drop l.user-index l.users))
    ≡ kinds_of (ask_alike_of_both l.old l.new) (names_of l.users)
