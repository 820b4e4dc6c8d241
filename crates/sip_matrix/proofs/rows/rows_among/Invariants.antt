use Rattle.std.proofs.Common.{◌≡◌, drop}
use Rattle.sip_matrix.specs.Asker.{ask_alike, names_of}
use Rattle.sip_matrix.specs.Kinds.{kinds_of, with_kinds}
use Rattle.sip_matrix.proofs.rows.rows_among.Given as goal

-- the rows so far, and those of the other users, are those of all
abbrev pub invariant-loop-user : goal.invariant-loop-user
invariant-loop-user l = with_kinds (ask_alike l.rules l.users) l.rows (names_of (drop l.user-index l.list)) ≡ kinds_of (ask_alike l.rules l.users) (names_of l.list)
