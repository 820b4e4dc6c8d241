use Rattle.std.proofs.Common.{◌≡◌, ◌++◌, take}
use Rattle.std.specs.List.{flat_map}
use Rattle.sipd_matrix_changes.specs.Lines.{member_text}
use Rattle.sipd_matrix_changes.proofs.lines.put_members.Given as goal

-- the addresses so far are written
abbrev pub invariant-loop-column : goal.invariant-loop-column
invariant-loop-column l = l.text ≡ l.fn.text ++ flat_map (member_text l.old l.new l.class) (take l.column-index l.columns)
