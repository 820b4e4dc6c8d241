use Rattle.std.proofs.Common.{◌≡◌, ◌++◌, take}
use Rattle.std.specs.List.{flat_map}
use Rattle.sipd_matrix.specs.Text.{member_text}
use Rattle.sipd_matrix.proofs.text.put_members.Given as goal

-- the addresses so far are written
abbrev pub invariant-loop-column : goal.invariant-loop-column
invariant-loop-column l = l.text ≡ l.fn.text ++ flat_map (member_text l.config l.class) (take l.column-index l.columns)
