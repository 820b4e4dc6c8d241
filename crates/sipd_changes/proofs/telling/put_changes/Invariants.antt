use Rattle.std.proofs.Common.{◌≡◌, ◌++◌, take}
use Rattle.std.specs.List.{flat_map}
use Rattle.sipd_changes.specs.Telling.{change_text}
use Rattle.sipd_changes.proofs.telling.put_changes.Given as goal

-- the lines so far are written
abbrev pub invariant-loop-change : goal.invariant-loop-change
invariant-loop-change l = l.text ≡ l.fn.text ++ flat_map change_text (take l.change-index l.changes)
