use Rattle.std.proofs.Common.{◌≡◌, ◌++◌, take}
use Rattle.std.specs.List.{flat_map}
use Rattle.sipd_matrix.specs.Text.{unused_line}
use Rattle.sipd_matrix.proofs.text.put_all_unused.Given as goal

-- the lines so far are written
abbrev pub invariant-loop-rule : goal.invariant-loop-rule
invariant-loop-rule l = l.text ≡ l.fn.text ++ flat_map (unused_line l.operation l.numbers) (take l.rule-index l.rules)
