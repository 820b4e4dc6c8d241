use Rattle.std.proofs.Common.{◌≡◌, drop, find}
use Rattle.std.specs.Option.{option_copied}
use Rattle.sip_matrix.specs.Cell.{applies_in}
use Rattle.sip_matrix.proofs.cell.rule_in.Given as goal

-- what is found in the rest is what is found in all
abbrev pub invariant-loop-rule : goal.invariant-loop-rule
invariant-loop-rule l =
    find (applies_in l.users (option_copied l.row) l.operation l.column l.own l.piece) (drop l.rule-index l.rules)
    ≡ find (applies_in l.users (option_copied l.row) l.operation l.column l.own l.piece) l.rules
