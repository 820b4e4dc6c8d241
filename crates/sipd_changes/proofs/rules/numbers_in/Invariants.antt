use Rattle.std.proofs.Common.{◌≡◌, take}
use Rattle.sipd_changes.specs.Changes.{numbers_in}
use Rattle.sipd_changes.proofs.rules.numbers_in.Given as goal

-- the numbers so far are there
abbrev pub invariant-loop-rule : goal.invariant-loop-rule
invariant-loop-rule l = l.numbers ≡ numbers_in l.others (take l.rule-index l.rules)
