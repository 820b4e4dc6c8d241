use Rattle.std.proofs.Common.{◌≡◌, ◌+◌, ◌≤◌, drop, None}
use Rattle.std.specs.Option.{option_copied}
use Rattle.sipd_changes.specs.Summary.{users_in}
use Rattle.sipd_changes.proofs.summary.users_in.Given as goal

-- the users so far, and those of the rest, are all
abbrev pub invariant-loop-change : goal.invariant-loop-change
invariant-loop-change l =
    (l.count + users_in l.fate (option_copied l.before) (drop l.change-index l.changes) ≡ users_in l.fate None l.changes) × (l.count ≤ l.change-index)
