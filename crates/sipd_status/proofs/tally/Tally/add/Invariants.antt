use Rattle.std.proofs.Common.{◌≡◌, drop}
use Rattle.sipd_status.specs.Tally.{tally_behind}
use Rattle.sipd_status.proofs.tally.Tally.add.Given as goal

-- what the records that are left make of the tally is what all make of it
abbrev pub invariant-loop-record : goal.invariant-loop-record
invariant-loop-record l = tally_behind (drop l.record-index l.records) l.self ≡ tally_behind l.records l.initial.self
