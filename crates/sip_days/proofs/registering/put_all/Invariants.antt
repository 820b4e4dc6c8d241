use Rattle.std.proofs.Common.{◌≡◌, drop}
use Rattle.sip_days.specs.Phones.{phones_with}
use Rattle.sip_days.proofs.registering.put_all.Given as goal

-- what the records that are left make of the addresses is what all make of them
abbrev pub invariant-loop-decision : goal.invariant-loop-decision
invariant-loop-decision l =
    phones_with l.config.offset l.event (drop l.decision-index l.records) l.rows ≡ phones_with l.config.offset l.event l.records l.fn.rows
