use Rattle.std.proofs.Common.{◌≡◌, drop}
use Rattle.std.specs.Prelude.{fold}
use Rattle.sipd_page_sections.specs.Notes.{with_lease}
use Rattle.sipd_page_sections.proofs.notes.put_leases.Given as goal

-- what the records that are left make of the leases is what all make
abbrev pub invariant-loop-decision : goal.invariant-loop-decision
invariant-loop-decision l = fold (with_lease l.out) l.leases (drop l.decision-index l.records) ≡ fold (with_lease l.out) l.fn.leases l.records
