use Rattle.std.proofs.Common.{◌≡◌, drop}
use Rattle.std.specs.Prelude.{fold}
use Rattle.sipd_page_sections.specs.Notes.{with_denial}
use Rattle.sipd_page_sections.proofs.notes.count_denials.Given as goal

-- what the records that are left count is what all count
abbrev pub invariant-loop-decision : goal.invariant-loop-decision
invariant-loop-decision l = fold with_denial l.denied (drop l.decision-index l.records) ≡ fold with_denial l.fn.denied l.records
