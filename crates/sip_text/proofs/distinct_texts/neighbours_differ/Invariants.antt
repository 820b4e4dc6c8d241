use Rattle.std.proofs.Common.{ℕ, ◌+◌, ◌<◌}
use Rattle.sip_text.proofs.Differing.{DifferAt}
use Rattle.sip_text.proofs.distinct_texts.neighbours_differ.Given as goal

-- the neighbours so far differ
abbrev pub invariant-loop-later : goal.invariant-loop-later
invariant-loop-later l = (k : ℕ) → k + 1 < l.later → DifferAt l.texts k (k + 1)
