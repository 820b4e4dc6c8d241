use Rattle.std.proofs.Common.{◌≡◌, ◌-◌, take, drop, length}
use Rattle.sip_text.specs.declared.cuts.Quoting.TheVariants.{Outside}
use Rattle.sip_text.specs.Splits.{in_front}
use Rattle.sip_text.specs.Cuts.{split_from, split_outside}
use Rattle.sip_text.proofs.cuts.split_outside.Given as goal

-- what was passed, in front of what the rest gives, is the answer
abbrev pub invariant-loop-at : goal.invariant-loop-at
invariant-loop-at l = in_front (take l.at l.bytes) (split_from Outside l.mark (drop l.at l.bytes)) ≡ split_outside l.mark l.bytes

abbrev pub decreases-loop-at : goal.decreases-loop-at
decreases-loop-at l = length l.bytes - l.at
