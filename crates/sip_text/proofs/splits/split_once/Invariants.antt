use Rattle.std.proofs.Common.{◌≡◌, take, drop}
use Rattle.sip_text.specs.Splits.{in_front, split_at_byte}
use Rattle.sip_text.proofs.splits.split_once.Given as goal

-- what was passed, in front of what the rest gives, is the answer
abbrev pub invariant-loop-at : goal.invariant-loop-at
invariant-loop-at l = in_front (take l.at l.bytes) (split_at_byte l.mark (drop l.at l.bytes)) ≡ split_at_byte l.mark l.bytes
