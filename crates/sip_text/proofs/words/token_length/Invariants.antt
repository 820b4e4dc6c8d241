use Rattle.std.proofs.Common.{◌≡◌, ◌≤◌, ◌+◌, ◌-◌, drop, length}
use Rattle.std.specs.List.{prefix_len}
use Rattle.sip_text.specs.Words.{is_token_byte}
use Rattle.sip_text.proofs.words.token_length.Given as goal

-- the bytes so far are all of that kind
abbrev pub invariant-loop-at : goal.invariant-loop-at
invariant-loop-at l = (l.at + prefix_len is_token_byte (drop l.at l.bytes) ≡ prefix_len is_token_byte l.bytes) × (l.at ≤ length l.bytes)

abbrev pub decreases-loop-at : goal.decreases-loop-at
decreases-loop-at l = length l.bytes - l.at
