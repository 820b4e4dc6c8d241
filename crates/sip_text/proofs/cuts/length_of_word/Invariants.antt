use Rattle.std.proofs.Common.{◌≡◌, ◌+◌, drop}
use Rattle.std.specs.List.{prefix_len}
use Rattle.sip_text.specs.Cuts.{is_full}
use Rattle.sip_text.proofs.cuts.length_of_word.Given as goal

-- the bytes so far are all of that kind
abbrev pub invariant-loop-at : goal.invariant-loop-at
invariant-loop-at l = l.at + prefix_len is_full (drop l.at l.bytes) ≡ prefix_len is_full l.bytes
