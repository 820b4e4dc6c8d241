use Rattle.std.proofs.Common.{◌≡◌, ◌+◌, drop}
use Rattle.std.specs.List.{prefix_len}
use Rattle.sip_text.specs.Lists.{is_blank}
use Rattle.sip_text.proofs.lists.blanks_before.Given as goal

-- the bytes so far are all of that kind
abbrev pub invariant-loop-at : goal.invariant-loop-at
invariant-loop-at l = l.at + prefix_len is_blank (drop l.at l.bytes) ≡ prefix_len is_blank l.bytes
