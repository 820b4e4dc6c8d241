use Rattle.std.proofs.Common.{◌≡◌, ◌+◌, drop}
use Rattle.std.specs.List.{prefix_len}
use Rattle.sip_text.specs.Escapes.{stands_for_itself}
use Rattle.sip_header_credentials.proofs.credentials.plain_length.Given as goal

-- the bytes so far are all of that kind
abbrev pub invariant-loop-at : goal.invariant-loop-at
invariant-loop-at l = l.at + prefix_len stands_for_itself (drop l.at l.bytes) ≡ prefix_len stands_for_itself l.bytes
