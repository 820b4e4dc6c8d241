use Rattle.std.proofs.Common.{◌≡◌, ◌+◌, drop}
use Rattle.std.specs.List.{prefix_len}
use Rattle.sip_uri.specs.Parts.{is_user_byte}
use Rattle.sip_uri.proofs.user.plain_length.Given as goal

-- each byte so far may stand in a user
abbrev pub invariant-loop-at : goal.invariant-loop-at
invariant-loop-at l = l.at + prefix_len is_user_byte (drop l.at l.text) ≡ prefix_len is_user_byte l.text
