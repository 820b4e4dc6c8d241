use Rattle.std.proofs.Common.{◌≡◌, ◌≤◌, ◌+◌, ◌-◌, drop, length}
use Rattle.std.specs.List.{prefix_len}
use Rattle.sip_uri.specs.Host.{is_host_byte}
use Rattle.sip_uri.proofs.host.name_length.Given as goal

-- each byte so far may stand in a host name
abbrev pub invariant-loop-at : goal.invariant-loop-at
invariant-loop-at l = (l.at + prefix_len is_host_byte (drop l.at l.text) ≡ prefix_len is_host_byte l.text) × (l.at ≤ length l.text)

abbrev pub decreases-loop-at : goal.decreases-loop-at
decreases-loop-at l = length l.text - l.at
