use Rattle.std.proofs.Common.{◌≡◌, ◌+◌, drop}
use Rattle.std.specs.List.{prefix_len}
use Rattle.sip_uri.specs.Host.{is_not}
use Rattle.sip_uri.proofs.host.count_before.Given as goal

-- no byte so far is that one
abbrev pub invariant-loop-at : goal.invariant-loop-at
invariant-loop-at l = l.at + prefix_len (is_not l.mark) (drop l.at l.text) ≡ prefix_len (is_not l.mark) l.text
