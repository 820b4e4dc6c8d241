use Rattle.std.proofs.Common.{◌≡◌, length}
use Rattle.sip_replay_script.specs.Escaped.{unescaped}
use Rattle.sip_replay_script.proofs.Unescaping.{with_front}
use Rattle.sip_replay_script.proofs.unescaped.unescape.Given as goal

-- the bytes so far, and those of the rest
abbrev pub invariant-loop-at : goal.invariant-loop-at
invariant-loop-at l = with_front l.bytes (unescaped l.rest) ≡ unescaped l.fn.text

abbrev pub decreases-loop-at : goal.decreases-loop-at
decreases-loop-at l = length l.rest
