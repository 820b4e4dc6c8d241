use Rattle.std.proofs.Common.{◌≡◌, take}
use Rattle.sip_state.proofs.open_request.same_finals.Given as goal

-- the answers so far are the same
abbrev pub invariant-loop-at : goal.invariant-loop-at
invariant-loop-at l = take l.at l.left ≡ take l.at l.right
