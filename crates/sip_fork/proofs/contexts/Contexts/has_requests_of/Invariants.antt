use Rattle.std.proofs.Common.{◌≡◌, take}
use Rattle.sip_fork.proofs.contexts.Contexts.has_requests_of.Given as goal

-- the requests so far are the same
abbrev pub invariant-loop-place : goal.invariant-loop-place
invariant-loop-place g l = take l.place l.self.requests ≡ take l.place l.other.requests
