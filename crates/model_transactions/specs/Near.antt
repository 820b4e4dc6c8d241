-- How far ahead the moments of an open request lie, in milliseconds (RFC 3261 16.6 step 11, 17).
use Rattle.std.specs.Prelude.{ℕ, ◌+◌, ◌≤◌}
use Rattle.std.specs.List.{AllByRecursion}
use Rattle.sip_context_branches.specs.state.declared.branch.Branch.{Branch}
use Rattle.sip_context_branches.specs.state.declared.branch.Phase.{Phase}
use Rattle.sip_context_branches.specs.state.declared.branch.Phase.TheVariants.{Unheard, Heard, Cancelled, Done, Ended}
use Rattle.sip_context_branches.specs.state.declared.open_request.OpenRequest.{OpenRequest}
use Rattle.sip_context_branches.specs.state.declared.open_request.Side.{Side}
use Rattle.sip_context_branches.specs.state.declared.open_request.Side.TheVariants.{Answering, Closing, Acknowledged, Closed}

-- a moment is near another: at most 185,000 ms behind it; Timer C of an INVITE is set so far ahead, and nothing further (RFC 3261 16.6 step 11)
abbrev pub IsNear : ℕ → ℕ → Type 0
IsNear bound due = due ≤ bound + 185000

-- the deadline of a branch is near; while nothing was heard of it, so is the one that a 100 would leave it, Timer C (RFC 3261 16.8)
abbrev pub IsPhaseNear : ℕ → Phase → Type 0
IsPhaseNear bound (Unheard due) = IsNear bound (due + 153000)
IsPhaseNear bound (Heard due) = IsNear bound due
IsPhaseNear bound (Cancelled due) = IsNear bound due
IsPhaseNear bound (Done due status) = IsNear bound due
IsPhaseNear bound Ended = Unit {0}

-- the deadline of the answering side is near
abbrev pub IsSideNear : ℕ → Side → Type 0
IsSideNear bound Answering = Unit {0}
IsSideNear bound (Closing due) = IsNear bound due
IsSideNear bound (Acknowledged due) = IsNear bound due
IsSideNear bound Closed = Unit {0}

-- A branch is within what lies near a bound: its deadline, and the moment at which what it sends goes again.
pub record IsBranchWithin (bound : ℕ) (b : Branch) : Type 0 where
  pub phase_near : IsPhaseNear bound b.phase
  pub again_near : IsNear bound b.again.due

-- An open request is: its answering side, its last answer, and each of its branches.
pub record IsWithin (bound : ℕ) (r : OpenRequest) : Type 0 where
  pub side_near : IsSideNear bound r.side
  pub again_near : IsNear bound r.again.due
  pub branches_within : AllByRecursion (IsBranchWithin bound) r.branches
