-- The moments of the timers that an open request names.
use Rattle.std.specs.Prelude.{ℕ, ◌<◌, ◌+◌, ◌*◌, List, length}
use Rattle.std.specs.List.{AllByRecursion}
use Rattle.sip_timers.specs.declared.letter.Letter.{Letter}
use Rattle.model_transactions.specs.state.declared.branch.Branch.{Branch}
use Rattle.model_transactions.specs.state.declared.open_request.OpenRequest.{OpenRequest}
use Rattle.model_transactions.specs.Ties.{branch_timers, side_timers}

-- these timers are due before a moment
abbrev pub AreBefore : ℕ → List (Letter × ℕ) → Type 0
AreBefore bound ts = AllByRecursion (λ (t : Letter × ℕ). t.1 < bound) ts

-- every timer that an open request names is due before a moment
pub record IsNear (bound : ℕ) (r : OpenRequest) : Type 0 where
  pub side : AreBefore bound (side_timers r)
  pub branches : AllByRecursion (λ (b : Branch). AreBefore bound (branch_timers r b)) r.branches

-- so many timers at most does an open request name
abbrev pub most_timers : OpenRequest → ℕ
most_timers r = 3 * length r.branches + 3
