-- A call in which two deadlines stand at one moment, and the order in which they pass shows.
use Rattle.std.specs.Prelude.{ℕ, ◌==◌, not, ◌&&◌, List, [], ◌∷◌, find, codes}
use Rattle.std.specs.Option.{option_map_or}
use Rattle.model_steps.specs.state.declared.branch.Branch.{Branch}
use Rattle.model_steps.specs.state.declared.open_request.OpenRequest.{OpenRequest}
use Rattle.model_steps.specs.state.declared.proxy_state.ProxyState.{ProxyState}
use Rattle.model_steps.specs.context_model.Branches.{overdue}
use Rattle.model_steps.specs.Effect.{Effect, changed, nothing}
use Rattle.model_steps.specs.Examples.{arriving_at, calling, cancel_request, hearing, ringing_from, sample, whole_effect}

-- An INVITE goes to two bindings; in the same millisecond the first rings, and the caller cancels. So that one is sent its CANCEL, and nothing was
-- heard of the other.
abbrev pub cancelled_at_once : ProxyState
cancelled_at_once =
    (whole_effect (hearing (calling (codes "5082" ∷ codes "5083" ∷ [])).state 62000 (ringing_from 1)).state (arriving_at 6 62000 5070) cancel_request).state

-- the deadline of the branch to a target of the first of some open requests passes
abbrev pub ends_of : ProxyState → ℕ → List OpenRequest → Effect
ends_of state target [] = nothing state
ends_of state target (r ∷ rs) =
    option_map_or (λ b. changed sample 94000 state (overdue sample 94000 r b))
    (find (λ (b : Branch). not b.is_cancel && b.number == target) r.branches) (nothing state)

-- it passes at 94,000, 32 seconds later
abbrev pub ends : ProxyState → ℕ → Effect
ends state target = ends_of state target state.requests
