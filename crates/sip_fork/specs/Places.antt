-- Open requests and their branches by their places.
use Rattle.std.specs.Prelude.{ℕ, List, Option, option_map, slice_get}
use Rattle.std.specs.Option.{option_and_then}
use Rattle.sip_dialog_updates.specs.state.declared.branch.Branch.{Branch}
use Rattle.sip_dialog_updates.specs.state.declared.open_request.OpenRequest.{OpenRequest}

-- the open request at a place, with its branch at a place
abbrev pub branch_at : List OpenRequest → ℕ × ℕ → Option (OpenRequest × Branch)
branch_at requests places = option_and_then (λ (r : OpenRequest). option_map (λ (b : Branch). (r, b)) (slice_get r.branches places.1))
    (slice_get requests places.0)
