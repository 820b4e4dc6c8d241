-- Places of open requests.
use Rattle.std.proofs.Common.{◌≡◌, ℕ, zero, suc, ◌<◌, List, [], ◌∷◌, length, slice_get, refl, arith}
use Rattle.sip_dialog_updates.specs.state.State.{with_one_more}
use Rattle.sip_dialog_updates.specs.state.declared.open_request.OpenRequest.{OpenRequest}

-- one more request at the end leaves every other one at its place
pub others : (x : OpenRequest) (requests : List OpenRequest) (place : ℕ) → place < length requests → slice_get (with_one_more x requests) place ≡ slice_get requests place
others x [] place h = absurd (omega (arith, h))
others x (y ∷ ys) zero h = refl
others x (y ∷ ys) (suc place) h = others x ys place (omega (arith, h))
