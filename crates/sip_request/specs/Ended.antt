-- Open requests of which a transaction ended.
use Rattle.std.specs.Prelude.{ℕ, zero, suc, List, [], ◌∷◌}
use Rattle.model_transactions.specs.state.declared.branch.Branch.{Branch}
use Rattle.model_transactions.specs.state.declared.branch.Phase.TheVariants.{Ended}
use Rattle.model_transactions.specs.state.declared.open_request.OpenRequest.{OpenRequest}
use Rattle.model_transactions.specs.state.declared.open_request.Side.TheVariants.{Closed}
use Rattle.sip_request.specs.declared.request.Request.{Request}

-- the branches once that at a place ended
abbrev pub ended_at : ℕ → List Branch → List Branch
ended_at place [] = []
ended_at zero (b ∷ bs) = record b { phase = Ended } ∷ bs
ended_at (suc place) (b ∷ bs) = b ∷ ended_at place bs

-- the same of an open request
abbrev pub branch_ended : ℕ → OpenRequest → OpenRequest
branch_ended place r = record r { branches = ended_at place r.branches }

-- an open request whose answering side closed
abbrev pub side_ended : OpenRequest → OpenRequest
side_ended r = record r { side = Closed }

-- a request that has become this one, and whose keys stay
abbrev pub become : OpenRequest → Request → Request
become next r = record r { open_request = next }
