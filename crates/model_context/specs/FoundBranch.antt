-- The branch of an open request that a response is to (RFC 3261 17.1.3).
use Rattle.std.specs.Prelude.{ℕ, Bool, ◌&&◌, if◌then◌else◌, List, [], ◌∷◌, find, codes, Option, Some, None}
use Rattle.std.specs.Option.{option_map_or}
use Rattle.std.specs.Str.{bytes_eq}
use Rattle.sip_state.specs.edits.OwnVia.{branch_text}
use Rattle.sip_state.specs.declared.server.Server.{Server}
use Rattle.sip_state.specs.declared.branch.Branch.{Branch}
use Rattle.sip_state.specs.declared.open_request.OpenRequest.{OpenRequest}

-- whether a branch has this text and was sent with this method (RFC 3261 17.1.3)
abbrev pub is_branch : Server → List ℕ → List ℕ → OpenRequest → Branch → Bool
is_branch server text method r b =
    bytes_eq (branch_text server.word r.number b.number) text && bytes_eq (if b.is_cancel then codes "CANCEL" else r.key.method) method

-- the branch of an open request with this text and method
abbrev pub branch_in : Server → List ℕ → List ℕ → OpenRequest → Option Branch
branch_in server text method r = find (is_branch server text method r) r.branches

-- the branch of the first open request that has such a one
abbrev pub found_branch : Server → List ℕ → List ℕ → List OpenRequest → Option (OpenRequest × Branch)
found_branch server text method [] = None
found_branch server text method (r ∷ rs) = option_map_or (λ b. Some (r, b)) (branch_in server text method r) (found_branch server text method rs)
