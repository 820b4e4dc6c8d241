-- The branch that a text names, found by the numbers in it.
use Rattle.std.specs.Prelude.{ℕ, ◌<◌, ◌^◌, Bool, ◌&&◌, ◌==◌, if◌then◌else◌, List, find, codes, Option, option_map}
use Rattle.std.specs.Option.{option_and_then}
use Rattle.std.specs.List.{AllByRecursion}
use Rattle.std.specs.Str.{bytes_eq}
use Rattle.sip_state.specs.edits.BranchId.{branch_id_of}
use Rattle.sip_state.specs.declared.server.Server.{Server}
use Rattle.sip_state.specs.declared.open_request.OpenRequest.{OpenRequest}
use Rattle.sip_state.specs.declared.branch.Branch.{Branch}

-- whether a request came in the datagram of this number
abbrev pub is_of_datagram : ℕ → OpenRequest → Bool
is_of_datagram number r = r.number == number

-- whether a branch of a request is to the target of this number and was sent with this method (RFC 3261 17.1.3)
abbrev pub is_sent : ℕ → List ℕ → OpenRequest → Branch → Bool
is_sent target method r b = b.number == target && bytes_eq (if b.is_cancel then codes "CANCEL" else r.key.method) method

-- the first such branch of a request
abbrev pub sent_in : ℕ → List ℕ → OpenRequest → Option (OpenRequest × Branch)
sent_in target method r = option_map (λ b. (r, b)) (find (is_sent target method r) r.branches)

-- the branch that a text names: of the request that came in the datagram of its first number, the branch to the target of its second
-- (RFC 3261 17.1.3)
abbrev pub branch_by_id : Server → List ℕ → List ℕ → List OpenRequest → Option (OpenRequest × Branch)
branch_by_id server text method requests =
    option_and_then (λ id. option_and_then (sent_in id.target method) (find (is_of_datagram id.number) requests)) (branch_id_of server.word text)

-- the numbers of an open request and of its branches are in the ranges of their types
pub record HasNumbers (r : OpenRequest) : Type 0 where
  pub number_fits : r.number < 2 ^ 64
  pub targets_fit : AllByRecursion (λ (b : Branch). b.number < 2 ^ 32) r.branches
