-- The numbers of open requests and of their branches are in the ranges of their types.
use Rattle.std.proofs.Common.{◌≡◌, ℕ, ◌≤◌, ◌<◌, ◌^◌, List, [], ◌∷◌, arith}
use Rattle.std.specs.List.{AllByRecursion}
use Rattle.model_steps.specs.state.declared.server.Server.{Server}
use Rattle.model_steps.specs.state.declared.branch.Branch.{Branch}
use Rattle.model_steps.specs.state.declared.open_request.OpenRequest.{OpenRequest}
use Rattle.model_steps.specs.state.declared.proxy_state.ProxyState.{ProxyState}
use Rattle.model_steps.specs.state.State.{first_state}
use Rattle.model_steps.specs.context_model.FoundBranch.{found_branch}
use Rattle.model_steps.specs.context_model.BranchById.{branch_by_id, HasNumbers}
use Rattle.model_steps.proofs.of_context_model.ByNumbers.{by_numbers}
use Rattle.sip_model.specs.Run.{Link, IsChain}
use Rattle.sip_model.proofs.Places.{all_weaker}
use Rattle.sip_model.proofs.Finals.{IsOfSixteen, IsHonestRequest, AreHonest}
use Rattle.sip_model.proofs.Owing.{honest_of_chain}
use Rattle.sip_model.proofs.Orders.{chain_named}
use Rattle.sip_model.proofs.Rising.{chain_rising}

-- requests whose numbers are below that of the next datagram
all_fit : (server : Server) (history : List Link) (next : ℕ) (requests : List OpenRequest) → next ≤ 2 ^ 64
    → AllByRecursion (λ (r : OpenRequest). r.number < next) requests
    → AreHonest server history requests → AllByRecursion HasNumbers requests
all_fit server history next [] low below honest = tt
all_fit server history next (r ∷ rs) low below honest = (
  record {
    number_fits = omega (arith, below.0, low);
    targets_fit = all_weaker IsOfSixteen (λ (b : Branch). b.number < 2 ^ 32) r.branches (λ b few. omega (arith, few)) honest.0.numbers;
  },
  all_fit server history next rs low below.1 honest.1,
)

-- those of every history, while the number of the next datagram is
pub chain_fits : (server : Server) (first : ℕ) (history : List Link) (last : ProxyState) → IsChain server (first_state first) history last → last.next ≤ 2 ^ 64
    → AllByRecursion HasNumbers last.requests
chain_fits server first history last h low = all_fit server history last.next last.requests low (chain_rising server first history last h).below
    (honest_of_chain server first history last h)

-- so the branch that a response is to is found by its numbers
pub chain_by_numbers : (server : Server) (first : ℕ) (history : List Link) (last : ProxyState) → IsChain server (first_state first) history last → last.next ≤ 2 ^ 64
    → (text method : List ℕ) → found_branch server text method last.requests ≡ branch_by_id server text method last.requests
chain_by_numbers server first history last h low = λ text method.
    by_numbers server text method last.requests (chain_named server first history last h).numbers.differ (chain_fits server first history last h low)

-- no branch of an open request has a number above 16
pub chain_sixteen : (server : Server) (first : ℕ) (history : List Link) (last : ProxyState) → IsChain server (first_state first) history last
    → AllByRecursion (λ (r : OpenRequest). AllByRecursion (λ (b : Branch). b.number ≤ 16) r.branches) last.requests
chain_sixteen server first history last h =
    all_weaker (IsHonestRequest server history) (λ (r : OpenRequest). AllByRecursion (λ (b : Branch). b.number ≤ 16) r.branches) last.requests
    (λ r honest. honest.numbers)
    (honest_of_chain server first history last h)
