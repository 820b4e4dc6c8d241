-- What is known of each open request before a step of a history.
use Rattle.std.proofs.Common.{◌≡◌, ℕ, true, false, List, [], ◌∷◌}
use Rattle.std.specs.List.{AllByRecursion}
use Rattle.model_steps.specs.state.declared.server.Server.{Server}
use Rattle.model_steps.specs.state.declared.open_request.OpenRequest.{OpenRequest}
use Rattle.model_steps.specs.state.State.{first_state, is_answering}
use Rattle.model_steps.specs.context_model.Branches.{all_final}
use Rattle.sip_model.specs.Run.{Link, under, IsChain}
use Rattle.sip_model.proofs.Finals.{AreHonest}
use Rattle.sip_model.proofs.Owing.{honest_of_chain}
use Rattle.sip_model.proofs.Ends.{chain_waits}
use Rattle.sip_model.proofs.GivenUp.{IsGivenUp, given_up_in_step}
use Rattle.sip_model.proofs.MadeFinals.{IsMadeFinal, made_of_chain}
use Rattle.sip_model.proofs.Under.{honest_under}
use Rattle.sip_model.proofs.AllSent.{IsSteady}

-- what is known apart is known together
all_steady : (server : Server) (past history : List Link) (requests : List OpenRequest) → AreHonest server past requests
    → AllByRecursion (λ (r : OpenRequest). is_answering r.side ≡ true → all_final r ≡ false) requests
    → AllByRecursion (λ (r : OpenRequest). AllByRecursion (IsGivenUp server history r.number) r.branches) requests
    → AllByRecursion (λ (r : OpenRequest). AllByRecursion IsMadeFinal r.finals) requests → AllByRecursion (IsSteady server history) requests
all_steady server past history [] honest waits given made = tt
all_steady server past history (r ∷ rs) honest waits given made = (
  record { differ = honest.0.differ; waits = waits.0; of_invite = honest.0.marks; given_up = given.0; made = made.0 },
  all_steady server past history rs honest.1 waits.1 given.1 made.1,
)

-- before a step
pub steady_in_step : (server : Server) (first : ℕ) (link : Link) (history : List Link) → IsChain server (first_state first) history link.before
    → AllByRecursion (IsSteady (under server link.config) (link ∷ history)) link.before.requests
steady_in_step server first link history chain =
    all_steady (under server link.config) history (link ∷ history) link.before.requests
    (honest_under server link.config history link.before.requests (honest_of_chain server first history link.before chain))
    (chain_waits server first history link.before chain)
    (given_up_in_step server first link history chain) (made_of_chain server first history link.before chain)
