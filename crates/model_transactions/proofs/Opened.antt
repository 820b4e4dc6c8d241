-- A request that is opened is near the moment at which it comes.
use Rattle.std.proofs.Common.{ℕ, ◌+◌, Bool, true, false, cond, List, [], ◌∷◌, is_some, None}
use Rattle.std.specs.List.{AllByRecursion}
use Rattle.sip_uri.specs.declared.addr.Addr.{Addr}
use Rattle.sip_message_form.specs.declared.message.Message.{Message}
use Rattle.sip_targets.specs.declared.target.Target.{Target}
use Rattle.sip_context_branches.specs.state.Arrival.{Arrival}
use Rattle.sip_context_branches.specs.state.declared.branch.Branch.{Branch}
use Rattle.sip_context_branches.specs.state.declared.branch.Phase.TheVariants.{Unheard, Ended}
use Rattle.sip_context_branches.specs.state.declared.open_request.OpenRequest.{OpenRequest}
use Rattle.sip_context_branches.specs.state.declared.open_request.Upward.{Upward}
use Rattle.sip_context_branches.specs.state.declared.server.Server.{Server}
use Rattle.sip_context_branches.specs.context_model.Branches.{answered}
use Rattle.sip_context_branches.specs.context_model.Opening.{closing, branch_to, branches_from, dialog_branch, forking, trying, tried, opening}
use Rattle.model_transactions.specs.Near.{IsPhaseNear, IsBranchWithin, IsWithin}
use Rattle.model_transactions.proofs.Kept.{at_500, at_32000, call_at, answered_kept, settled_kept}

pub closing_within : (a : Arrival) (m : Message) (status : ℕ) (text : List ℕ) → IsWithin a.now (closing a m status text)
closing_within a m status text = record { side_near = at_32000 a.now; again_near = at_500 a.now; branches_within = tt }

-- a branch to a target
target_within : (now number : ℕ) (t : Target) → IsBranchWithin now (branch_to now number t)
target_within now number t = record { phase_near = by_test (is_some t.address); again_near = at_500 now } where
  by_test : (u : Bool) → IsPhaseNear now (cond u (Unheard (now + 32000)) Ended)
  by_test true = call_at now
  by_test false = tt

pub targets_within : (now number : ℕ) (targets : List Target) → AllByRecursion (IsBranchWithin now) (branches_from now number targets)
targets_within now number [] = tt
targets_within now number (t ∷ ts) = (target_within now number t, targets_within now (number + 1) ts)

pub dialog_within : (server : Server) (now : ℕ) (m : Message) (address : Addr) → IsBranchWithin now (dialog_branch server now m address)
dialog_within server now m address = record { phase_near = call_at now; again_near = at_500 now }

pub forking_within : (a : Arrival) (m : Message) (branches : List Branch) → AllByRecursion (IsBranchWithin a.now) branches → IsWithin a.now (forking a m branches)
forking_within a m branches w = record { side_near = tt; again_near = at_500 a.now; branches_within = w }

tried_within : (now : ℕ) (us : List Upward) (r : OpenRequest) → IsWithin now r → IsWithin now (tried now us r)
tried_within now [] r w = w
tried_within now (u ∷ us) r w = tried_within now us (answered now u r) (answered_kept now u r w)

pub opening_within : (server : Server) (now : ℕ) (r : OpenRequest) → IsWithin now r → IsWithin now (opening server now r).request
opening_within server now r w = settled_kept now server [] None (tried now (trying server r) r) (tried_within now (trying server r) r w)
