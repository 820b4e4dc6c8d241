-- The branch that a ticket names, and what its fault does.
use Rattle.std.proofs.Common.{◌≡◌, ◌∙◌, ℕ, Bool, List, [], find, slice_get, position, Contains, Option, Result, Some, None, Ok, Err, IfOk}
use Rattle.std.proofs.Common.{IsSome, is_some, refl, sym, ap, subst, true≢false}
use Rattle.std.specs.Prelude.{option_map, ◌==◌}
use Rattle.std.specs.Option.{option_and_then, unwrap_or}
use Rattle.std.specs.declared.alloc.AllocError.{AllocError}
use Rattle.sip_event.specs.declared.event.StepOut.{StepOut}
use Rattle.sip_proxy.specs.Drafts.{IsDrafted}
use Rattle.sip_proxy.specs.Proxy.{MayCome}
use Rattle.sip_proxy.specs.context_model.Branches.{Change, send_failed}
use Rattle.sip_proxy.specs.declared.drafting.EventDraft.{EventDraft}
use Rattle.sip_event.specs.declared.packet.Ticket.{Ticket}
use Rattle.sip_proxy.specs.fork.Places.{branch_at}
use Rattle.sip_hops.specs.declared.host_address.HostAddress.{HostAddress}
use Rattle.sip_proxy.specs.context.declared.input.Input.{Input}
use Rattle.sip_proxy.specs.context.Inputs.{Outcome, changing, outcome_of}
use Rattle.sip_proxy.specs.forwarding.Forwarding.{AreSent, Teach, change_of}
use Rattle.sip_proxy.specs.steps_model.Effect.{Effect, change_packets, changed, dialogs_after, replaced}
use Rattle.sip_proxy.specs.steps_model.Step.{Does, IsFault, NoneAgainBefore, NoneBefore, failed_branch, failed_request, fault_effect, is_failed, moment_of}
use Rattle.sip_dialog_updates.specs.state.declared.branch.Branch.{Branch}
use Rattle.sip_dialog_updates.specs.state.declared.open_request.OpenRequest.{OpenRequest}
use Rattle.sip_dialog_updates.specs.state.declared.proxy_state.ProxyState.{ProxyState}
use Rattle.sip_dialog_updates.specs.state.declared.server.Server.{Server}
use Rattle.sip_engine_request.specs.Faults.{failed_of, failing}
use Rattle.sip_engine_request.specs.TimeSteps.{IsDraftOf, Leaves}
use Rattle.sip_engine_request.proofs.Drafts.{IsDraftAt}
use Rattle.sip_engine_request.proofs.Lists.{at_place, contained, found_at, found_within}
use Rattle.sip_engine_request.proofs.Steps.{change_done, nothing_done}
use Rattle.sip_engine_request.proofs.Found.{with_branch}

-- ---- places

-- what was read at both places is what is found there
read_is : (requests : List OpenRequest) (place branch : ℕ) (x : OpenRequest) (b : Branch) → slice_get requests place ≡ Some x → slice_get x.branches branch ≡ Some b
    → branch_at requests (place, branch) ≡ Some (x, b)
read_is requests place branch x b here there =
    ap (λ (o : Option OpenRequest). with_branch branch o) here ∙ ap (λ (o : Option Branch). option_map (λ (v : Branch). (x, v)) o) there

found_is : (requests : List OpenRequest) (place branch : ℕ) (x : OpenRequest) (b : Branch) (found : OpenRequest × Branch) → slice_get requests place ≡ Some x
    → slice_get x.branches branch ≡ Some b
    → branch_at requests (place, branch) ≡ Some found → found ≡ (x, b)
found_is requests place branch x b found here there is =
    ap (λ (o : Option (OpenRequest × Branch)). unwrap_or o found) (sym is ∙ read_is requests place branch x b here there)

-- and one of the request's branches
pub branch_there : (requests : List OpenRequest) (place branch : ℕ) (x : OpenRequest) (b : Branch) (r : OpenRequest) → slice_get requests place ≡ Some x
    → slice_get x.branches branch ≡ Some b
    → slice_get requests place ≡ Some r → Contains r.branches b
branch_there requests place branch x b r here there at =
    subst (λ (v : OpenRequest). Contains v.branches b) (ap (λ (o : Option OpenRequest). unwrap_or o x) (sym here ∙ at)) (contained x.branches branch b there)

-- ---- the branch of a ticket

module _ (ticket : Ticket) (requests : List OpenRequest) where
  -- the branch that failed of a request, if there is one
  abbrev failed_in : Option OpenRequest → Option (OpenRequest × Branch)
  failed_in o = option_and_then (λ (r : OpenRequest). option_map (λ (b : Branch). (r, b)) (find (is_failed ticket.branch) r.branches)) o

  pub no_request : find (λ (r : OpenRequest). r.number == ticket.datagram) requests ≡ None → failed_of ticket requests ≡ None
  no_request none = ap failed_in none

  module _ (place : ℕ) (r : OpenRequest) (at : slice_get requests place ≡ Some r) (first : slice_get requests place
      ≡ find (λ (x : OpenRequest). x.number == ticket.datagram) requests) where
    this_request : failed_of ticket requests ≡ option_map (λ (b : Branch). (r, b)) (find (is_failed ticket.branch) r.branches)
    this_request = ap failed_in (sym first ∙ at)

    pub no_branch : position (is_failed ticket.branch) r.branches ≡ None → failed_of ticket requests ≡ None
    no_branch none =
        let nowhere : find (is_failed ticket.branch) r.branches ≡ None = sym (found_at (is_failed ticket.branch) r.branches)
        ∙ ap (option_and_then (slice_get r.branches)) none in
        this_request ∙ ap (λ (o : Option Branch). option_map (λ (b : Branch). (r, b)) o) nowhere

    pub this_branch : (branch : ℕ) → position (is_failed ticket.branch) r.branches ≡ Some branch → branch_at requests (place, branch) ≡ failed_of ticket requests
    this_branch branch found =
        let there : slice_get r.branches branch ≡ find (is_failed ticket.branch) r.branches =
        sym (ap (option_and_then (slice_get r.branches)) found) ∙ found_at (is_failed ticket.branch) r.branches in
        ap (with_branch branch) at ∙ ap (λ (o : Option Branch). option_map (λ (b : Branch). (r, b)) o) there ∙ sym this_request

pub some_branch : (requests : List OpenRequest) (place branch : ℕ) (r : OpenRequest) (test : Branch → Bool) → slice_get requests place ≡ Some r
    → position test r.branches ≡ Some branch
    → IsSome (branch_at requests (place, branch))
some_branch requests place branch r test here found =
    let there : (b : Branch) × (slice_get r.branches branch ≡ Some b) = at_place r.branches branch (found_within test r.branches branch found) in
    subst (λ (o : Option (OpenRequest × Branch)). IsSome o) (sym (read_is requests place branch r there.0 here there.1)) refl

-- ---- the model's effect

module _ (server : Server) (now : ℕ) (ticket : Ticket) (state : ProxyState) where
  by_branch : (r : OpenRequest) (o : Option Branch) → failed_branch server now state r o ≡ failing server now state (option_map (λ (b : Branch). (r, b)) o)
  by_branch r None = refl
  by_branch r (Some b) = refl

  by_request : (o : Option OpenRequest) → failed_request server now ticket state o ≡ failing server now state (failed_in ticket state.requests o)
  by_request None = refl
  by_request (Some r) = by_branch r (find (is_failed ticket.branch) r.branches)

  pub fault_is : fault_effect server now ticket state ≡ failing server now state (failed_of ticket state.requests)
  fault_is = by_request (find (λ (r : OpenRequest). r.number == ticket.datagram) state.requests)

-- ---- drafts

module _ (rows : List HostAddress) (server : Server) (now : ℕ) where
  draft_of : (r : OpenRequest) (input : Input) (change : Change) (draft : EventDraft) → outcome_of server now r input ≡ changing change []
      → IsDrafted rows server now r input draft
      → IsDraftOf rows server now change draft
  draft_of r input change draft is d =
      record {
        request = d.request ∙ ap (λ (o : Outcome). o.request) is;
        sent = subst (λ (o : Outcome). AreSent (change_packets (change_of o)) o.copies draft.drafted.packets) is d.drafted.sent;
        updates = subst (λ (o : Outcome). Teach rows server now draft.drafted.updates (dialogs_after server now (change_of o))) is d.drafted.updates;
      }

  pub fault_drafted : (requests : List OpenRequest) (place branch : ℕ) (x : OpenRequest) (b : Branch) (input : Input) (result : Result EventDraft AllocError)
      → slice_get requests place ≡ Some x
      → slice_get x.branches branch ≡ Some b → outcome_of server now x input ≡ changing (send_failed server now x b) []
      → IfOk result (IsDraftAt rows server now requests place input)
      → IfOk result (λ draft. (found : OpenRequest × Branch) → branch_at requests (place, branch) ≡ Some found
      → IsDraftOf rows server now (send_failed server now found.0 found.1) draft)
  fault_drafted requests place branch x b input (Ok draft) here there is h = λ found at.
      subst (λ (f : OpenRequest × Branch). IsDraftOf rows server now (send_failed server now f.0 f.1) draft)
      (sym (found_is requests place branch x b found here there at))
      (draft_of x input (send_failed server now x b) draft is (h x here))
  fault_drafted requests place branch x b input (Err e) here there is h = tt

-- ---- steps

module _ (server : Server) (now : ℕ) (old new : ProxyState) where
  pub failed_done : (rows : List HostAddress) (place branch : ℕ) (draft : EventDraft) (result : Result StepOut AllocError) → rows ≡ server.config.addresses
      → ((found : OpenRequest × Branch) → branch_at old.requests (place, branch) ≡ Some found → IsDraftOf rows server now (send_failed server now found.0 found.1) draft)
      → IfOk result (λ out. Leaves now draft.drafted.packets (replaced draft.change old.requests) draft.drafted.updates old out new)
      → IfOk result (λ out. (found : OpenRequest × Branch) → branch_at old.requests (place, branch) ≡ Some found
      → Does server old now (changed server now old (send_failed server now found.0 found.1)) out new)
  failed_done rows place branch draft (Ok out) known drafted l = λ found at.
      change_done server now old out new rows (send_failed server now found.0 found.1) draft known (drafted found at) l
  failed_done rows place branch draft (Err e) known drafted l = tt

  -- the state at a moment
  abbrev at_moment : ProxyState
  at_moment = record old { moment = now }

  fault_done : (ticket : Ticket) (out : StepOut) → MayCome old now → Does server old now (failing server now at_moment (failed_of ticket old.requests)) out new
      → (at : ℕ) → now ≡ moment_of old at → IsFault server old at ticket out new
  fault_done ticket out may does at is =
      record {
        none_passed = subst (λ (n : ℕ). NoneBefore n old.requests) is may.none_before;
        none_again = subst (λ (n : ℕ). NoneAgainBefore n old.requests) is may.none_again;
        does =
            subst (λ (n : ℕ). Does server old n (fault_effect server n ticket (record old { moment = n })) out new) is
            (subst (λ (e : Effect). Does server old now e out new) (sym (fault_is server now ticket at_moment)) does);
      }

  pub no_branch_fails : (ticket : Ticket) (out : StepOut) → MayCome old now → failed_of ticket old.requests ≡ None → Leaves now [] old.requests [] old out new
      → (at : ℕ) → now ≡ moment_of old at → IsFault server old at ticket out new
  no_branch_fails ticket out may none l =
      fault_done ticket out may (subst (λ (o : Option (OpenRequest × Branch)). Does server old now (failing server now at_moment o) out new) (sym none)
      (nothing_done server now old out new l))

  -- one that is there
  by_branch_there : (o : Option (OpenRequest × Branch)) (out : StepOut) → IsSome o
      → ((found : OpenRequest × Branch) → o ≡ Some found → Does server old now (changed server now old (send_failed server now found.0 found.1)) out new)
      → Does server old now (failing server now at_moment o) out new
  by_branch_there None out some does = absurd (true≢false (sym some))
  by_branch_there (Some found) out some does = does found refl

  pub branch_fails : (ticket : Ticket) (place branch : ℕ) (result : Result StepOut AllocError) → MayCome old now → IsSome (branch_at old.requests (place, branch))
      → branch_at old.requests (place, branch) ≡ failed_of ticket old.requests
      → IfOk result (λ out. (found : OpenRequest × Branch) → branch_at old.requests (place, branch) ≡ Some found
      → Does server old now (changed server now old (send_failed server now found.0 found.1)) out new)
      → IfOk result (λ out. (at : ℕ) → now ≡ moment_of old at → IsFault server old at ticket out new)
  branch_fails ticket place branch (Ok out) may some is does =
      fault_done ticket out may
      (subst (λ (o : Option (OpenRequest × Branch)). Does server old now (failing server now at_moment o) out new) is
      (by_branch_there (branch_at old.requests (place, branch)) out some does))
  branch_fails ticket place branch (Err e) may some is does = tt

-- a fault that fails a branch is one whose ticket names one
pub names_one : (o p : Option (OpenRequest × Branch)) → IsSome o → o ≡ p → p ≡ None → ⊥
names_one o p some is none = true≢false (sym some ∙ ap (λ (v : Option (OpenRequest × Branch)). is_some v) (is ∙ none))
