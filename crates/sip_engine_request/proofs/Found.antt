-- Open requests and their branches by their places, and what is drafted of a response to one.
use Rattle.std.proofs.Common.{◌≡◌, ◌∙◌, ℕ, zero, suc, ◌<◌, ◌≤◌, List, [], ◌∷◌, length, slice_get, Contains, Option, Result, Some, Ok, Err, IfOk, IsSome, sym, ap, subst}
use Rattle.std.proofs.Common.{true≢false, arith}
use Rattle.std.specs.Prelude.{option_map}
use Rattle.std.specs.Option.{option_and_then, unwrap_or}
use Rattle.std.specs.declared.alloc.AllocError.{AllocError}
use Rattle.std.proofs.lemmas.Option.{slice_get_within, get_or_from_slice_get}
use Rattle.sip_event.specs.declared.packet.Packet.{Packet}
use Rattle.sip_proxy.specs.Drafts.{IsDrafted}
use Rattle.sip_proxy.specs.verdict.context_model.Branches.{Change, responded}
use Rattle.sip_proxy.specs.declared.drafting.EventDraft.{EventDraft}
use Rattle.sip_proxy.specs.fork.Places.{branch_at}
use Rattle.sip_proxy.specs.fork.Keeping.{IsKeptAs}
use Rattle.sip_message_form.specs.declared.message.Message.{Message}
use Rattle.sip_proxy.specs.forwarding.Forwarding.{AreSent, Teach, change_of}
use Rattle.sip_hops.specs.declared.host_address.HostAddress.{HostAddress}
use Rattle.sip_proxy.specs.context.Inputs.{Outcome, changing, outcome_of}
use Rattle.sip_proxy.specs.context.declared.input.Input.{Input}
use Rattle.sip_dialog_updates.specs.DialogUpdates.{beginnings}
use Rattle.sip_proxy.specs.steps_model.Effect.{change_packets, dialogs_after}
use Rattle.sip_proxy.specs.verdict.context_model.Retransmission.{acked_again}
use Rattle.sip_dialog_updates.specs.state.declared.branch.Branch.{Branch}
use Rattle.sip_dialog_updates.specs.state.declared.open_request.OpenRequest.{OpenRequest}
use Rattle.sip_dialog_updates.specs.state.declared.server.Server.{Server}
use Rattle.sip_engine_request.specs.OpenSteps.{IsDraftOf}

-- ---- places

pub place_within : (requests : List OpenRequest) (place branch : ℕ) → IsSome (branch_at requests (place, branch)) → place < length requests
place_within [] place branch some = absurd (true≢false (sym some))
place_within (r ∷ rs) zero branch some = omega arith
place_within (r ∷ rs) (suc k) branch some = let h : k < length rs = place_within rs k branch some in omega (arith, h)

-- the branches of a request
pub in_branches : (r : OpenRequest) (branches : List Branch) (branch : ℕ) → IsSome {T = OpenRequest × Branch}
    (option_map (λ (b : Branch). (r, b)) (slice_get branches branch)) → branch < length branches
in_branches r [] branch some = absurd (true≢false (sym some))
in_branches r (b ∷ bs) zero some = omega arith
in_branches r (b ∷ bs) (suc k) some = let h : k < length bs = in_branches r bs k some in omega (arith, h)

-- a request with its branch at a place, if there are such
abbrev pub with_branch : ℕ → Option OpenRequest → Option (OpenRequest × Branch)
with_branch branch o = option_and_then (λ (r : OpenRequest). option_map (λ (b : Branch). (r, b)) (slice_get r.branches branch)) o

pub branch_within : (requests : List OpenRequest) (place branch : ℕ) (r : OpenRequest) → IsSome (branch_at requests (place, branch)) → slice_get requests place ≡ Some r
    → branch < length r.branches
branch_within requests place branch r some at = in_branches r r.branches branch (subst (λ (o : Option OpenRequest). IsSome (with_branch branch o)) at some)

-- what was read at both places is what was found there
pub found_is : (requests : List OpenRequest) (place branch : ℕ) (x : OpenRequest) (b : Branch) (found : OpenRequest × Branch) → slice_get requests place ≡ Some x
    → slice_get x.branches branch ≡ Some b
    → branch_at requests (place, branch) ≡ Some found → found ≡ (x, b)
found_is requests place branch x b found here there is =
    let at : with_branch branch (slice_get requests place) ≡ Some (x, b) =
    ap (λ (o : Option OpenRequest). with_branch branch o) here ∙ ap (λ (o : Option Branch). option_map (λ (v : Branch). (x, v)) o) there in
    ap (λ (o : Option (OpenRequest × Branch)). unwrap_or o found) (sym is ∙ at)

-- and one of the request's branches
pub contained : (requests : List OpenRequest) (place branch : ℕ) (x : OpenRequest) (b : Branch) (r : OpenRequest) → slice_get requests place ≡ Some x
    → slice_get x.branches branch ≡ Some b
    → slice_get requests place ≡ Some r → Contains r.branches b
contained requests place branch x b r here there at =
    subst (λ (v : OpenRequest). Contains v.branches b) (ap (λ (o : Option OpenRequest). unwrap_or o x) (sym here ∙ at))
    (branch, slice_get_within x.branches branch b there, get_or_from_slice_get x.branches branch b b there)

-- ---- drafts

module _ (rows : List HostAddress) (server : Server) (now : ℕ) where
  draft_of : (r : OpenRequest) (input : Input) (change : Change) (copies : List Packet) (draft : EventDraft) → outcome_of server now r input ≡ changing change copies
      → IsDrafted rows server now r input draft → IsDraftOf rows server now r change copies draft
  draft_of r input change copies draft is d =
      record {
        request = d.request ∙ ap (λ (o : Outcome). o.request) is;
        kept = d.kept;
        sent = subst (λ (o : Outcome). AreSent (change_packets (change_of o)) o.copies draft.drafted.packets) is d.drafted.sent;
        updates = subst (λ (o : Outcome). Teach rows server now draft.drafted.updates (dialogs_after server now (change_of o))) is d.drafted.updates;
        few = d.drafted.few;
      }

  -- what is drafted of an input to the request at a place
  abbrev pub IsDraftAt : List OpenRequest → ℕ → Input → EventDraft → Type 0
  IsDraftAt requests place input draft = (r : OpenRequest) → slice_get requests place ≡ Some r → IsDrafted rows server now r input draft

  pub response_drafted : (requests : List OpenRequest) (place branch : ℕ) (x : OpenRequest) (b : Branch) (status : ℕ) (m : Message) (input : Input)
      (result : Result EventDraft AllocError)
      → slice_get requests place ≡ Some x → slice_get x.branches branch ≡ Some b → outcome_of server now x input
      ≡ changing (responded server now x b status m) (acked_again server x b status)
      → IfOk result (IsDraftAt requests place input)
      → IfOk result (λ draft. (found : OpenRequest × Branch) → branch_at requests (place, branch) ≡ Some found
      → IsDraftOf rows server now found.0 (responded server now found.0 found.1 status m) (acked_again server found.0 found.1 status) draft)
  response_drafted requests place branch x b status m input (Ok draft) here there is h = λ found at.
      subst (λ (f : OpenRequest × Branch). IsDraftOf rows server now f.0 (responded server now f.0 f.1 status m) (acked_again server f.0 f.1 status) draft)
      (sym (found_is requests place branch x b found here there at))
      (draft_of x input (responded server now x b status m) (acked_again server x b status) draft is (h x here))
  response_drafted requests place branch x b status m input (Err e) here there is h = tt

  pub draft_kept : (requests : List OpenRequest) (place : ℕ) (input : Input) (result : Result EventDraft AllocError) → IfOk result (IsDraftAt requests place input)
      → IfOk result (λ draft. (r : OpenRequest) → slice_get requests place ≡ Some r → IsKeptAs now r draft.change)
  draft_kept requests place input (Ok draft) h = λ r at. (h r at).kept
  draft_kept requests place input (Err e) h = tt

  pub draft_few : (requests : List OpenRequest) (place : ℕ) (x : OpenRequest) (input : Input) (result : Result EventDraft AllocError) → slice_get requests place ≡ Some x
      → IfOk result (IsDraftAt requests place input) → IfOk result (λ draft. beginnings draft.drafted.updates ≤ 1)
  draft_few requests place x input (Ok draft) here h = (h x here).drafted.few
  draft_few requests place x input (Err e) here h = tt
