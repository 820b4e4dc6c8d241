-- What is drafted of what is due, and of a fault.
use Rattle.std.proofs.Common.{◌≡◌, ◌∙◌, ℕ, ◌≤◌, List, slice_get, Option, Result, Some, Ok, Err, IfOk, IsSomeAnd, sym, ap, subst, arith}
use Rattle.std.specs.Option.{unwrap_or}
use Rattle.std.specs.declared.alloc.AllocError.{AllocError}
use Rattle.sip_proxy.specs.Drafts.{IsDrafted}
use Rattle.sip_proxy.specs.declared.drafting.EventDraft.{EventDraft}
use Rattle.sip_proxy.specs.fork.declared.first_due.Due.{Due}
use Rattle.sip_proxy.specs.fork.Keeping.{IsKeptAs, IsOf}
use Rattle.sip_hops.specs.declared.host_address.HostAddress.{HostAddress}
use Rattle.sip_proxy.specs.context.declared.input.Input.{Input}
use Rattle.sip_proxy.specs.context.declared.input.Input.TheVariants.{Response, BranchDeadline, SideDeadline, SendFault, Cancel, Ack, BranchAgain, AnswerAgain}
use Rattle.sip_dialog_updates.specs.DialogUpdates.{beginnings}
use Rattle.sip_proxy.specs.context_model.Retransmission.{answer_due, branch_due}
use Rattle.sip_dialog_updates.specs.state.declared.open_request.OpenRequest.{OpenRequest}
use Rattle.sip_dialog_updates.specs.state.declared.server.Server.{Server}
use Rattle.sip_proxy.specs.fork.Due.{GoesAgainBefore}
use Rattle.sip_engine_request.specs.TimeSteps.{IsDueAs, IsFired, IsLastOf, IsOfPart}

-- ---- what is due, as an input

-- a moment that came
come : (o : Option ℕ) (due : ℕ) → o ≡ Some due → IsSomeAnd o (λ (m : ℕ). m ≤ due)
come o due is = let now : due ≤ due = omega arith in subst (λ (v : Option ℕ). IsSomeAnd v (λ (m : ℕ). m ≤ due)) (sym is) now

-- what is due of a request is about it
pub about : (r : OpenRequest) (due : ℕ) (input : Input) → IsDueAs r due input → IsOf r due input
about r due (Response branch status response) is = absurd is
about r due (BranchDeadline branch) is = is.there
about r due SideDeadline is = tt
about r due (SendFault branch) is = absurd is
about r due Cancel is = absurd is
about r due Ack is = absurd is
about r due (BranchAgain branch) is = record { there = is.there; come = come (branch_due r branch.now) due is.is }
about r due AnswerAgain is = come (answer_due r) due is

-- ---- drafts

-- what is read twice at one place is one
pub read_twice : {X : Type 0} (xs : List X) (place : ℕ) (x y : X) → slice_get xs place ≡ Some x → slice_get xs place ≡ Some y → x ≡ y
read_twice {X = X} xs place x y left right = ap (λ (o : Option X). unwrap_or o x) (sym left ∙ right)

-- an input that is due of the request that was read at a place is about the one there
pub about_there : (requests : List OpenRequest) (place due : ℕ) (x : OpenRequest) (input : Input) → slice_get requests place ≡ Some x → IsDueAs x due input
    → (r : OpenRequest) → slice_get requests place ≡ Some r → IsOf r due input
about_there requests place due x input here is r at = subst (λ (v : OpenRequest). IsOf v due input) (read_twice requests place x r here at) (about x due input is)

module _ (rows : List HostAddress) (server : Server) (now : ℕ) where
  -- what is drafted of an input to the request at a place
  abbrev pub IsDraftAt : List OpenRequest → ℕ → Input → EventDraft → Type 0
  IsDraftAt requests place input draft = (r : OpenRequest) → slice_get requests place ≡ Some r → IsDrafted rows server now r input draft

  pub draft_fired : (what : Due) (requests : List OpenRequest) (place : ℕ) (x : OpenRequest) (input : Input) (result : Result EventDraft AllocError)
      → slice_get requests place ≡ Some x → IsDueAs x now input
      → IsOfPart x what input → (GoesAgainBefore x now what → IsLastOf x now input) → IfOk result (IsDraftAt requests place input)
      → IfOk result (λ draft. (r : OpenRequest) → slice_get requests place ≡ Some r → IsFired rows server now what r draft)
  draft_fired what requests place x input (Ok draft) here due part last h = λ r at.
      let drafted : IsDrafted rows server now x input draft = h x here in
      let fired : IsFired rows server now what x draft = record { input = input; is_due = due; is_part = part; is_last = last; drafted = drafted } in
      subst (λ (v : OpenRequest). IsFired rows server now what v draft) (read_twice requests place x r here at) fired
  draft_fired what requests place x input (Err e) here due part last h = tt

  pub draft_kept : (requests : List OpenRequest) (place : ℕ) (input : Input) (result : Result EventDraft AllocError) → IfOk result (IsDraftAt requests place input)
      → IfOk result (λ draft. (r : OpenRequest) → slice_get requests place ≡ Some r → IsKeptAs now r draft.change)
  draft_kept requests place input (Ok draft) h = λ r at. (h r at).kept
  draft_kept requests place input (Err e) h = tt

  pub draft_few : (requests : List OpenRequest) (place : ℕ) (x : OpenRequest) (input : Input) (result : Result EventDraft AllocError) → slice_get requests place ≡ Some x
      → IfOk result (IsDraftAt requests place input) → IfOk result (λ draft. beginnings draft.drafted.updates ≤ 1)
  draft_few requests place x input (Ok draft) here h = (h x here).drafted.few
  draft_few requests place x input (Err e) here h = tt
