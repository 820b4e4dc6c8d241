-- What a step did for a verdict, where that is the one on the datagram.
use Rattle.std.proofs.Common.{◌≡◌, ◌∙◌, ◌||◌, ℕ, Bool, true, false, cond, List, [], slice_get, position, Option, Result, Some, None, Ok, Err, IfOk, refl, sym, ap, subst}
use Rattle.std.specs.Prelude.{find}
use Rattle.std.specs.Option.{option_map, option_map_or}
use Rattle.std.specs.declared.alloc.AllocError.{AllocError}
use Rattle.sip_event.specs.declared.event.StepOut.{StepOut}
use Rattle.sip_message_form.specs.declared.message.Message.{Message}
use Rattle.sip_model.specs.steps_model.Effect.{counted, datagram_effect, effect_of, nothing}
use Rattle.sip_model.specs.steps_model.Step.{Does}
use Rattle.sip_engine_request.specs.forwarding.Arrivals.{arrival_of}
use Rattle.sip_engine_request.specs.forwarding.declared.arrival.Arrival.{Arrival}
use Rattle.sip_verdict.specs.state.declared.proxy_state.ProxyState.{ProxyState}
use Rattle.sip_verdict.specs.state.declared.server.Server.{Server}
use Rattle.sip_verdict.specs.verdict_model.Verdict as Definition
use Rattle.sip_verdict.specs.Verdict.{Is, IsOutcome}
use Rattle.sip_verdict.specs.declared.verdict.Judged.{Judged}
use Rattle.sip_verdict.specs.declared.verdict.PolicyOutcome.{PolicyOutcome}
use Rattle.sip_verdict.specs.declared.verdict.PolicyOutcome.TheVariants as Decided
use Rattle.sip_verdict.specs.declared.verdict.Verdict.{Verdict}
use Rattle.sip_verdict.specs.declared.verdict.Verdict.TheVariants as Arrived
use Rattle.sip_dialog.specs.declared.dialog.DialogId.{DialogId}
use Rattle.sip_engine_request.specs.fork.Places.{branch_at}
use Rattle.sip_uri.specs.declared.addr.Addr.{Addr}
use Rattle.sip_transaction_table.specs.declared.key.TransactionKey.{TransactionKey}
use Rattle.sip_location.specs.declared.binding.Binding.{Binding}
use Rattle.sip_verdict.specs.state.Arrival as Arrivals
use Rattle.sip_verdict.specs.state.State.{has_key}
use Rattle.sip_verdict.specs.state.declared.branch.Branch.{Branch}
use Rattle.sip_verdict.specs.state.declared.open_request.OpenRequest.{OpenRequest}
use Rattle.sip_verdict.specs.verdict_model.declared.question.Question.{Question}
use Rattle.sip_engine_request.specs.uas.Asking.{AnswersFinally}
use Rattle.sip_engine_request.specs.Steps.{Takes}
use Rattle.sip_engine.specs.Delivery.{IsDroppedOrOn, IsServed, NeedsRoom, way_on}
use Rattle.sip_engine.proofs.Places.{position_within, stands_at}

module _ (server : Server) (a : Arrival) (old new : ProxyState) where
  pub taken_as : (m : Message) (v w : Definition.Verdict) (result : Result StepOut AllocError) → w ≡ v → IfOk result (λ out. Takes server old a m v out new)
      → IfOk result (λ out. Takes server old a m w out new)
  taken_as m v w (Ok out) same h = subst (λ (x : Definition.Verdict). Takes server old a m x out new) (sym same) h
  taken_as m v w (Err e) same h = tt

  pub dropped_as : (m : Message) (w : Definition.Verdict) (out : StepOut) → w ≡ Definition.Drop → Takes server old a m Definition.Drop out new
      → Takes server old a m w out new
  dropped_as m w out same h = subst (λ (x : Definition.Verdict). Takes server old a m x out new) (sym same) h

  -- what a datagram does, by the message that it says and the verdict on it
  abbrev pub does_by : Option (Message × Definition.Verdict) → StepOut → Type 0
  does_by said out =
      Does server old a.now (option_map_or (λ (x : Message × Definition.Verdict). effect_of server (arrival_of a) x.0 x.1 (counted (arrival_of a) old)) said
      (nothing (counted (arrival_of a) old))) out new

  pub silent : (bytes : List ℕ) (out : StepOut) → Definition.verdict_of server old (arrival_of a) bytes ≡ None
      → Does server old a.now (nothing (counted (arrival_of a) old)) out new
      → Does server old a.now (datagram_effect server old (arrival_of a) bytes) out new
  silent bytes out is h = subst (λ (said : Option (Message × Definition.Verdict)). does_by said out) (sym is) h

  pub said : (bytes : List ℕ) (m : Message) (v : Definition.Verdict) (result : Result StepOut AllocError)
      → Definition.verdict_of server old (arrival_of a) bytes ≡ Some (m, v)
      → IfOk result (λ out. Takes server old a m v out new) → IfOk result (λ out. Does server old a.now (datagram_effect server old (arrival_of a) bytes) out new)
  said bytes m v (Ok out) is h = subst (λ (x : Option (Message × Definition.Verdict)). does_by x out) (sym is) h
  said bytes m v (Err e) is h = tt

-- ---- what was decided

-- a verdict that is dropped or goes on is none of what policy decides
asked : (server : Server) (rows : List Binding) (now : ℕ) (q : Question) (v : Definition.Verdict) (o : PolicyOutcome) → IsOutcome rows now q v o → IsDroppedOrOn v → ⊥
asked server rows now q v Decided.Challenge is d = subst IsDroppedOrOn is d
asked server rows now q v (Decided.Deny id) is d = subst IsDroppedOrOn is d
asked server rows now q v (Decided.Send id targets) is d = subst IsDroppedOrOn is d
asked server rows now q v (Decided.Register id registering) is d = subst IsDroppedOrOn is.verdict_is d

-- where it doesn't go on it is dropped
ack_off : (server : Server) (rows : List Binding) (now : ℕ) (named : Option OpenRequest) (v : Definition.Verdict) (decided : Verdict) → way_on decided ≡ None
    → IsDroppedOrOn v
    → Is server rows now named v decided → v ≡ Definition.Drop
ack_off server rows now named v Arrived.Dropped off d is = is
ack_off server rows now named v (Arrived.AckOn address id) off d is = absurd (cc)
ack_off server rows now named v Arrived.Cancel off d is = absurd (subst IsDroppedOrOn is d)
ack_off server rows now named v (Arrived.Answer status extras) off d is = absurd (subst IsDroppedOrOn is d)
ack_off server rows now named v (Arrived.InDialog address id) off d is = absurd (subst IsDroppedOrOn is d)
ack_off server rows now named v (Arrived.Judged judged) off d is = absurd (asked server rows now judged.question v judged.outcome is.1 d)

ack_on : (server : Server) (rows : List Binding) (now : ℕ) (named : Option OpenRequest) (v : Definition.Verdict) (decided : Verdict) (address : Addr) (id : DialogId)
    → way_on decided ≡ Some (address, id)
    → Is server rows now named v decided → v ≡ Definition.AckOn address id
ack_on server rows now named v Arrived.Dropped address id on is = absurd (cc)
ack_on server rows now named v (Arrived.AckOn other of) address id on is = let pair : (other, of) ≡ (address, id) = cc in
    is ∙ ap (λ (x : Addr × DialogId). Definition.AckOn x.0 x.1) pair
ack_on server rows now named v Arrived.Cancel address id on is = absurd (cc)
ack_on server rows now named v (Arrived.Answer status extras) address id on is = absurd (cc)
ack_on server rows now named v (Arrived.InDialog other of) address id on is = absurd (cc)
ack_on server rows now named v (Arrived.Judged judged) address id on is = absurd (cc)

module _ (server : Server) (a : Arrival) (old new : ProxyState) where
  -- ---- an ACK

  -- what was decided of it, in whatever bindings and of whatever request a CANCEL names
  abbrev pub IsDecided : Definition.Verdict → Verdict → Type 0
  IsDecided v decided = (rows : List Binding) (named : Option OpenRequest) → Is server rows a.now named v decided

  pub went_on : (m : Message) (v : Definition.Verdict) (decided : Verdict) (address : Addr) (id : DialogId) (result : Result StepOut AllocError)
      → way_on decided ≡ Some (address, id) → IsDecided v decided
      → IfOk result (λ out. Takes server old a m (Definition.AckOn address id) out new) → IfOk result (λ out. Takes server old a m v out new)
  went_on m v decided address id result on is h = taken_as server a old new m (Definition.AckOn address id) v result
      (ack_on server [] a.now None v decided address id on (is [] None)) h

  pub stopped : (m : Message) (v : Definition.Verdict) (decided : Verdict) (out : StepOut) → way_on decided ≡ None → IsDroppedOrOn v → IsDecided v decided
      → Takes server old a m Definition.Drop out new → Takes server old a m v out new
  stopped m v decided out off d is h = dropped_as server a old new m v out (ack_off server [] a.now None v decided off d (is [] None)) h

  -- ---- a request that is new

  pub message_is : (m x : Message) (v : Definition.Verdict) (result : Result StepOut AllocError) → x ≡ m → IfOk result (λ out. Takes server old a x v out new)
      → IfOk result (λ out. Takes server old a m v out new)
  message_is m x v (Ok out) same h = subst (λ (y : Message). Takes server old a y v out new) same h
  message_is m x v (Err e) same h = tt

  pub told : (key : TransactionKey) (m x : Message) (judged : Judged) (result : Result StepOut AllocError) → x ≡ m
      → IfOk result (λ out. (named : Option OpenRequest) (v : Definition.Verdict) → Is server old.bindings a.now named v (Arrived.Judged judged)
      → Takes server old a x v out new)
      → IfOk result (λ out. (v : Definition.Verdict) → Is server old.bindings a.now (Definition.found_for_cancel old key a.from) v (Arrived.Judged judged)
      → Takes server old a m v out new)
  told key m x judged (Ok out) same h = λ v is. subst (λ (y : Message). Takes server old a y v out new) same (h (Definition.found_for_cancel old key a.from) v is)
  told key m x judged (Err e) same h = tt

  -- ---- a request with an open key

  pub known : (m : Message) (short : Bool) (method : List ℕ) (key : TransactionKey) (place : ℕ) (result : Result StepOut AllocError)
      → Some place ≡ position (has_key key) old.requests
      → slice_get old.requests place ≡ find (has_key key) old.requests
      → ((r : OpenRequest) → find (has_key key) old.requests ≡ Some r → Definition.message_verdict server old (arrival_of a) m short
      ≡ Definition.by_open server old (arrival_of a) m short method key (Some r))
      → IfOk result (λ out. (k : TransactionKey) (r : OpenRequest) → slice_get old.requests place ≡ Some r
      → Takes server old a m (Definition.by_open server old (arrival_of a) m short method k (Some r)) out new)
      → IfOk result (λ out. Takes server old a m (Definition.message_verdict server old (arrival_of a) m short) out new)
  known m short method key place (Ok out) at found verdict h =
      let there : (r : OpenRequest) × (slice_get old.requests place ≡ Some r) = stands_at old.requests place (position_within (has_key key) old.requests place (sym at))
      in
      subst (λ (v : Definition.Verdict). Takes server old a m v out new) (sym (verdict there.0 (sym found ∙ there.1))) (h key there.0 there.1)
  known m short method key place (Err e) at found verdict h = tt

  -- ---- a response

  -- what a response does to a branch, by whether it is taken
  abbrev pub by_taken : Bool → OpenRequest → Branch → ℕ → Definition.Verdict
  by_taken t r b status = cond t (Definition.Respond r b status) Definition.Drop

  pub responded : (m : Message) (place branch status : ℕ) (more : Bool) (result : Result StepOut AllocError)
      → ((r : OpenRequest) (b : Branch) → branch_at old.requests (place, branch) ≡ Some (r, b) → true ≡ (b.is_cancel || more))
      → IfOk result (λ out. (found : OpenRequest × Branch) → branch_at old.requests (place, branch) ≡ Some found
      → Takes server old a m (Definition.Respond found.0 found.1 status) out new)
      → IfOk result (λ out. (r : OpenRequest) (b : Branch) → branch_at old.requests (place, branch) ≡ Some (r, b)
      → Takes server old a m (by_taken (b.is_cancel || more) r b status) out new)
  responded m place branch status more (Ok out) is h = λ r b at. subst (λ (t : Bool). Takes server old a m (by_taken t r b status) out new) (is r b at) (h (r, b) at)
  responded m place branch status more (Err e) is h = tt

  pub untaken : (m : Message) (place branch status : ℕ) (more : Bool) (out : StepOut)
      → ((r : OpenRequest) (b : Branch) → branch_at old.requests (place, branch) ≡ Some (r, b) → false ≡ (b.is_cancel || more))
      → Takes server old a m Definition.Drop out new
      → (r : OpenRequest) (b : Branch) → branch_at old.requests (place, branch) ≡ Some (r, b) → Takes server old a m (by_taken (b.is_cancel || more) r b status) out new
  untaken m place branch status more out is h r b at = subst (λ (t : Bool). Takes server old a m (by_taken t r b status) out new) (is r b at) h

  pub replied : (m : Message) (short : Bool) (place branch status : ℕ) (more : Bool) (o : Option (OpenRequest × Branch)) (result : Result StepOut AllocError)
      → option_map (branch_at old.requests) (Some (place, branch)) ≡ option_map (λ (found : OpenRequest × Branch). Some found) o
      → ((r : OpenRequest) (b : Branch) → o ≡ Some (r, b) → Definition.message_verdict server old (arrival_of a) m short ≡ by_taken (b.is_cancel || more) r b status)
      → IfOk result (λ out. (r : OpenRequest) (b : Branch) → branch_at old.requests (place, branch) ≡ Some (r, b)
      → Takes server old a m (by_taken (b.is_cancel || more) r b status) out new)
      → IfOk result (λ out. Takes server old a m (Definition.message_verdict server old (arrival_of a) m short) out new)
  replied m short place branch status more None result same verdict h = absurd (cc)
  replied m short place branch status more (Some (r, b)) (Ok out) same verdict h =
      let at : branch_at old.requests (place, branch) ≡ Some (r, b) = cc in
      subst (λ (v : Definition.Verdict). Takes server old a m v out new) (sym (verdict r b refl)) (h r b at)
  replied m short place branch status more (Some found) (Err e) same verdict h = tt

  pub unfound : (m : Message) (short : Bool) (o : Option (OpenRequest × Branch)) (out : StepOut)
      → option_map (branch_at old.requests) None ≡ option_map (λ (found : OpenRequest × Branch). Some found) o
      → (o ≡ None → Definition.message_verdict server old (arrival_of a) m short ≡ Definition.Drop) → Takes server old a m Definition.Drop out new
      → Takes server old a m (Definition.message_verdict server old (arrival_of a) m short) out new
  unfound m short None out same verdict h = dropped_as server a old new m (Definition.message_verdict server old (arrival_of a) m short) out (verdict refl) h
  unfound m short (Some found) out same verdict h = absurd (cc)

-- ---- what was decided about a new request

module _ (server : Server) (a : Arrival) (old mid new : ProxyState) (key : TransactionKey) (m : Message) (short : Bool) (method : List ℕ) (decided : Verdict) where
  -- the verdict on it
  abbrev pub verdict : Definition.Verdict
  verdict = Definition.new_verdict server old (arrival_of a) m short method key

  -- that was decided
  abbrev pub IsNew : Type 0
  IsNew = (x : Arrivals.Arrival) (k : TransactionKey) → x.now ≡ a.now → Is server old.bindings a.now (Definition.found_for_cancel old k x.from)
      (Definition.new_verdict server old x m short method k) decided

  pub served : mid ≡ old → IsNew → NeedsRoom (Definition.is_full old) verdict → AnswersFinally verdict → IsServed server mid a key decided
  served same is space final =
      let there : IsServed server old a key decided = record { verdict = verdict; is = is (arrival_of a) key refl; space = space; final = final } in
      subst (λ (s : ProxyState). IsServed server s a key decided) (sym same) there

  pub new_told : (result : Result StepOut AllocError) → mid ≡ old → IsNew
      → IfOk result (λ out. (v : Definition.Verdict) → Is server mid.bindings a.now (Definition.found_for_cancel mid key a.from) v decided
      → Takes server mid a m v out new)
      → IfOk result (λ out. Takes server old a m verdict out new)
  new_told (Ok out) same is h =
      let there : (v : Definition.Verdict) → Is server old.bindings a.now (Definition.found_for_cancel old key a.from) v decided → Takes server old a m v out new =
      subst (λ (s : ProxyState). (v : Definition.Verdict) → Is server s.bindings a.now (Definition.found_for_cancel s key a.from) v decided
      → Takes server s a m v out new) same h in
      there verdict (is (arrival_of a) key refl)
  new_told (Err e) same is h = tt
