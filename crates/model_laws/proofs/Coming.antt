-- What a response that comes for a branch can't do.
use Rattle.std.proofs.Common.{◌≡◌, ◌⊎◌, inl, inr, ℕ, ◌==◌, Bool, true, false, cond, List, [], ◌∷◌, ◌++◌, filter, flat_map, Some, sym, ap, subst, ◌∙◌, true≢false}
use Rattle.std.specs.List.{AllByRecursion}
use Rattle.sip_message_form.specs.declared.message.Message.{Message}
use Rattle.sip_edit.specs.OwnRequests.{cancel_of}
use Rattle.sip_best.specs.declared.final_answer.Final.{Final}
use Rattle.sip_event.specs.declared.packet.Packet.{Packet}
use Rattle.sip_model.specs.state.declared.server.Server.{Server}
use Rattle.sip_model.specs.state.declared.branch.Branch.{Branch}
use Rattle.sip_model.specs.state.declared.open_request.OpenRequest.{OpenRequest}
use Rattle.sip_model.specs.state.declared.proxy_state.ProxyState.{ProxyState}
use Rattle.sip_model.specs.state.State.{is_success, is_answering, is_provisional, phase_deadline}
use Rattle.sip_model.specs.context_model.Branches.{is_ready, is_unheard}
use Rattle.sip_model.specs.context_model.Sending.{request_of, to_branch}
use Rattle.sip_model.specs.steps_model.Step.{Act}
use Rattle.sip_model.specs.Run.{Link}
use Rattle.sip_model.specs.Access.{ComesNow, IsAckNow, IsPassedOn, Early, Accepting, EndsNow, ByResponse, BySilence, ByLaterSilence, ByCancel, ByFault, IsHeardNow}
use Rattle.sip_model.specs.Access.{IsCancelledNow, AreCancelsNow, IsForOpen, ForNone, ForOne, IsAllSent, sent_for}
use Rattle.model_laws.proofs.Refused.{holds_of, is_fault, HasNoAnswer, no_answers}
use Rattle.model_laws.proofs.Said.{found_same}
use Rattle.sip_model.proofs.Lists.{all_append}

-- two moments differ, where a test says so
pub differ : (x y : ℕ) → (x == y) ≡ false → (y == y) ≡ true → Some x ≡ Some y → ⊥
differ x y other same e = true≢false (sym same ∙ sym (ap (λ (n : ℕ). n == y) (found_same x y e)) ∙ other)

-- ---- what isn't passed on

module _ (r : OpenRequest) (b : Branch) (status : ℕ) where
  -- a refusal
  pub refusal_not_passed : is_provisional status ≡ false → is_success status ≡ false → IsPassedOn r b status → ⊥
  refusal_not_passed final other (Early is not_100 going answering) = true≢false (sym is ∙ final)
  refusal_not_passed final other (Accepting is takes goes_on) = true≢false (sym is ∙ other)

  -- a 100
  pub trying_not_passed : status ≡ 100 → is_success status ≡ false → IsPassedOn r b status → ⊥
  trying_not_passed e other (Early is not_100 going answering) = not_100 e
  trying_not_passed e other (Accepting is takes goes_on) = true≢false (sym is ∙ other)

  -- whatever is no 2xx, where the final answer went
  pub late_not_passed : is_answering r.side ≡ false → is_success status ≡ false → IsPassedOn r b status → ⊥
  late_not_passed closing other (Early is not_100 going answering) = true≢false (sym answering ∙ closing)
  late_not_passed closing other (Accepting is takes goes_on) = true≢false (sym is ∙ other)

-- ---- how a branch ends, and when it is cancelled

module _ (server : Server) (state : ProxyState) (act : Act) (at : ℕ) where
  -- a final response came for a branch, or its deadline is now
  abbrev pub EndsHow : OpenRequest → Branch → Type 0
  EndsHow r b = ((status : ℕ) × (response : Message) × ComesNow server state act r b status response × (is_provisional status ≡ false))
      ⊎ (phase_deadline b.phase ≡ Some at)

  -- so it ends, unless a send failed
  pub ends_how : is_fault act ≡ false → (r : OpenRequest) (b : Branch) (last : Final) → EndsNow server state act at r b last → EndsHow r b
  ends_how no_fault r b _ (ByResponse status response comes final) = inl (status, response, comes, final)
  ends_how no_fault r b _ (BySilence e) = inr (ap phase_deadline e)
  ends_how no_fault r b _ (ByLaterSilence e other) = inr (ap phase_deadline e)
  ends_how no_fault r b _ (ByCancel e) = inr (ap phase_deadline e)
  ends_how no_fault r b _ (ByFault when ticket is_act number branch unheard) = absurd (true≢false (sym (ap is_fault is_act) ∙ no_fault))

  -- a branch of which nothing was heard is sent no CANCEL
  pub unheard_goes_on : (history : List Link) (r : OpenRequest) (b : Branch) → is_ready b.phase ≡ false → (IsHeardNow server state act r b → ⊥)
      → IsCancelledNow server history state act at r b → ⊥
  unheard_goes_on history r b waits not_now cancelled = by_case cancelled.was_heard where
    by_case : (is_ready b.phase ≡ true) ⊎ ((is_unheard b.phase ≡ true) × IsHeardNow server state act r b) → ⊥
    by_case (inl ready) = true≢false (sym ready ∙ waits)
    by_case (inr now) = not_now now.1

-- ---- where the caller gets nothing

-- what holds of what a function makes of each holds of what it makes of some
pub all_of_some : {X Y : Type 0} (P : Y → Type 0) (f : X → List Y) (test : X → Bool) (xs : List X)
    → AllByRecursion (λ x. AllByRecursion P (f x)) xs → AllByRecursion P (flat_map f (filter test xs))
all_of_some P f test [] a = tt
all_of_some {X} {Y} P f test (x ∷ xs) a = by_test (test x) (all_of_some P f test xs a.1) where
  by_test : (t : Bool) → AllByRecursion P (flat_map f (filter test xs)) → AllByRecursion P (flat_map f (cond t (x ∷ filter test xs) (filter test xs)))
  by_test true rest = all_append P (f x) (flat_map f (filter test xs)) a.0 rest
  by_test false rest = rest

module _ (server : Server) (history : List Link) (state : ProxyState) (act : Act) (at : ℕ) (P : Packet → Type 0) where
  -- an open request has no answer in a step, and its ACKs and CANCELs are of a kind
  pub record TellsNothing (r : OpenRequest) : Type 0 where
    pub acks_are : (packets : List Packet) → IsAckNow server state act r packets → AllByRecursion P packets
    pub no_answer : HasNoAnswer server history state act at r
    pub cancels_are : AllByRecursion (λ (b : Branch). AllByRecursion P (to_branch r b 0 false (cancel_of (request_of server r b)))) r.branches

  -- the CANCELs
  cancels_go : (r : OpenRequest) → TellsNothing r → (packets : List Packet) → AreCancelsNow server history state act at r packets → AllByRecursion P packets
  cancels_go r tells packets are =
      subst (λ (ps : List Packet). AllByRecursion P ps) (sym are.are_all)
      (all_of_some P (λ (b : Branch). to_branch r b 0 false (cancel_of (request_of server r b))) are.is_one r.branches tells.cancels_are)

  -- where each does so, all that is sent is of that kind
  pub tells_nothing : AllByRecursion TellsNothing state.requests → (packets : List Packet) → IsForOpen server history state act at packets → AllByRecursion P packets
  tells_nothing all _ ForNone = tt
  tells_nothing all _ (ForOne r acks answers cancels there ack answer cancel) =
      let h : TellsNothing r = holds_of TellsNothing state.requests r all there in
      all_append P (acks ++ answers) cancels
      (all_append P acks answers (h.acks_are acks ack)
      (subst (λ (ps : List Packet). AllByRecursion P ps) (sym (no_answers server history state act at r h.no_answer answers answer)) tt)) (cancels_go r h cancels cancel)

  -- so it is of what a step sends for the first time, where its datagram gets nothing
  pub all_sent_are : AllByRecursion TellsNothing state.requests → sent_for server state act ≡ [] → (packets : List Packet) → IsAllSent server history state act at packets
      → AllByRecursion P packets
  all_sent_are all gets packets sent =
      subst (λ (ps : List Packet). AllByRecursion P ps) (sym (sent.are_all ∙ ap (λ (ps : List Packet). ps ++ sent.others) gets))
      (tells_nothing all sent.others sent.are_owed)
