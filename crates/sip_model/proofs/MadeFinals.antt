-- Over every history: a final answer that is kept without a message was made here, as 408, 487 or 503; and the best of such goes up as 408, 487 or 500 (RFC 3261 16.7
-- step 6, 16.8, 16.9).
use Rattle.std.proofs.Common.{◌≡◌, ◌⊎◌, inl, inr, ℕ, ◌+◌, ◌==◌, not, ◌&&◌, ◌||◌, Bool, true, false, cond, List, [], ◌∷◌, ◌++◌, map, filter, refl, sym, subst, arith}
use Rattle.std.proofs.Common.{Option, Some, None, is_some, option_map}
use Rattle.std.specs.List.{AllByRecursion, flat_map}
use Rattle.std.proofs.lemmas.Bool.Decides.{nat_tests}
use Rattle.sip_message_fields.specs.declared.field.Field.{Field}
use Rattle.sip_message_form.specs.declared.message.Message.{Message}
use Rattle.sip_best.specs.declared.final_answer.Final.{Final}
use Rattle.sip_best.specs.Best.{best_of, picked, chosen_of, going_up, is_unbeaten, is_challenge_status, challenging, challenges_of, taking_along}
use Rattle.sip_event.specs.declared.packet.Packet.{Packet}
use Rattle.model_steps.specs.state.declared.server.Server.{Server}
use Rattle.model_steps.specs.state.declared.branch.Phase.{Phase}
use Rattle.model_steps.specs.state.declared.branch.Branch.{Branch}
use Rattle.model_steps.specs.state.declared.open_request.OpenRequest.{OpenRequest}
use Rattle.model_steps.specs.state.declared.proxy_state.ProxyState.{ProxyState}
use Rattle.model_steps.specs.state.declared.branch.Phase.TheVariants.{Unheard, Heard, Cancelled, Done, Ended}
use Rattle.model_steps.specs.state.declared.open_request.Side.TheVariants.{Closed}
use Rattle.model_steps.specs.state.State.{first_state, is_invite, is_final, is_answering, is_success, is_decline, is_provisional}
use Rattle.model_steps.specs.state.declared.open_request.Upward.{Upward}
use Rattle.model_steps.specs.state.Arrival.{Arrival}
use Rattle.model_steps.specs.context_model.Branches.{Change, is_same_branch, with_phase, with_final, marked, given_up, answered, after_upward, best_upward, settled}
use Rattle.model_steps.specs.context_model.Branches.{other_heard, heard, relayed_provisional, relayed_success, final_of, linger, told_to, with_answer, acks_of, further}
use Rattle.model_steps.specs.context_model.Branches.{target_responded, cancel_responded, target_overdue, was_refused, acknowledged_side, acknowledged}
use Rattle.model_steps.specs.context_model.Opening.{forking, trying, tried}
use Rattle.model_steps.specs.context_model.Retransmission.{IsResent, OfAnswer, OfRequest}
use Rattle.model_steps.specs.Effect.{change_packets}
use Rattle.model_steps.specs.Step.{Act, IsOverdue, OfSide, OfBranch}
use Rattle.sip_model.specs.Run.{Link, under, IsChain}
use Rattle.sip_model.specs.Access.{IsMadeLater}
use Rattle.sip_model.specs.Parts.{IsChangeAt, ByResponse, ByDeadline, ByFault, ByCancel, IsOpening, Answered, Sent, IsPart, Stays, Passes, Copies, TurnsAway, Opens}
use Rattle.sip_model.specs.Parts.{Changes, Resends, Acknowledges, AreParts, One, Two, HasParts}
use Rattle.sip_model.proofs.Places.{all_push, all_replaced}
use Rattle.sip_model.proofs.StepParts.{step_parts}
use Rattle.sip_model.proofs.Lists.{all_append, all_map, all_every, all_contains}
use Rattle.sip_model.proofs.Later.{all_either}

-- a final answer that is kept without a message was made here, as 408, 487 or 503
abbrev pub IsMadeFinal : Final → Type 0
IsMadeFinal f = f.message ≡ None → (f.status ≡ 408) ⊎ ((f.status ≡ 487) ⊎ (f.status ≡ 503))

-- the final answers of a request are so
abbrev pub KeepsMadeFinals : OpenRequest → Type 0
KeepsMadeFinals r = AllByRecursion IsMadeFinal r.finals

-- ---- the best answer

-- what is picked of such answers is one
picked_made : (test : Final → Bool) (fs : List Final) → AllByRecursion IsMadeFinal fs → (x : Final × List Final) → picked test fs ≡ Some x → IsMadeFinal x.0
picked_made test [] all x e = absurd (cc)
picked_made test (f ∷ fs) all x e = by_test (test f) (picked test fs) (λ y there. picked_made test fs all.1 y there) e where
  by_test : (t : Bool) → (later : Option (Final × List Final)) → ((y : Final × List Final) → later ≡ Some y → IsMadeFinal y.0)
      → cond t (Some (f, fs)) (option_map (λ y. (y.0, f ∷ y.1)) later) ≡ Some x → IsMadeFinal x.0
  by_test true later rest is = let same : (f, fs) ≡ x = cc in subst (λ (y : Final × List Final). IsMadeFinal y.0) same all.0
  by_test false None rest is = absurd (cc)
  by_test false (Some y) rest is = let same : (y.0, f ∷ y.1) ≡ x = cc in subst (λ (z : Final × List Final). IsMadeFinal z.0) same (rest y refl)

-- a message that takes challenges along was there before
along_none : (o : Option Message) (challenges : List Field) → option_map (λ m. taking_along m challenges) o ≡ None → o ≡ None
along_none None challenges e = refl
along_none (Some m) challenges e = absurd (cc)

-- a status of these that isn't 503 goes up as it is
not_unavailable : (status : ℕ) → (status == 503) ≡ false → (status ≡ 408) ⊎ ((status ≡ 487) ⊎ (status ≡ 503)) → IsMadeLater status
not_unavailable status other (inl is) = inl is
not_unavailable status other (inr (inl is)) = inr (inl is)
not_unavailable status other (inr (inr is)) = let same : (status == 503) ≡ true = grind (arith, nat_tests) in absurd (cc)

-- the chosen answer, as it goes up
going_up_made : (others : List Final) (f : Final) → IsMadeFinal f → (going_up others f).message ≡ None → IsMadeLater (going_up others f).status
going_up_made others f h = by_tests (f.status == 503) refl (is_challenge_status f.status) where
  by_tests : (t : Bool) → (f.status == 503) ≡ t → (u : Bool) → (cond t (record { status = 500; message = None }) (cond u (challenging others f) f)).message ≡ None
      → IsMadeLater (cond t (record { status = 500; message = None }) (cond u (challenging others f) f)).status
  by_tests true is u none = inr (inr refl)
  by_tests false is true none = not_unavailable f.status is (h (along_none f.message (flat_map challenges_of others) none))
  by_tests false is false none = not_unavailable f.status is (h none)

-- the best of such answers, where it has no message: 408, 487 or 500
pub best_made : (finals : List Final) (best : Final) → AllByRecursion IsMadeFinal finals → best_of finals ≡ Some best → best.message ≡ None → IsMadeLater best.status
best_made finals best all e = by_choice (chosen_of finals) refl e where
  by_choice : (o : Option (Final × List Final)) → chosen_of finals ≡ o → option_map (λ x. going_up x.1 x.0) o ≡ Some best → best.message ≡ None → IsMadeLater best.status
  by_choice None is e = absurd (cc)
  by_choice (Some x) is e =
      let same : going_up x.1 x.0 ≡ best = cc in
      subst (λ (f : Final). f.message ≡ None → IsMadeLater f.status) same (going_up_made x.1 x.0 (picked_made (is_unbeaten finals) finals all x is))

-- ---- what settling keeps

-- an answer that goes up leaves none of another kind
upward_made : (now : ℕ) (o : Option Upward) (r : OpenRequest) → KeepsMadeFinals r → KeepsMadeFinals (after_upward now o r)
upward_made now None r h = h
upward_made now (Some u) r h = all_either IsMadeFinal (is_provisional u.status) r.finals [] h tt

-- nor does settling
settled_made : (server : Server) (now : ℕ) (acks : List Packet) (relayed : Option Upward) (r : OpenRequest) → KeepsMadeFinals r
    → KeepsMadeFinals (settled server now acks relayed r).request
settled_made server now acks relayed r h =
    let told : OpenRequest = after_upward now relayed r in
    upward_made now (best_upward server told) told (upward_made now relayed r h)

-- ---- what an event makes of the final answers

-- one more
final_made : (f : Final) (r : OpenRequest) → IsMadeFinal f → KeepsMadeFinals r → KeepsMadeFinals (with_final f r)
final_made f r made h = all_either IsMadeFinal (is_answering r.side) (r.finals ++ f ∷ []) r.finals (all_append IsMadeFinal r.finals (f ∷ []) h (made, tt)) h

-- one of two changes, by a test
either_made : (t : Bool) (first second : Change) → KeepsMadeFinals first.request → KeepsMadeFinals second.request → KeepsMadeFinals (cond t first second).request
either_made true first second so not_so = so
either_made false first second so not_so = not_so

module _ (server : Server) (now : ℕ) (r : OpenRequest) (h : KeepsMadeFinals r) where
  -- with a branch in another phase, no final answer more
  phase_made : (acks : List Packet) (relayed : Option Upward) (b : Branch) (phase : Phase)
      → KeepsMadeFinals (settled server now acks relayed (with_phase b phase r)).request
  phase_made acks relayed b phase = settled_made server now acks relayed (with_phase b phase r) h

  -- with a branch that is given up with one of these statuses
  given_up_made : (b : Branch) (status : ℕ) → (status ≡ 408) ⊎ ((status ≡ 487) ⊎ (status ≡ 503))
      → KeepsMadeFinals (settled server now [] None (given_up b status r)).request
  given_up_made b status is = settled_made server now [] None (given_up b status r) (final_made (record { status = status; message = None }) (with_phase b Ended r)
      (λ none. is) h)

  -- with the first final answer of a branch, after which the others are to be cancelled, or not
  answered_made : (acks : List Packet) (relayed : Option Upward) (c : Branch) (phase : Phase) (status : ℕ) (m : Message) (t : Bool)
      → KeepsMadeFinals (settled server now acks relayed (cond t (marked (with_final (final_of status m) (with_phase c phase r)))
      (with_final (final_of status m) (with_phase c phase r)))).request
  answered_made acks relayed c phase status m true =
      settled_made server now acks relayed (marked (with_final (final_of status m) (with_phase c phase r)))
      (final_made (final_of status m) (with_phase c phase r) (λ none. absurd (cc)) h)
  answered_made acks relayed c phase status m false =
      settled_made server now acks relayed (with_final (final_of status m) (with_phase c phase r))
      (final_made (final_of status m) (with_phase c phase r) (λ none. absurd (cc)) h)

  -- a response to the request of a branch
  target_made : (b : Branch) (status : ℕ) (m : Message) → KeepsMadeFinals (target_responded server now r b status m).request
  target_made b status m =
      either_made (is_provisional status) (settled server now [] (relayed_provisional r b status m) (with_phase b (heard r now status b.phase) r))
      (cond (is_final b.phase) (settled server now [] (further r b b.phase status m) r)
      (settled server now (acks_of server r b status m) (relayed_success r b status m) (with_answer r b now status m)))
      (phase_made [] (relayed_provisional r b status m) b (heard r now status b.phase))
      (either_made (is_final b.phase) (settled server now [] (further r b b.phase status m) r)
      (settled server now (acks_of server r b status m) (relayed_success r b status m) (with_answer r b now status m))
      (settled_made server now [] (further r b b.phase status m) r h)
      (answered_made (acks_of server r b status m) (relayed_success r b status m) (told_to r b status m) (Done (now + linger r) status) status m
      (is_invite r && (is_success status || is_decline status))))

  -- a response to a CANCEL
  cancel_made : (b : Branch) (status : ℕ) (m : Message) → KeepsMadeFinals (cancel_responded server now r b status m).request
  cancel_made b status m =
      either_made (is_provisional status) (settled server now [] None (with_phase b (other_heard b.phase) r))
      (cond (is_final b.phase) (settled server now [] None r) (settled server now [] None (with_phase b (Done (now + 5000) status) r)))
      (phase_made [] None b (other_heard b.phase))
      (either_made (is_final b.phase) (settled server now [] None r) (settled server now [] None (with_phase b (Done (now + 5000) status) r))
      (settled_made server now [] None r h)
      (phase_made [] None b (Done (now + 5000) status)))

  -- the deadline of a branch to a target
  target_overdue_made : (b : Branch) (phase : Phase) → KeepsMadeFinals (settled server now [] None (target_overdue r b phase)).request
  target_overdue_made b (Unheard due) = given_up_made b 408 (inl refl)
  target_overdue_made b (Heard due) = by_method (is_invite r) where
    by_method : (t : Bool)
        → KeepsMadeFinals (settled server now [] None (cond t (record r {
          branches = map (λ (x : Branch). cond (is_same_branch x b) (record x { wants_cancel = true }) x)
              r.branches;
        }) (given_up b 408 r))).request
    by_method true = settled_made server now [] None (record r {
      branches = map (λ (x : Branch). cond (is_same_branch x b) (record x { wants_cancel = true }) x)
          r.branches;
    }) h
    by_method false = given_up_made b 408 (inl refl)
  target_overdue_made b (Cancelled due) = given_up_made b 487 (inr (inl refl))
  target_overdue_made b (Done due status) = phase_made [] None b Ended
  target_overdue_made b Ended = settled_made server now [] None r h

  -- a deadline
  overdue_made : (change : Change) → IsOverdue server now r change → KeepsMadeFinals change.request
  overdue_made _ (OfSide passes) = settled_made server now [] None (record r { side = Closed }) h
  overdue_made _ (OfBranch b there passes) = by_kind b.is_cancel where
    by_kind : (t : Bool) → KeepsMadeFinals (settled server now [] None (cond t (with_phase b Ended r) (target_overdue r b b.phase))).request
    by_kind true = phase_made [] None b Ended
    by_kind false = target_overdue_made b b.phase

  -- a CANCEL of the caller's
  cancelled_made : (t : Bool) → KeepsMadeFinals (settled server now [] None (cond t (marked r) r)).request
  cancelled_made true = settled_made server now [] None (marked r) h
  cancelled_made false = settled_made server now [] None r h

  -- each change
  pub change_made : (state : ProxyState) (act : Act) (change : Change) (again : List Packet) → IsChangeAt server state act now r change again
      → KeepsMadeFinals change.request
  change_made state act _ _ (ByResponse a bytes m status reason b said is_response is_for there) =
      either_made b.is_cancel (cancel_responded server now r b status m) (target_responded server now r b status m) (cancel_made b status m) (target_made b status m)
  change_made state act change _ (ByDeadline _ passes) = overdue_made change passes
  change_made state act _ _ (ByFault at ticket b act_is number_same fails) = given_up_made b 503 (inr (inr refl))
  change_made state act _ _ (ByCancel a bytes m short key said is_cancel key_is found) = cancelled_made (is_invite r && is_answering r.side)

-- ---- the other parts of a step

-- a request of which something went again
resent_made : (server : Server) (now : ℕ) (r : OpenRequest) (packets : List Packet) (next : OpenRequest) → IsResent server now r packets next → KeepsMadeFinals r
    → KeepsMadeFinals next
resent_made server now r _ _ (OfAnswer is) h = h
resent_made server now r _ _ (OfRequest b there is) h = h

-- one whose answer was acknowledged
acknowledged_made : (now : ℕ) (r : OpenRequest) → KeepsMadeFinals r → KeepsMadeFinals (acknowledged now r)
acknowledged_made now r h = by_test (is_invite r && was_refused r.answer) where
  by_test : (t : Bool) → KeepsMadeFinals (cond t (record r { side = acknowledged_side now r.side }) r)
  by_test true = h
  by_test false = h

-- answers that go up before a request settles
tried_made : (now : ℕ) (us : List Upward) (r : OpenRequest) → KeepsMadeFinals r → KeepsMadeFinals (tried now us r)
tried_made now [] r h = h
tried_made now (u ∷ us) r h = tried_made now us (answered now u r) (upward_made now (Some u) r h)

-- a request that is opened
opening_made : (server : Server) (a : Arrival) (m : Message) (r : OpenRequest) (packets : List Packet) → IsOpening server a m r packets → KeepsMadeFinals r
opening_made server a m _ _ (Answered status extras final) = tt
opening_made server a m _ _ (Sent first others begun) =
    let fork : OpenRequest = forking a m (first ∷ others) in
    let none : List Branch = filter (λ (b : Branch). not (is_some b.address)) (first ∷ others) in
    settled_made server a.now [] None (tried a.now (trying server fork) fork)
    (tried_made a.now (trying server fork) fork
    (all_map IsMadeFinal (λ (b : Branch). record { status = 503; message = None }) none
    (all_every (λ (b : Branch). IsMadeFinal (record { status = 503; message = None })) (λ b without. inr (inr refl)) none)))

-- ---- a step

module _ (server : Server) (state : ProxyState) (act : Act) (now : ℕ) where
  -- what a part of a step makes of the open requests
  part_made : (requests after : List OpenRequest) (firsts again : List Packet) → IsPart server state act now requests after firsts again
      → AllByRecursion KeepsMadeFinals requests → AllByRecursion KeepsMadeFinals after
  part_made requests after firsts again (Stays same none none_again) h = subst (AllByRecursion KeepsMadeFinals) (sym same) h
  part_made requests after firsts again (Passes a m address within is_ack same sends none_again) h = subst (AllByRecursion KeepsMadeFinals) (sym same) h
  part_made requests after firsts again (Copies a bytes m short key r said no_ack key_is is_open same none goes) h = subst (AllByRecursion KeepsMadeFinals) (sym same) h
  part_made requests after firsts again (TurnsAway a bytes m short r said key_is no_ack begins is_full same none_again) h =
      subst (AllByRecursion KeepsMadeFinals) (sym same) h
  part_made requests after firsts again (Opens a bytes m short r said key_is no_ack at begins has_room is_new same none_again) h =
      subst (AllByRecursion KeepsMadeFinals) (sym same) (all_push KeepsMadeFinals requests r h (opening_made server a m r firsts begins))
  part_made requests after firsts again (Changes r change there changes same sends) h =
      subst (AllByRecursion KeepsMadeFinals) (sym same)
      (all_replaced KeepsMadeFinals change.request requests h (λ stays. change_made server now r (all_contains KeepsMadeFinals requests r h there) state act change again
      changes))
  part_made requests after firsts again (Resends r later there goes same none) h =
      subst (AllByRecursion KeepsMadeFinals) (sym same) (all_replaced KeepsMadeFinals later requests h
      (λ stays. resent_made server now r again later goes (all_contains KeepsMadeFinals requests r h there)))
  part_made requests after firsts again (Acknowledges r there same none none_again) h =
      subst (AllByRecursion KeepsMadeFinals) (sym same)
      (all_replaced KeepsMadeFinals (acknowledged now r) requests h (λ stays. acknowledged_made now r (all_contains KeepsMadeFinals requests r h there)))

  -- what all its parts do
  parts_made : (requests after : List OpenRequest) (firsts again : List Packet) → AreParts server state act now requests after firsts again
      → AllByRecursion KeepsMadeFinals requests → AllByRecursion KeepsMadeFinals after
  parts_made requests after firsts again (One part) h = part_made requests after firsts again part h
  parts_made requests after firsts again (Two middle earlier r change first there still changes same sends none_again) h =
      part_made middle after (change_packets change) [] (Changes r change still changes same refl) (part_made requests middle earlier [] first h)

-- ---- a run

-- the final answers that all open requests keep at the end of a run
pub made_of_chain : (server : Server) (first : ℕ) (history : List Link) (last : ProxyState) → IsChain server (first_state first) history last
    → AllByRecursion (λ (r : OpenRequest). AllByRecursion (λ (f : Final). f.message ≡ None → (f.status ≡ 408) ⊎ ((f.status ≡ 487) ⊎ (f.status ≡ 503))) r.finals)
    last.requests
made_of_chain server first [] last chain = subst (λ (s : ProxyState). AllByRecursion KeepsMadeFinals s.requests) (sym chain) tt
made_of_chain server first (link ∷ history) last chain =
    let has : HasParts (under server link.config) link.before link.act link.out link.after =
    step_parts (under server link.config) link.before link.act link.out link.after chain.1 in
    subst (λ (s : ProxyState). AllByRecursion KeepsMadeFinals s.requests) (sym chain.0)
    (parts_made (under server link.config) link.before link.act link.after.moment link.before.requests link.after.requests _ _ has.parts
    (made_of_chain server first history link.before chain.2))
