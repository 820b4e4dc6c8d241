-- How many final answers some packets are to the caller of a number, and how many of them are no 2xx.
use Rattle.std.proofs.Common.{◌≡◌, ◌⊎◌, inl, inr, ℕ, zero, suc, ◌+◌, ◌≤◌, Bool, true, false, not, ◌&&◌, ◌==◌, List, [], ◌∷◌, ◌++◌, refl, sym, ap, subst, ◌∙◌, arith}
use Rattle.std.proofs.Common.{count_by}
use Rattle.std.specs.List.{AllByRecursion}
use Rattle.sip_message_form.specs.Text.{text_of}
use Rattle.sip_event.specs.declared.packet.Packet.{Packet}
use Rattle.model_steps.specs.state.declared.open_request.OpenRequest.{OpenRequest}
use Rattle.model_steps.specs.state.declared.open_request.Upward.{Upward}
use Rattle.model_steps.specs.state.State.{is_invite, is_answering, is_success, is_provisional}
use Rattle.model_steps.specs.context_model.Sending.{answer_to}
use Rattle.model_steps.specs.context_model.Branches.{Change, has_success}
use Rattle.model_steps.specs.Effect.{upward_packets, change_packets}
use Rattle.sip_model.specs.Order.{is_final_answer, AddsSuccessesAlone, AnswersOnce}
use Rattle.sip_model.specs.FinalAnswers.{begins_final, begins_success, is_final_to}
use Rattle.sip_model.proofs.FinalsText.{provisional_text, success_text}
use Rattle.sip_model.proofs.FinalsKept.{IsKept, IsHonest}
use Rattle.sip_model.proofs.FinalsChanges.{IsNoAnswer, IsSound}
use Rattle.sip_model.proofs.SendingLists.{count_joined, count_none}
use Rattle.sip_model.proofs.Places.{all_weaker, count_at_most, count_cons, none_at, one_at}
use Rattle.sip_model.proofs.Apart.{at_most_one}
use Rattle.sip_model.proofs.OneAnswer.{same_invite}

-- ---- counts

-- how many of some packets are final answers to the caller of a number
abbrev pub finals_in : ℕ → List Packet → ℕ
finals_in n packets = count_by (is_final_to n) packets

-- whether a packet is such an answer, and no 2xx
abbrev pub is_other_to : ℕ → Packet → Bool
is_other_to n p = is_final_to n p && not (begins_success p.bytes)

-- how many are
abbrev pub others_in : ℕ → List Packet → ℕ
others_in n packets = count_by (is_other_to n) packets

-- of three tests the last fails
last_fails : (x y z : Bool) → z ≡ false → (x && y && z) ≡ false
last_fails true true z e = e
last_fails true false z e = refl
last_fails false y z e = refl

-- the middle one
pub middle_fails : (x y z : Bool) → y ≡ false → (x && y && z) ≡ false
middle_fails true true z e = absurd (cc)
middle_fails true false z e = refl
middle_fails false y z e = refl

-- the first
pub first_fails : (x y z : Bool) → x ≡ false → (x && y && z) ≡ false
first_fails true y z e = absurd (cc)
first_fails false y z e = refl

-- both tests pass where this one does
first_passes : (x y : Bool) → (x && y) ≡ true → x ≡ true
first_passes true y e = refl
first_passes false y e = absurd (cc)

-- what isn't final is no other one
not_final_other : (x y : Bool) → x ≡ false → (x && not y) ≡ false
not_final_other true y e = absurd (cc)
not_final_other false y e = refl

-- nor is a 2xx
pub success_no_other : (x y : Bool) → y ≡ true → (x && not y) ≡ false
success_no_other true true e = refl
success_no_other false true e = refl
success_no_other x false e = absurd (cc)

-- those that are no 2xx are final answers
pub others_few : (n : ℕ) (ps : List Packet) → others_in n ps ≤ finals_in n ps
others_few n ps = count_at_most (is_other_to n) (is_final_to n) ps (λ p e. first_passes (is_final_to n p) (not (begins_success p.bytes)) e)

-- what doesn't begin so is none
no_answer_to : (n : ℕ) (p : Packet) → IsNoAnswer p → is_final_to n p ≡ false
no_answer_to n p e = last_fails (p.ticket.datagram == n) (p.ticket.branch == 0) (begins_final p.bytes) e

-- so of a list
pub no_answers : (n : ℕ) (ps : List Packet) → AllByRecursion IsNoAnswer ps → finals_in n ps ≡ 0
no_answers n ps all = count_none (is_final_to n) ps (all_weaker IsNoAnswer (λ (p : Packet). is_final_to n p ≡ false) ps (no_answer_to n) all)

-- ---- what goes to the caller

-- no more packets than final answers
pub up_few : (n : ℕ) (r : OpenRequest) (us : List Upward) → AllByRecursion IsHonest us → finals_in n (upward_packets r us) ≤ count_by is_final_answer us
up_few n r [] all = omega arith
up_few n r (u ∷ us) all = by_test (is_provisional u.status) refl (up_few n r us all.1) where
  p : Packet
  p = answer_to false r (text_of u.message)

  by_test : (t : Bool) → is_provisional u.status ≡ t → finals_in n (upward_packets r us) ≤ count_by is_final_answer us
      → finals_in n (upward_packets r (u ∷ us)) ≤ count_by is_final_answer (u ∷ us)
  by_test true is rest =
      let none = none_at (is_final_to n p) (no_answer_to n p (provisional_text u.status u.message all.0.is_of all.0.low is)) in
      omega (arith, count_cons (is_final_to n) p (upward_packets r us), count_cons is_final_answer u us, none, rest)
  by_test false is rest = omega (
    arith,
    count_cons (is_final_to n) p (upward_packets r us),
    count_cons is_final_answer u us,
    one_at (is_final_answer u) (ap not is),
    at_most_one (is_final_to n p),
    rest,
  )

-- none to any other number
up_beside : (n : ℕ) (r : OpenRequest) (us : List Upward) → (r.number == n) ≡ false → finals_in n (upward_packets r us) ≡ 0
up_beside n r us e = count_none (is_final_to n) (upward_packets r us) (each us) where
  each : (vs : List Upward) → AllByRecursion (λ (p : Packet). is_final_to n p ≡ false) (upward_packets r vs)
  each [] = tt
  each (v ∷ vs) = (first_fails (r.number == n) true (begins_final (text_of v.message)) e, each vs)

-- and none but 2xx, where each final answer is one
up_others : (n : ℕ) (r : OpenRequest) (us : List Upward) → AllByRecursion IsHonest us
    → AllByRecursion (λ (u : Upward). is_final_answer u ≡ true → is_success u.status ≡ true) us → others_in n (upward_packets r us) ≡ 0
up_others n r us all successes = count_none (is_other_to n) (upward_packets r us) (each us all successes) where
  each : (vs : List Upward) → AllByRecursion IsHonest vs → AllByRecursion (λ (u : Upward). is_final_answer u ≡ true → is_success u.status ≡ true) vs
      → AllByRecursion (λ (p : Packet). is_other_to n p ≡ false) (upward_packets r vs)
  each [] honest final = tt
  each (v ∷ vs) honest final = (by_test (is_provisional v.status) refl, each vs honest.1 final.1) where
    p : Packet
    p = answer_to false r (text_of v.message)

    by_test : (t : Bool) → is_provisional v.status ≡ t → is_other_to n p ≡ false
    by_test true is = not_final_other (is_final_to n p) (begins_success p.bytes) (no_answer_to n p (provisional_text v.status v.message honest.0.is_of honest.0.low is))
    by_test false is = success_no_other (is_final_to n p) (begins_success p.bytes) (success_text v.status v.message honest.0.is_of (final.0 (ap not is)))

-- ---- what a change sends

-- its final answers are those that go to the caller
pub change_finals : (n : ℕ) (r : OpenRequest) (change : Change) → IsSound r change → finals_in n (change_packets change)
    ≡ finals_in n (upward_packets change.request change.upward)
change_finals n r change h =
    let up = upward_packets change.request change.upward in
    omega (
      arith,
      count_joined (is_final_to n) (change.acks ++ up) change.cancels,
      count_joined
          (is_final_to n) change.acks up,
      no_answers n change.acks h.acks,
      no_answers n change.cancels h.cancels,
    )

-- so are those that are no 2xx
change_others : (n : ℕ) (r : OpenRequest) (change : Change) → IsSound r change → others_in n (change_packets change)
    ≡ others_in n (upward_packets change.request change.upward)
change_others n r change h =
    let up = upward_packets change.request change.upward in
    omega (
      arith,
      count_joined (is_other_to n) (change.acks ++ up) change.cancels,
      count_joined (is_other_to n) change.acks up,
      no_answers n change.acks h.acks,
      no_answers n change.cancels h.cancels,
      others_few n change.acks,
      others_few n change.cancels,
    )

-- none to any other number
pub change_beside : (n : ℕ) (r : OpenRequest) (change : Change) → IsSound r change → (r.number == n) ≡ false → finals_in n (change_packets change) ≡ 0
change_beside n r change h e = change_finals n r change h ∙ up_beside n change.request change.upward (ap (λ (v : ℕ). v == n) h.is_like.number_is ∙ e)

-- ---- a request and what its caller was sent

-- What a request's caller was sent fits it: nothing final while it owes an answer, none but 2xx where its last answer is a 2xx of an INVITE; an INVITE is one that came.
pub record IsFit (Invite : ℕ → Type 0) (sent : List Packet) (r : OpenRequest) : Type 0 where
  pub owes : is_answering r.side ≡ true → finals_in r.number sent ≡ 0
  pub accepts : is_invite r ≡ true → has_success r.answer ≡ true → others_in r.number sent ≡ 0
  pub invites : is_invite r ≡ true → Invite r.number
  pub keeps : AllByRecursion IsKept r.finals

-- one final answer was sent, or several 2xx of an INVITE
abbrev pub IsOne : (ℕ → Type 0) → ℕ → List Packet → Type 0
IsOne Invite n sent = (finals_in n sent ≤ 1) ⊎ (Invite n × (others_in n sent ≡ 0))

-- a request fits packets that count as others do
pub fit_same : (Invite : ℕ → Type 0) (sent other : List Packet) (r : OpenRequest) → finals_in r.number other ≡ finals_in r.number sent
    → others_in r.number other ≡ others_in r.number sent → IsFit Invite sent r → IsFit Invite other r
fit_same Invite sent other r finals others h = record
    { owes = λ answering. finals ∙ h.owes answering; accepts = λ invite success. others ∙ h.accepts invite success; invites = h.invites; keeps = h.keeps }

-- so does the bound
pub one_same : (Invite : ℕ → Type 0) (n : ℕ) (sent other : List Packet) → finals_in n other ≡ finals_in n sent → others_in n other ≡ others_in n sent
    → IsOne Invite n sent
    → IsOne Invite n other
one_same Invite n sent other finals others (inl few) = inl (omega arith)
one_same Invite n sent other finals others (inr all) = inr (all.0, others ∙ all.1)

-- what is sent to others changes neither count
beside_finals : (n : ℕ) (packets sent : List Packet) → finals_in n packets ≡ 0 → finals_in n (packets ++ sent) ≡ finals_in n sent
beside_finals n packets sent none = omega (arith, count_joined (is_final_to n) packets sent)

beside_others : (n : ℕ) (packets sent : List Packet) → finals_in n packets ≡ 0 → others_in n (packets ++ sent) ≡ others_in n sent
beside_others n packets sent none = omega (arith, count_joined (is_other_to n) packets sent, others_few n packets)

-- so a request fits
pub fit_beside : (Invite : ℕ → Type 0) (packets sent : List Packet) (r : OpenRequest) → finals_in r.number packets ≡ 0 → IsFit Invite sent r
    → IsFit Invite (packets ++ sent) r
fit_beside Invite packets sent r none h = fit_same Invite sent (packets ++ sent) r (beside_finals r.number packets sent none) (beside_others r.number packets sent none) h

-- and the bound stays
pub one_beside : (Invite : ℕ → Type 0) (n : ℕ) (packets sent : List Packet) → finals_in n packets ≡ 0 → IsOne Invite n sent → IsOne Invite n (packets ++ sent)
one_beside Invite n packets sent none h = one_same Invite n sent (packets ++ sent) (beside_finals n packets sent none) (beside_others n packets sent none) h

-- ---- a change of a request

-- an INVITE that was one stays one
stays_invite : (Invite : ℕ → Type 0) (sent : List Packet) (r : OpenRequest) (change : Change) → IsSound r change → IsFit Invite sent r → is_invite change.request ≡ true
    → Invite change.request.number
stays_invite Invite sent r change sound fit invite = subst Invite (sym sound.is_like.number_is)
    (fit.invites (sym (same_invite change.request r sound.is_like.key_is) ∙ invite))

-- both lists together
both_finals : (n : ℕ) (r : OpenRequest) (change : Change) (sent : List Packet) → IsSound r change
    → finals_in n (change_packets change ++ sent) ≡ finals_in n (upward_packets change.request change.upward) + finals_in n sent
both_finals n r change sent h = omega (arith, count_joined (is_final_to n) (change_packets change) sent, change_finals n r change h)

both_others : (n : ℕ) (r : OpenRequest) (change : Change) (sent : List Packet) → IsSound r change
    → others_in n (change_packets change ++ sent) ≡ others_in n (upward_packets change.request change.upward) + others_in n sent
both_others n r change sent h = omega (arith, count_joined (is_other_to n) (change_packets change) sent, change_others n r change h)

-- what a change leaves: the bound, and a request that fits
pub record IsLeft (Invite : ℕ → Type 0) (sent : List Packet) (r : OpenRequest) (change : Change) : Type 0 where
  pub one : IsOne Invite r.number (change_packets change ++ sent)
  pub fits : IsFit Invite (change_packets change ++ sent) change.request

-- one of a request that owes its answer
pub once_left : (Invite : ℕ → Type 0) (sent : List Packet) (r : OpenRequest) (change : Change) → AnswersOnce change → IsSound r change → IsFit Invite sent r
    → is_answering r.side ≡ true → IsLeft Invite sent r change
once_left Invite sent r change h sound fit answering = record {
  one = inl (omega (arith, both_finals r.number r change sent sound, few, h.is_one, none));
  fits = record {
    owes = λ still. subst (λ (n : ℕ). finals_in n (change_packets change ++ sent) ≡ 0) (sym sound.is_like.number_is)
        (by_count (count_by is_final_answer change.upward) refl still);
    accepts = λ invite success. subst (λ (n : ℕ). others_in n (change_packets change ++ sent) ≡ 0) (sym sound.is_like.number_is)
        (omega (
          arith,
          both_others r.number r change sent sound,
          others_few r.number sent,
          none,
          up_others r.number change.request change.upward sound.honest
              (all_weaker (λ (u : Upward). is_final_answer u ≡ true → has_success change.request.answer ≡ is_success u.status)
              (λ (u : Upward). is_final_answer u ≡ true → is_success u.status ≡ true) change.upward
              (λ u last final. sym (last final) ∙ success) h.is_last),
        ));
    invites = stays_invite Invite sent r change sound fit;
    keeps = sound.is_like.keeps;
  };
} where
  none : finals_in r.number sent ≡ 0
  none = fit.owes answering

  few : finals_in r.number (upward_packets change.request change.upward) ≤ count_by is_final_answer change.upward
  few = up_few r.number change.request change.upward sound.honest

  by_count : (count : ℕ) → count_by is_final_answer change.upward ≡ count → is_answering change.request.side ≡ true
      → finals_in r.number (change_packets change ++ sent) ≡ 0
  by_count zero e still = omega (arith, both_finals r.number r change sent sound, few, none, e)
  by_count (suc count) e still = let answered = h.is_answered (omega (arith, e)) in absurd (cc)

-- where a final answer goes up, what holds of each holds
some_final : (X : Type 0) (us : List Upward) → AllByRecursion (λ (u : Upward). is_final_answer u ≡ true → X) us → 1 ≤ count_by is_final_answer us → X
some_final X [] all some = absurd (omega arith)
some_final X (u ∷ us) all some = by_test (is_final_answer u) refl (λ more. some_final X us all.1 more) where
  by_test : (t : Bool) → is_final_answer u ≡ t → (1 ≤ count_by is_final_answer us → X) → X
  by_test true is rest = all.0 is
  by_test false is rest = rest (omega (arith, some, count_cons is_final_answer u us, none_at (is_final_answer u) is))

-- one of a request that had its answer
pub further_left : (Invite : ℕ → Type 0) (sent : List Packet) (r : OpenRequest) (change : Change) → AddsSuccessesAlone r change → IsSound r change → IsFit Invite sent r
    → IsOne Invite r.number sent → IsLeft Invite sent r change
further_left Invite sent r change h sound fit one = record {
  one = by_count (count_by is_final_answer change.upward) refl one;
  fits = record {
    owes = λ answering. absurd (cc (answering, h.stays_answered));
    accepts = λ invite success. subst (λ (n : ℕ). others_in n (change_packets change ++ sent) ≡ 0) (sym sound.is_like.number_is)
        (omega (
          arith,
          both_others r.number r change sent sound,
          successes,
          fit.accepts (sym (same_invite change.request r sound.is_like.key_is) ∙ invite)
              (sym h.keeps_success ∙ success),
        ));
    invites = stays_invite Invite sent r change sound fit;
    keeps = sound.is_like.keeps;
  };
} where
  successes : others_in r.number (upward_packets change.request change.upward) ≡ 0
  successes = up_others r.number change.request change.upward sound.honest
      (all_weaker (λ (u : Upward). is_final_answer u ≡ true → (is_success u.status ≡ true) × (is_invite r ≡ true) × (has_success r.answer ≡ true))
      (λ (u : Upward). is_final_answer u ≡ true → is_success u.status ≡ true) change.upward
      (λ u is final. (is final).0) h.are_further)

  few : finals_in r.number (upward_packets change.request change.upward) ≤ count_by is_final_answer change.upward
  few = up_few r.number change.request change.upward sound.honest

  accepting : 1 ≤ count_by is_final_answer change.upward → (is_invite r ≡ true) × (has_success r.answer ≡ true)
  accepting some = some_final ((is_invite r ≡ true) × (has_success r.answer ≡ true)) change.upward
      (all_weaker (λ (u : Upward). is_final_answer u ≡ true → (is_success u.status ≡ true) × (is_invite r ≡ true) × (has_success r.answer ≡ true))
      (λ (u : Upward). is_final_answer u ≡ true → (is_invite r ≡ true) × (has_success r.answer ≡ true)) change.upward
      (λ u is final. ((is final).1, (is final).2)) h.are_further) some

  by_count : (count : ℕ) → count_by is_final_answer change.upward ≡ count → IsOne Invite r.number sent → IsOne Invite r.number (change_packets change ++ sent)
  by_count zero e before = one_same Invite r.number sent (change_packets change ++ sent) (omega (arith, both_finals r.number r change sent sound, few, e))
      (omega (arith, both_others r.number r change sent sound, successes)) before
  by_count (suc count) e before =
      let parts = accepting (omega (arith, e)) in
      inr (fit.invites parts.0, omega (arith, both_others r.number r change sent sound, successes, fit.accepts parts.0 parts.1))
