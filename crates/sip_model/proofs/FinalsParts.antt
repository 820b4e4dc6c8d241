-- What each part of a step leaves of the bound on final answers.
use Rattle.std.proofs.Common.{◌≡◌, inl, inr, ℕ, ◌+◌, ◌<◌, ◌≤◌, Bool, true, false, ◌&&◌, cond, ◌==◌, List, [], ◌∷◌, ◌++◌, Some, refl, sym, ap, subst, ◌∙◌, arith, count_by}
use Rattle.std.proofs.Common.{bytes_eq, codes}
use Rattle.std.specs.List.{AllByRecursion}
use Rattle.sip_message_form.specs.declared.message.Message.{Message}
use Rattle.sip_transaction_table.specs.Key.{key_of}
use Rattle.sip_event.specs.declared.packet.Packet.{Packet}
use Rattle.sip_event.specs.declared.event.Event.TheVariants.{Datagram, Time, Fault}
use Rattle.model_steps.specs.state.declared.server.Server.{Server}
use Rattle.model_steps.specs.state.declared.open_request.Side.{Side}
use Rattle.model_steps.specs.state.declared.open_request.Side.TheVariants.{Answering, Closing, Acknowledged, Closed}
use Rattle.model_steps.specs.state.declared.open_request.OpenRequest.{OpenRequest}
use Rattle.model_steps.specs.state.declared.proxy_state.ProxyState.{ProxyState}
use Rattle.model_steps.specs.state.Arrival.{Arrival}
use Rattle.model_steps.specs.state.State.{is_invite, is_answering}
use Rattle.model_steps.specs.context_model.Branches.{Change, acknowledged, acknowledged_side, was_refused}
use Rattle.sip_edit.specs.Onward.{onward_uri}
use Rattle.model_steps.specs.context_model.Retransmission.{IsResent, OfAnswer, OfRequest}
use Rattle.model_steps.specs.Effect.{replaced, change_packets, ack_packet, method_of}
use Rattle.model_steps.specs.Step.{Act, Given, Passing}
use Rattle.sip_model.specs.Access.{IsSaidAt}
use Rattle.sip_model.specs.Order.{IsChangeOf, AddsSuccessesAlone, AnswersOnce, AreNumbered}
use Rattle.sip_model.specs.Parts.{IsChangeAt, ByResponse, ByDeadline, ByFault, ByCancel, IsOpening, IsPart, Stays, Passes, Copies, TurnsAway, Opens, Changes, Resends}
use Rattle.sip_model.specs.Parts.{Acknowledges, AreParts, One, Two, next_after}
use Rattle.sip_model.specs.FinalAnswers.{is_final_to}
use Rattle.sip_model.proofs.FinalsText.{onward_text}
use Rattle.sip_model.proofs.FinalsLists.{below_apart}
use Rattle.sip_model.proofs.FinalsLists.{all_replaced, all_others, numbered_replaced, numbered_push, numbered_later, number_below}
use Rattle.sip_model.proofs.FinalsChanges.{IsSound, change_sound}
use Rattle.sip_model.proofs.FinalsCounts.{finals_in, others_in, is_other_to, no_answers, others_few, change_beside, IsFit, IsOne, fit_same, one_same, fit_beside}
use Rattle.sip_model.proofs.FinalsCounts.{one_beside, IsLeft, once_left, further_left}
use Rattle.sip_model.proofs.FinalsOpenings.{opened_invite, IsOpened, opening_opened}
use Rattle.sip_model.proofs.SendingLists.{all_joined, count_joined}
use Rattle.sip_model.proofs.Places.{IsIn, all_in, all_weaker, contains_from_in, found_in, in_from_contains}
use Rattle.sip_model.proofs.OneAnswer.{apart_back}
use Rattle.sip_model.proofs.Rising.{number_is}

-- ---- the laws that changes keep

-- what a change of a request that had its final answer sends is further 2xx
abbrev pub LaterLaw : Type 0
LaterLaw = (server : Server) (now : ℕ) (r : OpenRequest) (change : Change) → IsChangeOf server now r change → is_answering r.side ≡ false → AddsSuccessesAlone r change

-- one of a request that hasn't sends at most one
abbrev pub FirstLaw : Type 0
FirstLaw = (server : Server) (now : ℕ) (r : OpenRequest) (change : Change) → IsChangeOf server now r change → is_answering r.side ≡ true → AnswersOnce change

-- ---- all open requests

-- Nothing final went to a number that is still to come, each number had its bound, and each open request fits what its caller was sent.
pub record AreTold (Invite : ℕ → Type 0) (requests : List OpenRequest) (next : ℕ) (sent : List Packet) : Type 0 where
  pub numbered : AreNumbered next requests
  pub none_later : (n : ℕ) → next ≤ n → finals_in n sent ≡ 0
  pub each_one : (n : ℕ) → IsOne Invite n sent
  pub fit : AllByRecursion (IsFit Invite sent) requests

-- at a later number
later_told : (Invite : ℕ → Type 0) (requests : List OpenRequest) (next later : ℕ) (sent : List Packet) → next ≤ later → AreTold Invite requests next sent
    → AreTold Invite requests later sent
later_told Invite requests next later sent low h =
    record { numbered = numbered_later next later requests low h.numbered; none_later = λ n high. h.none_later n (omega arith); each_one = h.each_one; fit = h.fit }

-- of packets that count alike
told_same : (Invite : ℕ → Type 0) (requests : List OpenRequest) (next : ℕ) (sent other : List Packet) → ((n : ℕ) → finals_in n other ≡ finals_in n sent)
    → ((n : ℕ) → others_in n other ≡ others_in n sent)
    → AreTold Invite requests next sent → AreTold Invite requests next other
told_same Invite requests next sent other finals others h = record {
  numbered = h.numbered;
  none_later = λ n high. finals n ∙ h.none_later n high;
  each_one = λ n. one_same Invite n sent other (finals n) (others n) (h.each_one n);
  fit = all_weaker (IsFit Invite sent) (IsFit Invite other) requests (λ r fits. fit_same Invite sent other r (finals r.number) (others r.number) fits) h.fit;
}

-- where INVITEs came that did before
pub told_weaker : (Before After : ℕ → Type 0) (requests : List OpenRequest) (next : ℕ) (sent : List Packet) → ((n : ℕ) → Before n → After n)
    → AreTold Before requests next sent
    → AreTold After requests next sent
told_weaker Before After requests next sent stays h = record {
  numbered = h.numbered;
  none_later = h.none_later;
  each_one = λ n. one (h.each_one n);
  fit = all_weaker (IsFit Before sent) (IsFit After sent) requests
      (λ r fits. record { owes = fits.owes; accepts = fits.accepts; invites = λ invite. stays r.number (fits.invites invite); keeps = fits.keeps }) h.fit;
} where
  one : {n : ℕ} → IsOne Before n sent → IsOne After n sent
  one (inl few) = inl few
  one (inr all) = inr (stays _ all.0, all.1)

-- what sends nothing final leaves all
silent_told : (Invite : ℕ → Type 0) (requests : List OpenRequest) (next : ℕ) (packets sent : List Packet) → ((n : ℕ) → finals_in n packets ≡ 0)
    → AreTold Invite requests next sent → AreTold Invite requests next (packets ++ sent)
silent_told Invite requests next packets sent none h =
    told_same Invite requests next sent (packets ++ sent) (λ n. omega (arith, count_joined (is_final_to n) packets sent, none n))
    (λ n. omega (arith, count_joined (is_other_to n) packets sent, others_few n packets, none n)) h

-- the bound of each number, once one was sent something
each_bound : (Invite : ℕ → Type 0) (packets sent : List Packet) (k : ℕ) → ((n : ℕ) → (k == n) ≡ false → finals_in n packets ≡ 0) → IsOne Invite k (packets ++ sent)
    → ((n : ℕ) → IsOne Invite n sent) → (n : ℕ) → IsOne Invite n (packets ++ sent)
each_bound Invite packets sent k beside one before n = by_test (k == n) refl where
  by_test : (t : Bool) → (k == n) ≡ t → IsOne Invite n (packets ++ sent)
  by_test true e = subst (λ (v : ℕ). IsOne Invite v (packets ++ sent)) (number_is k n e) one
  by_test false e = one_beside Invite n packets sent (beside n e) (before n)

-- nothing final to later numbers
none_to_later : (packets sent : List Packet) (k next : ℕ) → k < next → ((n : ℕ) → (k == n) ≡ false → finals_in n packets ≡ 0)
    → ((n : ℕ) → next ≤ n → finals_in n sent ≡ 0)
    → (n : ℕ) → next ≤ n → finals_in n (packets ++ sent) ≡ 0
none_to_later packets sent k next low beside before n high = omega (
  arith,
  count_joined (is_final_to n) packets sent,
  beside n (below_apart k n (omega arith)),
  before n high,
)

-- ---- one request

-- a request takes the place of the one of its number
replaced_told : (Invite : ℕ → Type 0) (requests : List OpenRequest) (next : ℕ) (packets sent : List Packet) (new : OpenRequest) → new.number < next
    → ((n : ℕ) → (new.number == n) ≡ false → finals_in n packets ≡ 0)
    → IsOne Invite new.number (packets ++ sent) → IsFit Invite (packets ++ sent) new → AreTold Invite requests next sent
    → AreTold Invite (replaced new requests) next (packets ++ sent)
replaced_told Invite requests next packets sent new low beside one fits h = record {
  numbered = numbered_replaced next new requests h.numbered;
  none_later = none_to_later packets sent new.number next low beside h.none_later;
  each_one = each_bound Invite packets sent new.number beside one h.each_one;
  fit = all_replaced (IsFit Invite sent) (IsFit Invite (packets ++ sent)) new requests (h.numbered.differ new.number)
      (λ x apart before. fit_beside Invite packets sent x (beside x.number (apart_back x.number new.number apart)) before) fits h.fit;
}

-- a request is turned away
turned_told : (Invite : ℕ → Type 0) (requests : List OpenRequest) (next : ℕ) (packets sent : List Packet) (r : OpenRequest) → IsOpened Invite sent next r packets
    → AreTold Invite requests next sent → AreTold Invite requests (next + 1) (packets ++ sent)
turned_told Invite requests next packets sent r opened h = record {
  numbered = numbered_later next (next + 1) requests (omega arith) h.numbered;
  none_later = none_to_later packets sent next (next + 1) (omega arith) opened.beside (λ n high. h.none_later n (omega arith));
  each_one = each_bound Invite packets sent next opened.beside opened.one h.each_one;
  fit = all_others (IsFit Invite sent) (IsFit Invite (packets ++ sent)) next requests (h.numbered.are_below next (omega arith))
      (λ x apart before. fit_beside Invite packets sent x (opened.beside x.number (apart_back x.number next apart)) before) h.fit;
}

-- a request is opened
opened_told : (Invite : ℕ → Type 0) (requests : List OpenRequest) (next : ℕ) (packets sent : List Packet) (r : OpenRequest) → IsOpened Invite sent next r packets
    → AreTold Invite requests next sent
    → AreTold Invite (requests ++ r ∷ []) (next + 1) (packets ++ sent)
opened_told Invite requests next packets sent r opened h =
    let turned = turned_told Invite requests next packets sent r opened h in
    record {
      numbered = numbered_push next r requests opened.number_is h.numbered;
      none_later = turned.none_later;
      each_one = turned.each_one;
      fit = all_joined (IsFit Invite (packets ++ sent)) requests (r ∷ []) turned.fit (opened.fits, tt);
    }

-- ---- changes

-- a change, as the laws on changes take it
change_of : (server : Server) (state : ProxyState) (act : Act) (now : ℕ) (r : OpenRequest) (change : Change) (again : List Packet)
    → IsChangeAt server state act now r change again → IsChangeOf server now r change
change_of server state act now r _ _ (ByResponse a bytes m status reason b said start for there) = IsChangeOf.ByResponse b status m there
change_of server state act now r _ _ (ByDeadline change passes) = IsChangeOf.ByDeadline change passes
change_of server state act now r _ _ (ByFault at ticket b is number at_branch) = let place = found_in _ r.branches b at_branch in IsChangeOf.ByFault b ticket.branch
    (contains_from_in r.branches b place.0) place.1
change_of server state act now r _ _ (ByCancel a bytes m short key said is key_is at_request) = IsChangeOf.ByCancel

-- what it leaves
change_left : LaterLaw → FirstLaw → (Invite : ℕ → Type 0) (sent : List Packet) (server : Server) (now : ℕ) (r : OpenRequest) (change : Change) (owes : Bool)
    → is_answering r.side ≡ owes → IsChangeOf server now r change → IsSound r change
    → IsFit Invite sent r → IsOne Invite r.number sent → IsLeft Invite sent r change
change_left later first Invite sent server now r change true e is sound fit one = once_left Invite sent r change (first server now r change is e) sound fit e
change_left later first Invite sent server now r change false e is sound fit one = further_left Invite sent r change (later server now r change is e) sound fit one

-- of all
change_told : LaterLaw → FirstLaw
    → (Invite : ℕ → Type 0) (server : Server) (state : ProxyState) (act : Act) (now : ℕ) (r : OpenRequest) (change : Change) (again : List Packet)
    (requests : List OpenRequest)
    (next : ℕ) (sent : List Packet)
    → IsIn r requests → IsChangeAt server state act now r change again → AreTold Invite requests next sent
    → AreTold Invite (replaced change.request requests) next (change_packets change ++ sent)
change_told later first Invite server state act now r change again requests next sent there is h =
    let fit : IsFit Invite sent r = all_in (IsFit Invite sent) requests r h.fit there in
    let sound : IsSound r change = change_sound server state act now r change again is fit.keeps in
    let left : IsLeft Invite sent r change = change_left later first Invite sent server now r change (is_answering r.side) refl
    (change_of server state act now r change again is) sound fit (h.each_one r.number) in
    let number : change.request.number ≡ r.number = sound.is_like.number_is in
    let below : r.number < next = number_below next requests r h.numbered there in
    replaced_told Invite requests next (change_packets change) sent change.request (omega arith)
    (λ n apart. change_beside n r change sound (ap (λ (v : ℕ). v == n) (sym number) ∙ apart))
    (subst (λ (n : ℕ). IsOne Invite n (change_packets change ++ sent)) (sym number) left.one) left.fits h

-- something goes again
resent_fit : (Invite : ℕ → Type 0) (sent : List Packet) (server : Server) (now : ℕ) (r : OpenRequest) (packets : List Packet) (next : OpenRequest)
    → IsResent server now r packets next → IsFit Invite sent r → IsFit Invite sent next × (next.number ≡ r.number)
resent_fit Invite sent server now r _ _ (OfAnswer is) h = (record { owes = h.owes; accepts = h.accepts; invites = h.invites; keeps = h.keeps }, refl)
resent_fit Invite sent server now r _ _ (OfRequest b there is) h = (record { owes = h.owes; accepts = h.accepts; invites = h.invites; keeps = h.keeps }, refl)

-- an ACK comes
acknowledged_fit : (Invite : ℕ → Type 0) (sent : List Packet) (now : ℕ) (r : OpenRequest) → IsFit Invite sent r
    → IsFit Invite sent (acknowledged now r) × ((acknowledged now r).number ≡ r.number)
acknowledged_fit Invite sent now r h = by_test (is_invite r && was_refused r.answer) where
  side : (s : Side) → is_answering (acknowledged_side now s) ≡ is_answering s
  side Answering = refl
  side (Closing due) = refl
  side (Acknowledged due) = refl
  side Closed = refl

  by_test : (t : Bool) → IsFit Invite sent (cond t (record r { side = acknowledged_side now r.side }) r) ×
      ((cond t (record r { side = acknowledged_side now r.side }) r).number ≡ r.number)
  by_test true = (record { owes = λ answering. h.owes (sym (side r.side) ∙ answering); accepts = h.accepts; invites = h.invites; keeps = h.keeps }, refl)
  by_test false = (h, refl)

-- either
kept_told : (Invite : ℕ → Type 0) (requests : List OpenRequest) (next : ℕ) (sent : List Packet) (r new : OpenRequest) → IsIn r requests → new.number ≡ r.number
    → IsFit Invite sent new → AreTold Invite requests next sent
    → AreTold Invite (replaced new requests) next sent
kept_told Invite requests next sent r new there number fits h =
    let below : r.number < next = number_below next requests r h.numbered there in
    replaced_told Invite requests next [] sent new (omega arith) (λ n apart. refl) (h.each_one new.number) fits h

-- ---- parts

-- what a step's datagram says comes with the next number
pub said_next : (state : ProxyState) (act : Act) (a : Arrival) (bytes : List ℕ) (m : Message) (short : Bool) → IsSaidAt state act a bytes m short
    → (a.number ≡ state.next) × (next_after state act ≡ state.next + 1)
said_next state act a bytes m short h = (ap (λ (x : Arrival). x.number) h.is_arrival, ap (next_after state) h.is_act)

-- no step takes a number back
pub next_low : (state : ProxyState) (act : Act) → state.next ≤ next_after state act
next_low state (Given (Datagram at word from bytes)) = omega arith
next_low state (Given (Time at)) = omega arith
next_low state (Given (Fault at ticket)) = omega arith
next_low state (Passing at) = omega arith

-- an INVITE that a step's datagram says is one that came
abbrev pub ComesAs : (ℕ → Type 0) → ProxyState → Act → Type 0
ComesAs Invite state act = (a : Arrival) (bytes : List ℕ) (m : Message) (short : Bool) → IsSaidAt state act a bytes m short
    → bytes_eq (method_of m.start) (codes "INVITE") ≡ true → Invite a.number

-- a request that a datagram brings
brought : (Invite : ℕ → Type 0) (sent : List Packet) (server : Server) (state : ProxyState) (act : Act) (a : Arrival) (bytes : List ℕ) (m : Message) (short : Bool)
    (r : OpenRequest) (firsts : List Packet) → ComesAs Invite state act
    → IsSaidAt state act a bytes m short → key_of m ≡ Some r.key → bytes_eq (method_of m.start) (codes "ACK") ≡ false → IsOpening server a m r firsts
    → finals_in state.next sent ≡ 0 → IsOpened Invite sent state.next r firsts
brought Invite sent server state act a bytes m short r firsts comes said key_is no_ack opening none =
    let number : a.number ≡ state.next = (said_next state act a bytes m short said).0 in
    subst (λ (n : ℕ). IsOpened Invite sent n r firsts) number
    (opening_opened Invite sent server a m r firsts opening (λ invite. comes a bytes m short said (opened_invite m r.key key_is no_ack invite))
    (ap (λ (n : ℕ). finals_in n sent) number ∙ none))

-- what each part leaves
part_told : LaterLaw → FirstLaw
    → (Invite : ℕ → Type 0) (sent : List Packet) (server : Server) (state : ProxyState) (act : Act) (now : ℕ) (requests after : List OpenRequest)
    (firsts again : List Packet)
    → ComesAs Invite state act
    → IsPart server state act now requests after firsts again → AreTold Invite requests state.next sent → AreTold Invite after (next_after state act) (firsts ++ sent)
part_told later first Invite sent server state act now requests after firsts again comes part h = by_part part where
  moved : AreTold Invite requests (next_after state act) sent
  moved = later_told Invite requests state.next (next_after state act) sent (next_low state act) h

  is : (rs : List OpenRequest) (packets : List Packet) → after ≡ rs → firsts ≡ packets → AreTold Invite rs (next_after state act) (packets ++ sent)
      → AreTold Invite after (next_after state act) (firsts ++ sent)
  is rs packets e p told = subst (λ (xs : List OpenRequest). AreTold Invite xs (next_after state act) (firsts ++ sent)) (sym e)
      (subst (λ (ps : List Packet). AreTold Invite rs (next_after state act) (ps ++ sent)) (sym p) told)

  by_part : IsPart server state act now requests after firsts again → AreTold Invite after (next_after state act) (firsts ++ sent)
  by_part (Stays e p q) = is requests [] e p moved
  by_part (Passes a m address within ack e p q) =
      is requests (ack_packet server a m address ∷ []) e p
      (silent_told Invite requests (next_after state act) (ack_packet server a m address ∷ []) sent
      (λ n. no_answers n (ack_packet server a m address ∷ []) (onward_text server a.number m a.from (onward_uri server.config.own m) 1 ack, tt)) moved)
  by_part (Copies a bytes m short key r said no_ack key_is at_key e p q) = is requests [] e p moved
  by_part (TurnsAway a bytes m short r said key_is no_ack opening full e q) =
      let opened = brought Invite sent server state act a bytes m short r firsts comes said key_is no_ack opening (h.none_later state.next (omega arith)) in
      let number : next_after state act ≡ state.next + 1 = (said_next state act a bytes m short said).1 in
      is requests firsts e refl (subst (λ (n : ℕ). AreTold Invite requests n (firsts ++ sent)) (sym number)
      (turned_told Invite requests state.next firsts sent r opened h))
  by_part (Opens a bytes m short r said key_is no_ack at opening room new e q) =
      let opened = brought Invite sent server state act a bytes m short r firsts comes said key_is no_ack opening (h.none_later state.next (omega arith)) in
      let number : next_after state act ≡ state.next + 1 = (said_next state act a bytes m short said).1 in
      is (requests ++ r ∷ []) firsts e refl
      (subst (λ (n : ℕ). AreTold Invite (requests ++ r ∷ []) n (firsts ++ sent)) (sym number) (opened_told Invite requests state.next firsts sent r opened h))
  by_part (Changes r change there change_is e p) =
      is (replaced change.request requests) (change_packets change) e p
      (change_told later first Invite server state act now r change again requests (next_after state act) sent (in_from_contains requests r there) change_is moved)
  by_part (Resends r next there goes e p) =
      let place : IsIn r requests = in_from_contains requests r there in
      let fits = resent_fit Invite sent server now r again next goes (all_in (IsFit Invite sent) requests r h.fit place) in
      is (replaced next requests) [] e p (kept_told Invite requests (next_after state act) sent r next place fits.1 fits.0 moved)
  by_part (Acknowledges r there e p q) =
      let place : IsIn r requests = in_from_contains requests r there in
      let fits = acknowledged_fit Invite sent now r (all_in (IsFit Invite sent) requests r h.fit place) in
      is (replaced (acknowledged now r) requests) [] e p (kept_told Invite requests (next_after state act) sent r (acknowledged now r) place fits.1 fits.0 moved)

-- what the parts of a step leave
pub parts_told : LaterLaw → FirstLaw
    → (Invite : ℕ → Type 0) (sent : List Packet) (server : Server) (state : ProxyState) (act : Act) (now : ℕ) (after : List OpenRequest) (firsts again : List Packet)
    → ComesAs Invite state act
    → AreParts server state act now state.requests after firsts again → AreTold Invite state.requests state.next sent
    → AreTold Invite after (next_after state act) (firsts ++ sent)
parts_told later first Invite sent server state act now after firsts again comes
    (One part) h = part_told later first Invite sent server state act now state.requests after firsts again comes part h
parts_told later first Invite sent server state act now after firsts again comes (Two middle earlier r change part there between is e p q) h =
    let one = part_told later first Invite sent server state act now state.requests middle earlier [] comes part h in
    let two = change_told later first Invite server state act now r change [] middle (next_after state act) (earlier ++ sent) (in_from_contains middle r between) is one
    in
    subst (λ (xs : List OpenRequest). AreTold Invite xs (next_after state act) (firsts ++ sent)) (sym e)
    (told_same Invite (replaced change.request middle) (next_after state act) (change_packets change ++ (earlier ++ sent)) (firsts ++ sent) (λ n. swapped (is_final_to n))
    (λ n. swapped (is_other_to n)) two) where
      swapped : (test : Packet → Bool) → count_by test (firsts ++ sent) ≡ count_by test (change_packets change ++ (earlier ++ sent))
      swapped test =
          ap (λ (ps : List Packet). count_by test (ps ++ sent)) p
          ∙ omega (
            arith,
            count_joined test (earlier ++ change_packets change) sent,
            count_joined test earlier (change_packets change),
            count_joined test (change_packets change)
                (earlier ++ sent),
            count_joined test earlier sent,
          )
