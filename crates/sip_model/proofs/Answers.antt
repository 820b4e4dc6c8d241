-- The final answers that a change of an open request sends to its caller.
use Rattle.std.proofs.Common.{◌≡◌, inl, inr, ℕ, ◌+◌, Bool, true, false, not, ◌&&◌, cond, List, [], ◌∷◌, ◌++◌, Option, Some, None, refl, sym, ap, subst, ◌∙◌, arith}
use Rattle.std.proofs.Common.{count_by, option_map}
use Rattle.std.specs.List.{AllByRecursion}
use Rattle.std.proofs.lemmas.Bool.Decides.{nat_tests}
use Rattle.std.proofs.lemmas.List.Sums.{sum_by-append}
use Rattle.sip_best.specs.Best.{best_of}
use Rattle.sip_event.specs.declared.packet.Packet.{Packet}
use Rattle.model_steps.specs.state.declared.server.Server.{Server}
use Rattle.model_steps.specs.state.declared.open_request.Side.{Side}
use Rattle.model_steps.specs.state.declared.open_request.OpenRequest.{OpenRequest}
use Rattle.model_steps.specs.state.declared.open_request.Side.TheVariants.{Closing}
use Rattle.model_steps.specs.state.State.{is_invite, is_answering, is_success, is_provisional}
use Rattle.model_steps.specs.state.declared.open_request.Upward.{Upward}
use Rattle.model_steps.specs.context_model.Branches.{Change, upward_of, all_final, best_upward, with_cancels, after_upward, upward_list, settled, has_success}
use Rattle.sip_model.specs.Order.{is_final_answer, AddsSuccessesAlone, AnswersOnce}
use Rattle.sip_model.proofs.Places.{count_cons, one_at, none_at}
use Rattle.sip_model.proofs.Settling.{all_append}
use Rattle.sip_model.proofs.Events.{IsRelayed, IsSideAfter, IsEvent}

-- ---- statuses

-- a 2xx is no provisional answer
success_is_final : (status : ℕ) → is_success status ≡ true → is_provisional status ≡ false
success_is_final status e = grind (arith, nat_tests)

-- ---- a request that has had its final answer

-- a side that owes no answer stays as it is
kept_side : (t x : Bool) (side : Side) (due : ℕ) → t ≡ false → cond (t && x) (Closing due) side ≡ side
kept_side true x side due e = absurd (cc)
kept_side false x side due e = refl

-- so it does whatever goes up
pub upward_side : (now : ℕ) (o : Option Upward) (r : OpenRequest) → is_answering r.side ≡ false → (after_upward now o r).side ≡ r.side
upward_side now None r e = refl
upward_side now (Some u) r e = kept_side (is_answering r.side) (not (is_provisional u.status)) r.side (now + 32000) e

-- a choice whose first test fails
none_unless : (x y : Bool) (o : Option Upward) → x ≡ false → cond (x && y) o None ≡ None
none_unless true y o e = absurd (cc)
none_unless false y o e = refl

-- no best answer goes up any more
no_best : (server : Server) (r : OpenRequest) → is_answering r.side ≡ false → best_upward server r ≡ None
no_best server r e = none_unless (is_answering r.side) (all_final r) (option_map (upward_of server r) (best_of r.finals)) e

-- a side that owed no answer owes none after an event
side_answered : (old new : Side) → IsSideAfter old new → is_answering old ≡ false → is_answering new ≡ false
side_answered old new (inl same) e = ap is_answering same ∙ e
side_answered old new (inr closed) e = ap is_answering closed.1

-- nothing stands behind what went up at once
list_end : (o : Option Upward) → upward_list o ++ [] ≡ upward_list o
list_end None = refl
list_end (Some u) = refl

-- the change without a best answer
settled_alone : (server : Server) (now : ℕ) (acks : List Packet) (relayed : Option Upward) (r : OpenRequest) → is_answering (after_upward now relayed r).side ≡ false
    → ((settled server now acks relayed r).upward ≡ upward_list relayed) × ((settled server now acks relayed r).request ≡ with_cancels now (after_upward now relayed r))
settled_alone server now acks relayed r e =
    let told : OpenRequest = after_upward now relayed r in
    let none = no_best server told e in
    (ap (λ o. upward_list relayed ++ upward_list o) none ∙ list_end relayed, ap (λ o. with_cancels now (after_upward now o told)) none)

-- what still goes up at once is a further 2xx of an INVITE
further_alone : (r : OpenRequest) (o : Option Upward) → is_answering r.side ≡ false → IsRelayed r o
    → AllByRecursion (λ (u : Upward). is_final_answer u ≡ true → (is_success u.status ≡ true) × (is_invite r ≡ true) × (has_success r.answer ≡ true)) (upward_list o)
further_alone r None e h = tt
further_alone r (Some u) e (inl provisional) = absurd (cc (e, provisional.1))
further_alone r (Some u) e (inr success) = (λ final. (success.0, parts.0, parts.1), tt) where
  parts : (is_invite r ≡ true) × (has_success r.answer ≡ true)
  parts = grind (arith, e, success.1)

-- whether the last answer was a 2xx stays
success_kept : (now : ℕ) (r between : OpenRequest) (o : Option Upward) → is_answering r.side ≡ false → IsRelayed r o → between.answer ≡ r.answer
    → has_success (after_upward now o between).answer ≡ has_success r.answer
success_kept now r between None e h same = ap has_success same
success_kept now r between (Some u) e (inl provisional) same = absurd (cc (e, provisional.1))
success_kept now r between (Some u) e (inr success) same =
    let parts = (further_alone r (Some u) e (inr success)).0 (ap not (success_is_final u.status success.0)) in
    success.0 ∙ sym parts.2

-- after a final answer nothing but 2xx of an INVITE go up
pub adds_successes : (server : Server) (now : ℕ) (r : OpenRequest) (change : Change) → IsEvent server now r change → is_answering r.side ≡ false
    → AddsSuccessesAlone r change
adds_successes server now r change event e = subst (AddsSuccessesAlone r) (sym event.is_change) (record {
  are_further = subst (AllByRecursion (λ (u : Upward). is_final_answer u ≡ true → (is_success u.status ≡ true) × (is_invite r ≡ true) × (has_success r.answer ≡ true)))
      (sym alone.0)
      (further_alone r event.relayed e event.relayed_is);
  stays_answered = ap (λ (x : OpenRequest). is_answering x.side) alone.1 ∙ told;
  keeps_success = ap (λ (x : OpenRequest). has_success x.answer) alone.1 ∙ success_kept now r event.between event.relayed e event.relayed_is event.answer_is;
}) where
  between : is_answering event.between.side ≡ false
  between = side_answered r.side event.between.side event.side_is e

  told : is_answering (after_upward now event.relayed event.between).side ≡ false
  told = ap is_answering (upward_side now event.relayed event.between between) ∙ between

  alone : ((settled server now event.acks event.relayed event.between).upward ≡ upward_list event.relayed)
      × ((settled server now event.acks event.relayed event.between).request ≡ with_cancels now (after_upward now event.relayed event.between))
  alone = settled_alone server now event.acks event.relayed event.between told

-- ---- a request that had no final answer

-- what one answer that goes up, or none, makes of a request that owes one
pub data Tells (o : Option Upward) (r : OpenRequest) (after : OpenRequest) : Type 0 where
  NoneFinal : count_by is_final_answer (upward_list o) ≡ 0 → is_answering after.side ≡ true → Tells o r after
  OneFinal : (u : Upward) → o ≡ Some u → is_final_answer u ≡ true → is_answering after.side ≡ false → has_success after.answer ≡ is_success u.status → Tells o r after

-- a final answer closes a side that owes one
closes_side : (t : Bool) (side : Side) (due : ℕ) → t ≡ true → is_answering (cond (t && true) (Closing due) side) ≡ false
closes_side true side due e = refl
closes_side false side due e = absurd (cc)

-- a provisional answer leaves a side
waits_side : (t : Bool) (side : Side) (due : ℕ) → cond (t && false) (Closing due) side ≡ side
waits_side true side due = refl
waits_side false side due = refl

-- what an answer that goes up, or none, makes of a request that owes one
pub tells : (now : ℕ) (o : Option Upward) (r : OpenRequest) → is_answering r.side ≡ true → Tells o r (after_upward now o r)
tells now None r e = NoneFinal refl e
tells now (Some u) r e = by_test (is_provisional u.status) refl where
  final_side : is_provisional u.status ≡ false → is_answering (cond (is_answering r.side && not (is_provisional u.status)) (Closing (now + 32000)) r.side) ≡ false
  final_side is = rw is (closes_side (is_answering r.side) r.side (now + 32000) e)

  waiting_side : is_provisional u.status ≡ true → is_answering (cond (is_answering r.side && not (is_provisional u.status)) (Closing (now + 32000)) r.side) ≡ true
  waiting_side is = rw is (ap is_answering (waits_side (is_answering r.side) r.side (now + 32000)) ∙ e)

  by_test : (t : Bool) → is_provisional u.status ≡ t → Tells (Some u) r (after_upward now (Some u) r)
  by_test true is = NoneFinal (omega (arith, count_cons is_final_answer u [], none_at (is_final_answer u) (ap not is))) (waiting_side is)
  by_test false is = OneFinal u refl (ap not is) (final_side is) refl

-- a final answer is the one that a request keeps as its last
abbrev IsLast : OpenRequest → Upward → Type 0
IsLast r u = is_final_answer u ≡ true → has_success r.answer ≡ is_success u.status

-- where none is final there is nothing to keep
none_final : (r : OpenRequest) (us : List Upward) → count_by is_final_answer us ≡ 0 → AllByRecursion (IsLast r) us
none_final r [] e = tt
none_final r (u ∷ us) e = (
  λ final. absurd (omega (arith, e, count_cons is_final_answer u us, one_at (is_final_answer u) final)),
  none_final r us (omega (arith, e, count_cons is_final_answer u us)),
)

-- the one that goes up is kept
one_final : (r : OpenRequest) (o : Option Upward) (u : Upward) → o ≡ Some u → has_success r.answer ≡ is_success u.status → AllByRecursion (IsLast r) (upward_list o)
one_final r o u is answer = subst (λ v. AllByRecursion (IsLast r) (upward_list v)) (sym is) (λ final. answer, tt)

-- one final answer counts as one
one_counted : (o : Option Upward) (u : Upward) → o ≡ Some u → is_final_answer u ≡ true → count_by is_final_answer (upward_list o) ≡ 1
one_counted o u is final = subst (λ v. count_by is_final_answer (upward_list v) ≡ 1) (sym is)
    (omega (arith, count_cons is_final_answer u [], one_at (is_final_answer u) final))

-- with the best answer behind what went up at once, while that was none that is final
best_once : (now : ℕ) (relayed best : Option Upward) (told after : OpenRequest) (change : Change) → change.upward ≡ upward_list relayed ++ upward_list best
    → change.request ≡ with_cancels now after
    → count_by is_final_answer (upward_list relayed) ≡ 0 → Tells best told after → AnswersOnce change
best_once now relayed best told after change up is none (NoneFinal nothing waits) = record {
  is_one = omega (arith, total);
  is_answered = λ some. absurd (omega (arith, total));
  still_owes = λ zero_up. ap (λ (x : OpenRequest). is_answering x.side) is ∙ waits;
  is_last = none_final change.request change.upward (omega (arith, total));
} where
  total : count_by is_final_answer change.upward ≡ 0
  total = omega (
    arith,
    ap (count_by is_final_answer) up,
    sum_by-append (λ (u : Upward). cond (is_final_answer u) 1 0) (upward_list relayed) (upward_list best),
    none,
    nothing,
  )
best_once now relayed best told after change up is none (OneFinal u there final closes answer) = record {
  is_one = omega (arith, total);
  is_answered = λ some. ap (λ (x : OpenRequest). is_answering x.side) is ∙ closes;
  still_owes = λ zero_up. absurd (omega (arith, total));
  is_last = subst (AllByRecursion (IsLast change.request)) (sym up)
      (all_append (IsLast change.request) (upward_list relayed) (upward_list best) (none_final change.request (upward_list relayed) none)
      (one_final change.request best u there (ap (λ (x : OpenRequest). has_success x.answer) is ∙ answer)));
} where
  total : count_by is_final_answer change.upward ≡ 1
  total = omega (
    arith,
    ap (count_by is_final_answer) up,
    sum_by-append (λ (u : Upward). cond (is_final_answer u) 1 0) (upward_list relayed) (upward_list best),
    none,
    one_counted best u there final,
  )

-- what went up at once was final
at_once : (now : ℕ) (relayed : Option Upward) (told : OpenRequest) (change : Change) (u : Upward) → change.upward ≡ upward_list relayed
    → change.request ≡ with_cancels now told → relayed ≡ Some u
    → is_final_answer u ≡ true → is_answering told.side ≡ false → has_success told.answer ≡ is_success u.status → AnswersOnce change
at_once now relayed told change u up is there final closes answer = record {
  is_one = omega (arith, total);
  is_answered = λ some. ap (λ (x : OpenRequest). is_answering x.side) is ∙ closes;
  still_owes = λ zero_up. absurd (omega (arith, total));
  is_last = subst (AllByRecursion (IsLast change.request)) (sym up) (one_final change.request relayed u there
      (ap (λ (x : OpenRequest). has_success x.answer) is ∙ answer));
} where
  total : count_by is_final_answer change.upward ≡ 1
  total = omega (arith, ap (count_by is_final_answer) up, one_counted relayed u there final)

-- settling sends one final answer at most
settled_once : (server : Server) (now : ℕ) (acks : List Packet) (relayed : Option Upward) (r : OpenRequest) → Tells relayed r (after_upward now relayed r)
    → AnswersOnce (settled server now acks relayed r)
settled_once server now acks relayed r (NoneFinal nothing waits) =
    let told : OpenRequest = after_upward now relayed r in
    let best : Option Upward = best_upward server told in
    best_once now relayed best told (after_upward now best told) (settled server now acks relayed r) refl refl nothing (tells now best told waits)
settled_once server now acks relayed r (OneFinal u there final closes answer) =
    let alone = settled_alone server now acks relayed r closes in
    at_once now relayed (after_upward now relayed r) (settled server now acks relayed r) u alone.0 alone.1 there final closes answer

-- a side that owes an answer owes it after an event
side_owes : (old new : Side) → IsSideAfter old new → is_answering old ≡ true → is_answering new ≡ true
side_owes old new (inl same) e = ap is_answering same ∙ e
side_owes old new (inr closed) e = absurd (cc (e, closed.0))

-- before a final answer at most one goes up
pub answers_once : (server : Server) (now : ℕ) (r : OpenRequest) (change : Change) → IsEvent server now r change → is_answering r.side ≡ true → AnswersOnce change
answers_once server now r change event e =
    subst AnswersOnce (sym event.is_change) (settled_once server now event.acks event.relayed event.between
    (tells now event.relayed event.between (side_owes r.side event.between.side event.side_is e)))

-- a request that is sent to its branches: what goes up in that step, after a 100
pub sent_once : (server : Server) (now : ℕ) (r : OpenRequest) → is_answering r.side ≡ true → AnswersOnce (settled server now [] None r)
sent_once server now r e = settled_once server now [] None r (tells now None r e)
