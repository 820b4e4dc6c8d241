-- How often final answers go again: by time no more than is left, and once more for each copy of their request.
use Rattle.std.proofs.Common.{◌≡◌, ◌⊎◌, inl, inr, ℕ, ◌+◌, ◌≤◌, Bool, true, false, not, ◌&&◌, cond, ◌==◌, List, [], ◌∷◌, ◌++◌, find, Option, Some, None, option_and_then}
use Rattle.std.proofs.Common.{refl, sym, ap, subst, ◌∙◌, arith, bytes_eq, codes}
use Rattle.std.specs.Option.{option_map_or}
use Rattle.std.specs.List.{AllByRecursion}
use Rattle.std.proofs.lemmas.Bool.Decides.{nat_tests}
use Rattle.sip_uri.specs.declared.addr.Addr.{Addr}
use Rattle.sip_message_form.specs.declared.message.Message.{Message}
use Rattle.sip_message_form.specs.Text.{text_of}
use Rattle.sip_transaction_table.specs.declared.key.TransactionKey.{TransactionKey}
use Rattle.sip_transaction_table.specs.Key.{key_of}
use Rattle.sip_edit.specs.OwnRequests.{ack_with, cancel_of}
use Rattle.sip_event.specs.declared.packet.Packet.{Packet}
use Rattle.model_steps.specs.state.declared.server.Server.{Server}
use Rattle.model_steps.specs.state.declared.branch.Phase.{Phase}
use Rattle.model_steps.specs.state.declared.branch.Phase.TheVariants.{Unheard, Heard, Cancelled, Done, Ended}
use Rattle.model_steps.specs.state.declared.branch.Branch.{Branch}
use Rattle.model_steps.specs.state.declared.open_request.LastAnswer.{LastAnswer}
use Rattle.model_steps.specs.state.declared.open_request.OpenRequest.{OpenRequest}
use Rattle.model_steps.specs.state.declared.proxy_state.ProxyState.{ProxyState}
use Rattle.model_steps.specs.state.Arrival.{Arrival}
use Rattle.model_steps.specs.state.State.{is_invite, is_success, is_failure, has_key}
use Rattle.model_steps.specs.context_model.Sending.{answer_to, request_of, branch_packets}
use Rattle.model_steps.specs.context_model.Branches.{Change, acknowledged}
use Rattle.model_steps.specs.context_model.Retransmission.{is_lasting, answers_again, acks_again}
use Rattle.model_steps.specs.Effect.{replaced, method_of}
use Rattle.model_steps.specs.Step.{Act}
use Rattle.sip_model.specs.Access.{IsSaidAt}
use Rattle.sip_model.specs.Order.{is_numbered, AreNumbered}
use Rattle.sip_model.specs.Parts.{IsChangeAt, ByResponse, ByDeadline, ByFault, ByCancel}
use Rattle.sip_model.specs.FinalAnswers.{begins_final, is_final_to, copied_by, is_copy_at}
use Rattle.sip_model.proofs.FinalsText.{ack_text, cancel_text}
use Rattle.sip_model.proofs.FinalsLists.{all_replaced}
use Rattle.sip_model.proofs.FinalsLists.{numbered_replaced, numbered_push, numbered_later}
use Rattle.sip_model.proofs.FinalsCounts.{finals_in, first_fails, middle_fails, no_answers}
use Rattle.sip_model.proofs.FinalsChanges.{IsNoAnswer}
use Rattle.sip_model.proofs.FinalsSpent.{TimerLaws, copies_left, IsTimed, IsNoMore, change_no_more, acknowledged_no_more}
use Rattle.sip_model.proofs.SendingLists.{all_joined}
use Rattle.sip_model.proofs.Places.{IsIn, all_in, all_weaker, count_cons, none_at, same_number}
use Rattle.sip_model.proofs.OneAnswer.{apart_back}
use Rattle.sip_model.proofs.Apart.{at_most_one}
use Rattle.sip_model.proofs.Rising.{number_is}

-- ---- what goes again

-- the last answer goes at most once
pub answer_few : (n : ℕ) (r : OpenRequest) (o : Option LastAnswer) → finals_in n (answers_again r o) ≤ 1
answer_few n r None = omega arith
answer_few n r (Some a) = by_test (is_lasting r.side && not (is_invite r && is_success a.status)) where
  by_test : (t : Bool) → finals_in n (cond t (answer_to true r a.text ∷ []) []) ≤ 1
  by_test true = omega (arith, count_cons (is_final_to n) (answer_to true r a.text) [], at_most_one (is_final_to n (answer_to true r a.text)))
  by_test false = omega arith

-- to its own number alone
pub answer_beside : (n : ℕ) (r : OpenRequest) (o : Option LastAnswer) → (r.number == n) ≡ false → finals_in n (answers_again r o) ≡ 0
answer_beside n r None e = refl
answer_beside n r (Some a) e = by_test (is_lasting r.side && not (is_invite r && is_success a.status)) where
  by_test : (t : Bool) → finals_in n (cond t (answer_to true r a.text ∷ []) []) ≡ 0
  by_test true = omega (
    arith,
    count_cons (is_final_to n) (answer_to true r a.text) [],
    none_at (is_final_to n (answer_to true r a.text))
        (first_fails (r.number == n) true (begins_final a.text) e),
  )
  by_test false = refl

-- what a branch sends again is no answer
pub branch_none : (server : Server) (n : ℕ) (r : OpenRequest) (b : Branch) → 1 ≤ b.number → finals_in n (branch_packets server true r b) ≡ 0
branch_none server n r b some = by_address b.is_cancel b.address where
  p : Bool → Addr → Packet
  p t to = record {
    to = to;
    bytes = text_of
        (cond t (cancel_of (request_of server r b)) (request_of server r b));
    ticket = record { datagram = r.number; branch = cond t 0 b.number };
    again = true;
  }

  none : (t : Bool) (to : Addr) → is_final_to n (p t to) ≡ false
  none true to = no_answer_here (r.number == n) true (begins_final (text_of (cancel_of (request_of server r b)))) (cancel_text (request_of server r b)) where
    no_answer_here : (x y z : Bool) → z ≡ false → (x && y && z) ≡ false
    no_answer_here true true z e = e
    no_answer_here true false z e = refl
    no_answer_here false y z e = refl
  none false to = middle_fails (r.number == n) (b.number == 0) (begins_final (text_of (request_of server r b))) (not_zero b.number some) where
    not_zero : (k : ℕ) → 1 ≤ k → (k == 0) ≡ false
    not_zero k h = grind (arith, nat_tests)

  by_address : (t : Bool) (address : Option Addr)
      → finals_in n
      (option_map_or (λ to. record {
        to = to;
        bytes = text_of
            (cond t (cancel_of (request_of server r b)) (request_of server r b));
        ticket = record { datagram = r.number; branch = cond t 0 b.number };
        again = true;
      } ∷ [])
      address []) ≡ 0
  by_address t None = refl
  by_address t (Some to) = omega (arith, count_cons (is_final_to n) (p t to) [], none_at (is_final_to n (p t to)) (none t to))

-- nor is an ACK
acks_none : (server : Server) (n : ℕ) (r : OpenRequest) (b : Branch) (phase : Phase) → finals_in n (acks_again server r b phase) ≡ 0
acks_none server n r b (Done due status) = no_answers n (acks_again server r b (Done due status))
    (by_test (is_invite r && not b.is_cancel && is_failure status) b.address) where
      by_test : (t : Bool) (address : Option Addr)
          → AllByRecursion IsNoAnswer
          (cond t (option_map_or
          (λ to. record { to = to; bytes = text_of (ack_with b.final_to (request_of server r b)); ticket = record { datagram = r.number; branch = 0 }; again = true }
          ∷ [])
          address []) [])
      by_test true None = tt
      by_test true (Some to) = (ack_text b.final_to (request_of server r b), tt)
      by_test false address = tt
acks_none server n r b (Unheard due) = refl
acks_none server n r b (Heard due) = refl
acks_none server n r b (Cancelled due) = refl
acks_none server n r b Ended = refl

-- so what goes again with a change is none
pub change_silent : (server : Server) (state : ProxyState) (act : Act) (now n : ℕ) (r : OpenRequest) (change : Change) (again : List Packet)
    → IsChangeAt server state act now r change again → finals_in n again ≡ 0
change_silent server state act now n r _ _ (ByResponse a bytes m status reason b said start for there) = by_test (is_failure status) where
  by_test : (t : Bool) → finals_in n (cond t (acks_again server r b b.phase) []) ≡ 0
  by_test true = acks_none server n r b b.phase
  by_test false = refl
change_silent server state act now n r _ _ (ByDeadline change passes) = refl
change_silent server state act now n r _ _ (ByFault at ticket b is number at_branch) = refl
change_silent server state act now n r _ _ (ByCancel a bytes m short key said is key_is at_request) = refl

-- ---- copies

-- a copy of an open request is one of its number
pub copy_counts : (state : ProxyState) (act : Act) (a : Arrival) (bytes : List ℕ) (m : Message) (short : Bool) (key : TransactionKey) (r : OpenRequest)
    → IsSaidAt state act a bytes m short → bytes_eq (method_of m.start) (codes "ACK") ≡ false
    → key_of m ≡ Some key → find (has_key key) state.requests ≡ Some r → is_copy_at r.number state act ≡ true
copy_counts state act a bytes m short key r said no_ack key_is at_key =
    ap (is_copy_at r.number state) said.is_act
    ∙ ap (λ (o : Option (Message × Bool)). option_map_or (is_numbered r.number) (option_and_then (λ said. copied_by state.requests said.0) o) false) said.says
    ∙ ap (λ (t : Bool). option_map_or (is_numbered r.number) (cond t None (option_and_then (λ k. find (has_key k) state.requests) (key_of m))) false) no_ack
    ∙ ap (λ (o : Option TransactionKey). option_map_or (is_numbered r.number) (option_and_then (λ k. find (has_key k) state.requests) o) false) key_is
    ∙ ap (λ (o : Option OpenRequest). option_map_or (is_numbered r.number) o false) at_key
    ∙ same_number r.number r.number refl

-- ---- a request

-- What went again to the caller of an open request, and what may still go by time, are no more than the copies that came, and ten to an INVITE.
pub record IsSpent (Invite : ℕ → Type 0) (went came : ℕ → ℕ) (r : OpenRequest) : Type 0 where
  pub to_invite : is_invite r ≡ true → Invite r.number × (went r.number + copies_left r ≤ 10 + came r.number)
  pub to_other : is_invite r ≡ false → went r.number ≤ came r.number
  pub timed : IsTimed r

-- the bound of a number
abbrev pub IsBounded : (ℕ → Type 0) → (ℕ → ℕ) → (ℕ → ℕ) → ℕ → Type 0
IsBounded Invite went came n = (went n ≤ came n) ⊎ (Invite n × (went n ≤ 10 + came n))

-- no more went again than copies came since
abbrev pub GoesWith : (ℕ → ℕ) → (ℕ → ℕ) → (ℕ → ℕ) → (ℕ → ℕ) → ℕ → Type 0
GoesWith went came went_then came_then n = went_then n + came n ≤ went n + came_then n

-- an open request is within its bound
spent_bounded : (Invite : ℕ → Type 0) (went came : ℕ → ℕ) (r : OpenRequest) → IsSpent Invite went came r → IsBounded Invite went came r.number
spent_bounded Invite went came r h = by_test (is_invite r) refl where
  by_test : (t : Bool) → is_invite r ≡ t → IsBounded Invite went came r.number
  by_test true e = let spent = h.to_invite e in let less = spent.1 in inr (spent.0, omega (arith, less))
  by_test false e = inl (h.to_other e)

-- it stays so while no more goes again than copies come
spent_with : (Invite : ℕ → Type 0) (went came went_then came_then : ℕ → ℕ) (r : OpenRequest) → GoesWith went came went_then came_then r.number
    → IsSpent Invite went came r
    → IsSpent Invite went_then came_then r
spent_with Invite went came went_then came_then r goes h = record {
  to_invite = λ invite. let spent = h.to_invite invite in let less = spent.1 in (spent.0, omega (arith, less, goes));
  to_other = λ other. let less = h.to_other other in omega (arith, less, goes);
  timed = h.timed;
}

-- so does the bound of a number
bounded_with : (Invite : ℕ → Type 0) (went came went_then came_then : ℕ → ℕ) (n : ℕ) → GoesWith went came went_then came_then n → IsBounded Invite went came n
    → IsBounded Invite went_then came_then n
bounded_with Invite went came went_then came_then n goes (inl less) = inl (omega (arith, less, goes))
bounded_with Invite went came went_then came_then n goes (inr all) = let less = all.1 in inr (all.0, omega (arith, less, goes))

-- and a request of which no more may go again is within it
pub spent_no_more : (Invite : ℕ → Type 0) (went came : ℕ → ℕ) (r x : OpenRequest) → IsNoMore r x → IsSpent Invite went came r → IsSpent Invite went came x
spent_no_more Invite went came r x no_more h = record {
  to_invite = λ invite.
      let spent = h.to_invite (sym same ∙ invite) in
      let less = spent.1 in
      let fewer = no_more.fewer in
      (subst Invite (sym no_more.number_is) spent.0, subst (λ (n : ℕ). went n + copies_left x ≤ 10 + came n) (sym no_more.number_is) (omega (arith, less, fewer)));
  to_other = λ other. subst (λ (n : ℕ). went n ≤ came n) (sym no_more.number_is) (h.to_other (sym same ∙ other));
  timed = no_more.timed;
} where
  same : is_invite x ≡ is_invite r
  same = ap (λ (k : TransactionKey). bytes_eq k.method (codes "INVITE")) no_more.key_is

-- ---- all open requests

-- Nothing final went again to a number that is still to come, each number is within its bound, and so is each open request with what may still go.
pub record AreSpent (Invite : ℕ → Type 0) (requests : List OpenRequest) (next : ℕ) (went came : ℕ → ℕ) : Type 0 where
  pub numbered : AreNumbered next requests
  pub none_later : (n : ℕ) → next ≤ n → went n ≡ 0
  pub each_one : (n : ℕ) → IsBounded Invite went came n
  pub fit : AllByRecursion (IsSpent Invite went came) requests

-- while no more goes again than copies come
pub spent_on : (Invite : ℕ → Type 0) (requests : List OpenRequest) (next later : ℕ) (went came went_then came_then : ℕ → ℕ) → next ≤ later
    → ((n : ℕ) → GoesWith went came went_then came_then n) → ((n : ℕ) → later ≤ n → went_then n ≡ 0)
    → AreSpent Invite requests next went came → AreSpent Invite requests later went_then came_then
spent_on Invite requests next later went came went_then came_then low goes none h = record {
  numbered = numbered_later next later requests low h.numbered;
  none_later = none;
  each_one = λ n. bounded_with Invite went came went_then came_then n (goes n) (h.each_one n);
  fit = all_weaker (IsSpent Invite went came) (IsSpent Invite went_then came_then) requests
      (λ r spent. spent_with Invite went came went_then came_then r (goes r.number) spent) h.fit;
}

-- where INVITEs came that did before
pub spent_weaker : (Before After : ℕ → Type 0) (requests : List OpenRequest) (next : ℕ) (went came : ℕ → ℕ) → ((n : ℕ) → Before n → After n)
    → AreSpent Before requests next went came → AreSpent After requests next went came
spent_weaker Before After requests next went came stays h = record {
  numbered = h.numbered;
  none_later = h.none_later;
  each_one = λ n. bounded n (h.each_one n);
  fit = all_weaker (IsSpent Before went came) (IsSpent After went came) requests
      (λ r spent. record {
        to_invite = λ invite. let before = spent.to_invite invite in (stays r.number before.0, before.1);
        to_other = spent.to_other;
        timed = spent.timed;
      })
      h.fit;
} where
  bounded : (n : ℕ) → IsBounded Before went came n → IsBounded After went came n
  bounded n (inl less) = inl less
  bounded n (inr all) = inr (stays n all.0, all.1)

-- a request takes the place of the one of its number, and something of it went again
pub replaced_spent : (Invite : ℕ → Type 0) (requests : List OpenRequest) (next : ℕ) (went came went_then came_then : ℕ → ℕ) (new : OpenRequest)
    → ((n : ℕ) → (new.number == n) ≡ false → GoesWith went came went_then came_then n)
    → ((n : ℕ) → next ≤ n → went_then n ≡ 0) → IsSpent Invite went_then came_then new → AreSpent Invite requests next went came
    → AreSpent Invite (replaced new requests) next went_then came_then
replaced_spent Invite requests next went came went_then came_then new goes none spent h = record {
  numbered = numbered_replaced next new requests h.numbered;
  none_later = none;
  each_one = λ n. by_number n (new.number == n) refl;
  fit = all_replaced (IsSpent Invite went came) (IsSpent Invite went_then came_then) new requests (h.numbered.differ new.number)
      (λ x apart before. spent_with Invite went came went_then came_then x (goes x.number (apart_back x.number new.number apart)) before) spent h.fit;
} where
  by_number : (n : ℕ) (t : Bool) → (new.number == n) ≡ t → IsBounded Invite went_then came_then n
  by_number n true e = subst (IsBounded Invite went_then came_then) (number_is new.number n e) (spent_bounded Invite went_then came_then new spent)
  by_number n false e = bounded_with Invite went came went_then came_then n (goes n e) (h.each_one n)

-- one more is opened
pub pushed_spent : (Invite : ℕ → Type 0) (requests : List OpenRequest) (next : ℕ) (went came : ℕ → ℕ) (r : OpenRequest) → r.number ≡ next → IsSpent Invite went came r
    → AreSpent Invite requests next went came
    → AreSpent Invite (requests ++ r ∷ []) (next + 1) went came
pushed_spent Invite requests next went came r number spent h = record {
  numbered = numbered_push next r requests number h.numbered;
  none_later = λ n high. h.none_later n (omega arith);
  each_one = h.each_one;
  fit = all_joined (IsSpent Invite went came) requests (r ∷ []) h.fit (spent, tt);
}

-- ---- a change

-- what a change leaves, where no more goes again than copies come
pub change_spent : TimerLaws
    → (Invite : ℕ → Type 0) (server : Server) (state : ProxyState) (act : Act) (now : ℕ) (r : OpenRequest) (change : Change) (again : List Packet)
    (requests : List OpenRequest)
    (next : ℕ) (went came : ℕ → ℕ)
    → IsIn r requests → IsChangeAt server state act now r change again → AreSpent Invite requests next went came
    → AreSpent Invite (replaced change.request requests) next went came
change_spent laws Invite server state act now r change again requests next went came there is h =
    let spent : IsSpent Invite went came r = all_in (IsSpent Invite went came) requests r h.fit there in
    let no_more : IsNoMore r change.request = change_no_more laws server state act now r change again is spent.timed in
    replaced_spent Invite requests next went came went came change.request (λ n apart. omega arith) h.none_later
    (spent_no_more Invite went came r change.request no_more spent) h

-- what an ACK leaves
pub acknowledged_spent : TimerLaws → (Invite : ℕ → Type 0) (now : ℕ) (r : OpenRequest) (requests : List OpenRequest) (next : ℕ) (went came : ℕ → ℕ) → IsIn r requests
    → AreSpent Invite requests next went came
    → AreSpent Invite (replaced (acknowledged now r) requests) next went came
acknowledged_spent laws Invite now r requests next went came there h =
    let spent : IsSpent Invite went came r = all_in (IsSpent Invite went came) requests r h.fit there in
    replaced_spent Invite requests next went came went came (acknowledged now r) (λ n apart. omega arith) h.none_later
    (spent_no_more Invite went came r (acknowledged now r) (acknowledged_no_more laws now r spent.timed) spent) h
