-- Of each request of a history one final answer went up, or several 2xx to an INVITE.
use Rattle.std.proofs.Common.{◌≡◌, inl, inr, ℕ, ◌+◌, ◌≤◌, Bool, true, false, ◌&&◌, cond, ◌==◌, List, [], ◌∷◌, ◌++◌, length, append-nil, None, refl, sym, ap, subst, ◌∙◌}
use Rattle.std.proofs.Common.{arith, count_by, bytes_eq, codes, nat_le}
use Rattle.std.specs.List.{AllByRecursion}
use Rattle.std.proofs.lemmas.Bool.Decides.{nat_tests}
use Rattle.sip_message_form.specs.declared.message.Message.{Message}
use Rattle.sip_transaction_table.specs.declared.key.TransactionKey.{TransactionKey}
use Rattle.sip_event.specs.declared.packet.Packet.{Packet}
use Rattle.model_steps.specs.state.declared.server.Server.{Server}
use Rattle.model_steps.specs.state.declared.branch.Branch.{Branch}
use Rattle.model_steps.specs.state.declared.open_request.OpenRequest.{OpenRequest}
use Rattle.model_steps.specs.state.declared.proxy_state.ProxyState.{ProxyState}
use Rattle.model_steps.specs.state.State.{first_state, is_invite, is_answering, has_left, is_provisional}
use Rattle.model_steps.specs.context_model.Retransmission.{IsResent, OfAnswer, OfRequest}
use Rattle.model_steps.specs.context_model.Sending.{made_answer}
use Rattle.model_steps.specs.context_model.Branches.{Change, settled, acknowledged, acknowledged_side, was_refused}
use Rattle.model_steps.specs.state.Arrival.{Arrival}
use Rattle.model_steps.specs.context_model.Opening.{arriving, closing, forking, is_tried, tried, trying}
use Rattle.model_steps.specs.Effect.{replaced}
use Rattle.sip_model.specs.Run.{Link, under, IsChain}
use Rattle.sip_model.specs.Order.{is_numbered, AreNumbered, FinalAnswer, finals_up, change_finals, reply_finals, forked_finals, step_finals, history_finals, finals_to}
use Rattle.sip_model.specs.Order.{IsAccepting, AreOneAnswer}
use Rattle.sip_model.proofs.Places.{same_number, IsIn, all_in, all_push, all_replaced, counts_in, count_cons, one_at}
use Rattle.sip_model.proofs.Moves.{Resends, sent_request, IsOpening, Answered, Sent, IsMove, Stays, TurnsAway, Opens, Changes, Acknowledges, finals_by_moves}
use Rattle.sip_model.proofs.Events.{IsEvent, change_event}
use Rattle.sip_model.proofs.Settling.{event_key, event_number}
use Rattle.sip_model.proofs.Openings.{opening_number}
use Rattle.sip_model.proofs.Answers.{adds_successes, answers_once, sent_once}
use Rattle.sip_model.proofs.FinalAnswers.{AreTo, finals_with, finals_beside, IsFit, fit_beside, IsAnswer, once_answers, further_answers}
use Rattle.sip_model.proofs.Orders.{AreNamed, move_named, chain_named}
use Rattle.sip_model.proofs.Ends.{acknowledged_answering}
use Rattle.sip_model.proofs.Steps.{stands_at, step_taken}

-- ---- a request as it is opened

-- a reply is at most one final answer
reply_one : (t : Bool) (f : FinalAnswer) → length (cond t [] (f ∷ [])) ≤ 1
reply_one true f = omega arith
reply_one false f = omega arith

-- it is to its number
reply_to : (t : Bool) (f : FinalAnswer) → AreTo f.number (cond t [] (f ∷ []))
reply_to true f = tt
reply_to false f = (refl, tt)

-- a 2xx to an INVITE is one
reply_accepts : (t : Bool) (f : FinalAnswer) → IsAccepting f → AllByRecursion IsAccepting (cond t [] (f ∷ []))
reply_accepts true f h = tt
reply_accepts false f h = (h, tt)

-- nothing stands behind
alone : (finals rest : List FinalAnswer) → rest ≡ [] → finals ++ rest ≡ finals
alone finals rest e = ap (λ (fs : List FinalAnswer). finals ++ fs) e ∙ append-nil finals

-- a request that is answered at once
closing_answers : (sent : List FinalAnswer) (a : Arrival) (m : Message) (status : ℕ) (text : List ℕ) → finals_to a.number sent ≡ []
    → IsAnswer (reply_finals a m status) sent (closing a m status text)
closing_answers sent a m status text none =
    let f : FinalAnswer = record { number = a.number; is_to_invite = is_invite (arriving a m); status = status } in
    let own : AreTo a.number (reply_finals a m status) = reply_to (is_provisional status) f in
    record {
      numbered_so = own;
      one = inl (subst (λ (fs : List FinalAnswer). length fs ≤ 1) (sym (alone (reply_finals a m status) (finals_to a.number sent) none))
          (reply_one (is_provisional status) f));
      fits = record {
        owes = λ answering. absurd (cc);
        accepts = λ invite success. subst (AllByRecursion IsAccepting) (sym (finals_with a.number (reply_finals a m status) sent own
            ∙ alone (reply_finals a m status) (finals_to a.number sent) none))
            (reply_accepts (is_provisional status) f (invite, success));
      };
    }

-- a 100 is no final answer
none_tried : (server : Server) (r : OpenRequest) → finals_up r (trying server r) ≡ []
none_tried server r = by_test (is_tried r) where
  by_test : (t : Bool) → finals_up r (cond t (record { status = 100; message = made_answer server r.number r.request.message r.request.source 100 []; target = None }
      ∷ []) []) ≡ []
  by_test true = refl
  by_test false = refl

-- after a 100 an answer is still owed
tried_owes : (server : Server) (a : Arrival) (m : Message) (branches : List Branch) →
    is_answering (tried a.now (trying server (forking a m branches)) (forking a m branches)).side ≡ true
tried_owes server a m branches = by_test (is_tried (forking a m branches)) where
  by_test : (t : Bool) → is_answering (tried a.now (cond t (record { status = 100; message = made_answer server a.number m a.from 100 []; target = None } ∷ []) [])
      (forking a m branches)).side ≡ true
  by_test true = refl
  by_test false = refl

-- a request that is sent to its branches
sent_answers : (server : Server) (sent : List FinalAnswer) (a : Arrival) (m : Message) (branches : List Branch)
    → finals_to (sent_request server a m branches).number sent ≡ []
    → IsAnswer (forked_finals server a.now (forking a m branches)) sent (sent_request server a m branches)
sent_answers server sent a m branches none =
    let fork : OpenRequest = forking a m branches in
    let change : Change = settled server a.now [] None (tried a.now (trying server fork) fork) in
    subst (λ (fs : List FinalAnswer). IsAnswer fs sent change.request) (sym (alone (change_finals change) (finals_up fork (trying server fork)) (none_tried server fork)))
    (once_answers sent change (sent_once server a.now (tried a.now (trying server fork) fork) (tried_owes server a m branches)) none)

-- a request as it is opened
opening_answers : (server : Server) (sent : List FinalAnswer) (a : Arrival) (m : Message) (r : OpenRequest) (finals : List FinalAnswer) → IsOpening server a m r finals
    → finals_to r.number sent ≡ [] → IsAnswer finals sent r
opening_answers server sent a m r finals (Answered status text e up) none =
    subst (λ (x : OpenRequest). IsAnswer finals sent x) (sym e) (subst (λ (fs : List FinalAnswer). IsAnswer fs sent (closing a m status text)) (sym up)
    (closing_answers sent a m status text (sym (ap (λ (x : OpenRequest). finals_to x.number sent) e) ∙ none)))
opening_answers server sent a m r finals (Sent first others started e up) none =
    subst (λ (x : OpenRequest). IsAnswer finals sent x) (sym e) (subst (λ (fs : List FinalAnswer). IsAnswer fs sent (sent_request server a m (first ∷ others))) (sym up)
    (sent_answers server sent a m (first ∷ others) (sym (ap (λ (x : OpenRequest). finals_to x.number sent) e) ∙ none)))

-- ---- all open requests

-- No final answer went to a number that is still to come, each number had one answer, and each open request fits what it was sent.
pub record AreAnswered (requests : List OpenRequest) (next : ℕ) (sent : List FinalAnswer) : Type 0 where
  pub named : AreNamed requests next
  pub none_later : (n : ℕ) → next ≤ n → finals_to n sent ≡ []
  pub each_one : (n : ℕ) → AreOneAnswer (finals_to n sent)
  pub fit : AllByRecursion (IsFit sent) requests

-- a number below another isn't it
apart : (a b : ℕ) → a + 1 ≤ b → (a == b) ≡ false
apart a b h = grind (arith, nat_tests)

-- nor the other way round
pub apart_back : (a b : ℕ) → (a == b) ≡ false → (b == a) ≡ false
apart_back a b h = grind (arith, nat_tests)

-- numbers that pass the test are equal
are_equal : (a b : ℕ) → (a == b) ≡ true → a ≡ b
are_equal a b h = grind (arith, nat_tests)

-- with the final answers of one request, the number of which isn't to come any more
one_each : (sent finals : List FinalAnswer) (k : ℕ) → AreTo k finals → AreOneAnswer (finals ++ finals_to k sent) → ((n : ℕ) → AreOneAnswer (finals_to n sent)) → (n : ℕ)
    → AreOneAnswer (finals_to n (finals ++ sent))
one_each sent finals k own one before n = by_test (k == n) refl where
  by_test : (t : Bool) → (k == n) ≡ t → AreOneAnswer (finals_to n (finals ++ sent))
  by_test true e = subst (λ (v : ℕ). AreOneAnswer (finals_to v (finals ++ sent))) (are_equal k n e) (subst AreOneAnswer (sym (finals_with k finals sent own)) one)
  by_test false e = subst AreOneAnswer (sym (finals_beside n k finals sent e own)) (before n)

-- nothing was sent to numbers that are still to come
none_each : (sent finals : List FinalAnswer) (k next after_next : ℕ) → AreTo k finals → k + 1 ≤ after_next → next ≤ after_next
    → ((n : ℕ) → next ≤ n → finals_to n sent ≡ []) → (n : ℕ) → after_next ≤ n → finals_to n (finals ++ sent) ≡ []
none_each sent finals k next after_next own below more before n high = finals_beside n k finals sent (apart k n (omega arith)) own ∙ before n (omega arith)

-- the others fit as before
fit_others : (k : ℕ) (finals sent : List FinalAnswer) (rs : List OpenRequest) → AreTo k finals → count_by (is_numbered k) rs ≡ 0 → AllByRecursion (IsFit sent) rs
    → AllByRecursion (IsFit (finals ++ sent)) rs
fit_others k finals sent [] own none all = tt
fit_others k finals sent (r ∷ rs) own none all = (
  fit_beside k finals sent r (apart_back r.number k (by_test (r.number == k) refl)) own all.0,
  fit_others k finals sent rs own (omega (arith, none, count_cons (is_numbered k) r rs)) all.1,
) where
  by_test : (t : Bool) → (r.number == k) ≡ t → (r.number == k) ≡ false
  by_test true e = absurd (omega (arith, none, count_cons (is_numbered k) r rs, one_at (is_numbered k r) e))
  by_test false e = e

-- and so they do where the request is replaced
fit_replaced : (finals sent : List FinalAnswer) (new old : OpenRequest) (rs : List OpenRequest) → AreTo old.number finals → new.number ≡ old.number
    → count_by (is_numbered old.number) rs ≤ 1 → IsIn old rs
    → IsFit (finals ++ sent) new → AllByRecursion (IsFit sent) rs → AllByRecursion (IsFit (finals ++ sent)) (replaced new rs)
fit_replaced finals sent new old [] own e few there fit all = absurd there
fit_replaced finals sent new old (x ∷ xs) own e few there fit all =
    by_test (x.number == new.number) refl (λ later. fit_replaced finals sent new old xs own e (omega (arith, few, count_cons (is_numbered old.number) x xs)) later fit
    all.1) there where
      stays : (left : Bool) → AllByRecursion (IsFit (finals ++ sent)) xs → AllByRecursion (IsFit (finals ++ sent)) (cond left xs (new ∷ xs))
      stays true rest = rest
      stays false rest = (fit, rest)

      still_in : (x.number == new.number) ≡ false → IsIn old (x ∷ xs) → IsIn old xs
      still_in is (inl here) = let number : x.number ≡ old.number = ap (λ (r : OpenRequest). r.number) here in absurd (grind (arith, nat_tests))
      still_in is (inr later) = later

      by_test : (t : Bool) → (x.number == new.number) ≡ t → (IsIn old xs → AllByRecursion (IsFit (finals ++ sent)) (replaced new xs)) → IsIn old (x ∷ xs)
          → AllByRecursion (IsFit (finals ++ sent)) (cond t (cond (has_left new) xs (new ∷ xs)) (x ∷ replaced new xs))
      by_test true is rest at =
          let one = one_at (is_numbered old.number x) (ap (λ v. x.number == v) (sym e) ∙ is) in
          stays (has_left new) (fit_others old.number finals sent xs own (omega (arith, few, count_cons (is_numbered old.number) x xs, one)) all.1)
      by_test false is rest at = (
        fit_beside old.number finals sent x (apart_back x.number old.number (ap (λ v. x.number == v) (sym e) ∙ is)) own all.0,
        rest (still_in is at),
      )

-- ---- moves

-- requests of one key are both INVITEs or neither is
pub same_invite : (a b : OpenRequest) → a.key ≡ b.key → is_invite a ≡ is_invite b
same_invite a b e = ap (λ (k : TransactionKey). bytes_eq k.method (codes "INVITE")) e

-- a change of an open request
change_answers : (server : Server) (now : ℕ) (sent : List FinalAnswer) (r : OpenRequest) (change : Change) (owes : Bool) → is_answering r.side ≡ owes
    → IsEvent server now r change → AreOneAnswer (finals_to r.number sent) → IsFit sent r
    → IsAnswer (change_finals change) sent change.request
change_answers server now sent r change true e event one fit =
    once_answers sent change (answers_once server now r change event e) (ap (λ (n : ℕ). finals_to n sent) (event_number server now r change event) ∙ fit.owes e)
change_answers server now sent r change false e event one fit =
    further_answers sent r change (adds_successes server now r change event e) (event_number server now r change event)
    (same_invite change.request r (event_key server now r change event)) one fit

-- an ACK sends nothing
resent_fit : (server : Server) (now : ℕ) (sent : List FinalAnswer) (r : OpenRequest) (packets : List Packet) (next : OpenRequest) → IsResent server now r packets next
    → IsFit sent r → IsFit sent next
resent_fit server now sent r _ _ (OfAnswer is) h = record { owes = h.owes; accepts = h.accepts }
resent_fit server now sent r _ _ (OfRequest b there is) h = record { owes = h.owes; accepts = h.accepts }

acknowledged_fit : (now : ℕ) (sent : List FinalAnswer) (r : OpenRequest) → IsFit sent r → IsFit sent (acknowledged now r)
acknowledged_fit now sent r h = by_test (is_invite r && was_refused r.answer) where
  by_test : (t : Bool) → IsFit sent (cond t (record r { side = acknowledged_side now r.side }) r)
  by_test true = record { owes = λ answering. h.owes (sym (acknowledged_answering now r.side) ∙ answering); accepts = h.accepts }
  by_test false = h

-- the number of an open request is below the next one
number_below : (requests : List OpenRequest) (next : ℕ) (r : OpenRequest) → AreNumbered next requests → IsIn r requests → r.number + 1 ≤ next
number_below requests next r h there = by_order (nat_le next r.number) refl where
  by_order : (t : Bool) → nat_le next r.number ≡ t → r.number + 1 ≤ next
  by_order true e =
      let high : next ≤ r.number = grind (arith, nat_tests) in
      absurd (omega (arith, h.are_below r.number high, counts_in (is_numbered r.number) requests r there (same_number r.number r.number refl)))
  by_order false e = grind (arith, nat_tests)

-- a request that a datagram brings is sent its first answers
opened_answered : (server : Server) (requests : List OpenRequest) (next after_next : ℕ) (a : Arrival) (m : Message) (r : OpenRequest) (finals sent : List FinalAnswer)
    → IsOpening server a m r finals → a.number ≡ next → next + 1 ≤ after_next
    → AreAnswered requests next sent → IsAnswer finals sent r × (r.number ≡ next) × AllByRecursion (IsFit (finals ++ sent)) requests
opened_answered server requests next after_next a m r finals sent opening number more h =
    let is : r.number ≡ next = opening_number server a m r finals opening ∙ number in
    let answer = opening_answers server sent a m r finals opening (h.none_later r.number (omega arith)) in
    (answer, is, fit_others r.number finals sent requests answer.numbered_so (h.named.numbers.are_below r.number (omega arith)) h.fit)

-- what a move leaves of all that
move_answered : (server : Server) (now : ℕ) (requests : List OpenRequest) (next : ℕ) (after : List OpenRequest) (after_next : ℕ) (finals sent : List FinalAnswer)
    → IsMove server now requests next after after_next finals
    → AreAnswered requests next sent → AreAnswered after after_next (finals ++ sent)
move_answered server now requests next after after_next finals sent (Stays e more up) h = record {
  named = move_named server now requests next after after_next finals (Stays e more up) h.named;
  none_later = λ n high. same n ∙ h.none_later n (omega arith);
  each_one = λ n. subst AreOneAnswer (sym (same n)) (h.each_one n);
  fit = subst (AllByRecursion (IsFit (finals ++ sent))) (sym e) (subst (λ (fs : List FinalAnswer). AllByRecursion (IsFit (fs ++ sent)) requests) (sym up) h.fit);
} where
  same : (n : ℕ) → finals_to n (finals ++ sent) ≡ finals_to n sent
  same n = ap (λ (fs : List FinalAnswer). finals_to n (fs ++ sent)) up
move_answered server now requests next after after_next finals sent (TurnsAway a m r opening number more e) h =
    let opened = opened_answered server requests next after_next a m r finals sent opening number more h in
    let is : r.number ≡ next = opened.1 in
    record {
      named = move_named server now requests next after after_next finals (TurnsAway a m r opening number more e) h.named;
      none_later = none_each sent finals r.number next after_next opened.0.numbered_so (omega arith) (omega arith) h.none_later;
      each_one = one_each sent finals r.number opened.0.numbered_so opened.0.one h.each_one;
      fit = subst (AllByRecursion (IsFit (finals ++ sent))) (sym e) opened.2;
    }
move_answered server now requests next after after_next finals sent (Opens a m r opening at number more is_new e) h =
    let opened = opened_answered server requests next after_next a m r finals sent opening number more h in
    let is : r.number ≡ next = opened.1 in
    record {
      named = move_named server now requests next after after_next finals (Opens a m r opening at number more is_new e) h.named;
      none_later = none_each sent finals r.number next after_next opened.0.numbered_so (omega arith) (omega arith) h.none_later;
      each_one = one_each sent finals r.number opened.0.numbered_so opened.0.one h.each_one;
      fit = subst (AllByRecursion (IsFit (finals ++ sent))) (sym e) (all_push (IsFit (finals ++ sent)) requests r opened.2 opened.0.fits);
    }
move_answered server now requests next after after_next finals sent (Changes r change there is more e up) h =
    let event = change_event server now r change is in
    let number : change.request.number ≡ r.number = event_number server now r change event in
    let answer : IsAnswer finals sent change.request = subst (λ (fs : List FinalAnswer). IsAnswer fs sent change.request) (sym up)
    (change_answers server now sent r change (is_answering r.side) refl event (h.each_one r.number) (all_in (IsFit sent) requests r h.fit there)) in
    let below = number_below requests next r h.named.numbers there in
    record {
      named = move_named server now requests next after after_next finals (Changes r change there is more e up) h.named;
      none_later = none_each sent finals change.request.number next after_next answer.numbered_so (omega arith) more h.none_later;
      each_one = one_each sent finals change.request.number answer.numbered_so answer.one h.each_one;
      fit = subst (AllByRecursion (IsFit (finals ++ sent))) (sym e)
          (fit_replaced finals sent change.request r requests (subst (λ (n : ℕ). AreTo n finals) number answer.numbered_so) number (h.named.numbers.differ r.number) there
          answer.fits h.fit);
    }
move_answered server now requests next after after_next finals sent (Resends r packets later there goes more e up) h = record {
  named = move_named server now requests next after after_next finals (Resends r packets later there goes more e up) h.named;
  none_later = λ n high. same n ∙ h.none_later n (omega arith);
  each_one = λ n. subst AreOneAnswer (sym (same n)) (h.each_one n);
  fit = subst (AllByRecursion (IsFit (finals ++ sent))) (sym e) (subst (λ (fs : List FinalAnswer). AllByRecursion (IsFit (fs ++ sent)) (replaced later requests)) (sym up)
      (all_replaced (IsFit sent) later requests h.fit (λ stays. resent_fit server now sent r packets later goes (all_in (IsFit sent) requests r h.fit there))));
} where
  same : (n : ℕ) → finals_to n (finals ++ sent) ≡ finals_to n sent
  same n = ap (λ (fs : List FinalAnswer). finals_to n (fs ++ sent)) up
move_answered server now requests next after after_next finals sent (Acknowledges r there more e up) h = record {
  named = move_named server now requests next after after_next finals (Acknowledges r there more e up) h.named;
  none_later = λ n high. same n ∙ h.none_later n (omega arith);
  each_one = λ n. subst AreOneAnswer (sym (same n)) (h.each_one n);
  fit = subst (AllByRecursion (IsFit (finals ++ sent))) (sym e) (subst (λ (fs : List FinalAnswer).
      AllByRecursion (IsFit (fs ++ sent)) (replaced (acknowledged now r) requests)) (sym up)
      (all_replaced (IsFit sent) (acknowledged now r) requests h.fit (λ stays. acknowledged_fit now sent r (all_in (IsFit sent) requests r h.fit there))));
} where
  same : (n : ℕ) → finals_to n (finals ++ sent) ≡ finals_to n sent
  same n = ap (λ (fs : List FinalAnswer). finals_to n (fs ++ sent)) up

-- ---- histories

-- in a whole history
chain_answered : (server : Server) (first : ℕ) (history : List Link) (last : ProxyState) (chain : IsChain server (first_state first) history last)
    → AreAnswered last.requests last.next (history_finals server (first_state first) history last chain)
chain_answered server first [] last chain =
    subst (λ (s : ProxyState). AreAnswered s.requests s.next []) (sym chain)
    (record { named = chain_named server first [] (first_state first) refl; none_later = λ n high. refl; each_one = λ n. inl (omega arith); fit = tt })
chain_answered server first (link ∷ history) last chain =
    let now = stands_at link.before link.act link.out in
    let taken = step_taken (under server link.config) link.before link.act link.out link.after chain.1 in
    let finals = step_finals (under server link.config) link.before link.act link.out link.after chain.1 in
    let sent = history_finals server (first_state first) history link.before chain.2 in
    subst (λ (s : ProxyState). AreAnswered s.requests s.next (finals ++ sent)) (sym chain.0)
    (finals_by_moves (under server link.config) now AreAnswered (λ requests next after after_next fs earlier.
    move_answered (under server link.config) now requests next after after_next fs earlier)
    link.before.requests link.before.next link.after.requests link.after.next finals sent taken.moves (chain_answered server first history link.before chain.2))

-- of each number of a history one final answer went up, or several 2xx to an INVITE
pub chain_one_answer : (server : Server) (first : ℕ) (history : List Link) (last : ProxyState) (chain : IsChain server (first_state first) history last) (number : ℕ)
    → AreOneAnswer (finals_to number (history_finals server (first_state first) history last chain))
chain_one_answer server first history last chain number = (chain_answered server first history last chain).each_one number
