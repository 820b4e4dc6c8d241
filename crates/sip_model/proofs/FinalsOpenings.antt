-- What a request's caller is sent in the step in which its datagram opens it, or turns it away.
use Rattle.std.proofs.Common.{◌≡◌, inl, ℕ, ◌+◌, ◌≤◌, Bool, true, false, not, ◌&&◌, cond, ◌==◌, List, [], ◌∷◌, ◌++◌, map, filter, is_some, Option, Some, None}
use Rattle.std.proofs.Common.{option_and_then, refl, sym, ap, ◌∙◌, arith, bytes_eq, codes, flat_map}
use Rattle.std.specs.Option.{option_map_or, unwrap_or}
use Rattle.std.specs.List.{AllByRecursion}
use Rattle.std.proofs.lemmas.Bool.Decides.{nat_tests}
use Rattle.sip_uri.specs.declared.addr.Addr.{Addr}
use Rattle.sip_message_fields.specs.declared.field.Field.{Field}
use Rattle.sip_message_fields.specs.declared.field_name.FieldName.TheVariants as Name
use Rattle.sip_message_fields.specs.Values.{first_value}
use Rattle.sip_message_form.specs.declared.message.Start.{Start}
use Rattle.sip_message_form.specs.declared.message.Start.TheVariants.{Request, Status}
use Rattle.sip_message_form.specs.declared.message.Message.{Message}
use Rattle.sip_message_form.specs.Text.{text_of}
use Rattle.sip_text.specs.Words.{without_case}
use Rattle.sip_header.specs.declared.via.Via.{Via}
use Rattle.sip_header.specs.Via.{via_of}
use Rattle.sip_header.specs.Parameters.{branch_of}
use Rattle.sip_transaction_table.specs.declared.key.TransactionKey.{TransactionKey}
use Rattle.sip_transaction_table.specs.Key.{has_cookie, key_method, key_from, via_key, start_key, key_of}
use Rattle.sip_edit_response.specs.Reasons.{reason_of}
use Rattle.sip_event.specs.declared.packet.Packet.{Packet}
use Rattle.model_steps.specs.state.declared.server.Server.{Server}
use Rattle.model_steps.specs.state.declared.branch.Branch.{Branch}
use Rattle.model_steps.specs.state.declared.open_request.Side.TheVariants.{Closing}
use Rattle.model_steps.specs.state.declared.open_request.OpenRequest.{OpenRequest}
use Rattle.model_steps.specs.state.declared.open_request.Upward.{Upward}
use Rattle.model_steps.specs.state.Arrival.{Arrival}
use Rattle.model_steps.specs.state.State.{is_answering, is_provisional}
use Rattle.model_steps.specs.context_model.Sending.{made_answer, answer_packet, sent_of, ticket_branch, branch_packets}
use Rattle.model_steps.specs.context_model.Branches.{Change, best_upward, after_upward, upward_list, new_cancels, with_cancels, settled}
use Rattle.model_steps.specs.context_model.Opening.{request_key, closing, forking, unsent, is_tried, trying, tried, opening}
use Rattle.model_steps.specs.Effect.{upward_packets, change_packets, opening_packets, method_of}
use Rattle.sip_model.specs.Order.{is_final_answer, AnswersOnce}
use Rattle.sip_model.specs.Parts.{IsBegun, AreBegun, made_text, IsOpening, Answered, Sent}
use Rattle.sip_model.specs.FinalAnswers.{begins_final, begins_success, is_final_to}
use Rattle.sip_model.proofs.FinalsText.{HasStatus, success_text}
use Rattle.sip_model.proofs.FinalsLists.{followed}
use Rattle.sip_model.proofs.FinalsKept.{IsKept, IsHonest, made_kept, made_status}
use Rattle.sip_model.proofs.FinalsChanges.{IsLike, IsSound, settled_sound}
use Rattle.sip_model.proofs.FinalsCounts.{finals_in, others_in, is_other_to, first_fails, middle_fails, success_no_other, others_few, up_few, change_beside, IsFit}
use Rattle.sip_model.proofs.FinalsCounts.{IsOne, fit_same, one_same, IsLeft, once_left}
use Rattle.sip_model.proofs.SendingLists.{count_joined}
use Rattle.sip_model.proofs.Places.{count_cons, none_at, one_at}
use Rattle.sip_model.proofs.Apart.{at_most_one}

-- ---- an INVITE

-- the key that a choice gives
chosen_key : (t : Bool) (x y : TransactionKey) → cond t (Some x) None ≡ Some y → y ≡ x
chosen_key true x y e = cc
chosen_key false x y e = absurd (cc)

-- the method of a key
from_method : (method : List ℕ) (via : Via) (branch : List ℕ) (key : TransactionKey) → key_from method via branch ≡ Some key → key.method ≡ key_method method
from_method method via branch key e =
    ap (λ (k : TransactionKey). k.method)
    (chosen_key (has_cookie branch) (record { branch = branch; host = without_case via.host; port = unwrap_or via.port 5060; method = key_method method }) key e)

-- that of a message
start_method : (fields : List Field) (start : Start) (key : TransactionKey) → start_key fields start ≡ Some key → key.method ≡ key_method (method_of start)
start_method fields (Request method uri version) key e =
    let value = followed (first_value Name.Via fields) (λ value. option_and_then (via_key method) (via_of value)) key e in
    let via = followed (via_of value.0) (via_key method) key value.2 in
    let branch = followed (branch_of via.0.parameters) (key_from method via.0) key via.2 in
    from_method method via.0 branch.0 key branch.2
start_method fields (Status code reason) key e = absurd (cc)

-- what is opened as an INVITE is one, if it is no ACK
pub opened_invite : (m : Message) (key : TransactionKey) → key_of m ≡ Some key → bytes_eq (method_of m.start) (codes "ACK") ≡ false
    → bytes_eq (request_key m).method (codes "INVITE") ≡ true → bytes_eq (method_of m.start) (codes "INVITE") ≡ true
opened_invite m key e no_ack invite =
    let is_key : request_key m ≡ key = ap (λ (o : Option TransactionKey). unwrap_or o (record { branch = []; host = []; port = 0; method = [] })) e in
    let own : key_method (method_of m.start) ≡ method_of m.start = ap (λ (t : Bool). cond t (codes "INVITE") (method_of m.start)) no_ack in
    sym (ap (λ (method : List ℕ). bytes_eq method (codes "INVITE")) (ap (λ (k : TransactionKey). k.method) is_key ∙ start_method m.fields m.start key e ∙ own)) ∙ invite

-- ---- what goes up at once

-- settling after nothing went up sends at most one final answer
settled_once : (server : Server) (now : ℕ) (r : OpenRequest) → is_answering r.side ≡ true → AnswersOnce (settled server now [] None r)
settled_once server now r owes = by_best (best_upward server r) where
  after : Option Upward → Change
  after best =
      record {
        request = with_cancels now (after_upward now best r);
        acks = [];
        upward = upward_list None ++ upward_list best;
        cancels = flat_map (branch_packets server false (after_upward now best r)) (new_cancels now (after_upward now best r));
      }

  closes : (u : Upward) (t : Bool) → is_provisional u.status ≡ t → AnswersOnce (after (Some u))
  closes u true is = record {
    is_one = omega (arith, count_cons is_final_answer u [], at_most_one (is_final_answer u));
    is_answered = λ some. absurd (omega (arith, some, count_cons is_final_answer u [], none_at (is_final_answer u) (ap not is)));
    still_owes = λ none. ap (λ (t : Bool). is_answering (cond (is_answering r.side && not t) (Closing (now + 32000)) r.side)) is ∙ stays (is_answering r.side) owes;
    is_last = (λ final. refl, tt);
  } where
    stays : (t : Bool) → is_answering r.side ≡ true → is_answering (cond (t && false) (Closing (now + 32000)) r.side) ≡ true
    stays true h = h
    stays false h = h
  closes u false is = record {
    is_one = omega (arith, count_cons is_final_answer u [], at_most_one (is_final_answer u));
    is_answered = λ some.
        ap (λ (t : Bool). is_answering (cond (is_answering r.side && not t) (Closing (now + 32000)) r.side)) is
        ∙ ap (λ (t : Bool). is_answering (cond (t && true) (Closing (now + 32000)) r.side)) owes;
    still_owes = λ none. absurd (omega (arith, none, count_cons is_final_answer u [], one_at (is_final_answer u) (ap not is)));
    is_last = (λ final. refl, tt);
  }

  by_best : (o : Option Upward) → AnswersOnce (after o)
  by_best None = record { is_one = omega arith; is_answered = λ some. absurd (omega arith); still_owes = λ none. owes; is_last = tt }
  by_best (Some u) = closes u (is_provisional u.status) refl

-- a branch without an address has a status
unsent_kept : (bs : List Branch) → AllByRecursion IsKept (unsent bs)
unsent_kept bs = each (filter (λ (b : Branch). not (is_some b.address)) bs) where
  each : (xs : List Branch) → AllByRecursion IsKept (map (λ (b : Branch). record { status = 503; message = None }) xs)
  each [] = tt
  each (x ∷ xs) = (made_kept 503 (omega arith), each xs)

-- the 100 of a request
hundred : Server → OpenRequest → Upward
hundred server r = record { status = 100; message = made_answer server r.number r.request.message r.request.source 100 []; target = None }

-- it is no final answer
tried_none : (server : Server) (n : ℕ) (r : OpenRequest) → finals_in n (upward_packets r (trying server r)) ≡ 0
unfolding hundred
tried_none server n r = by_test (is_tried r) where
  honest : IsHonest (hundred server r)
  honest = record { low = omega arith; is_of = made_status server r 100 }

  by_test : (t : Bool) → finals_in n (upward_packets r (cond t (hundred server r ∷ []) [])) ≡ 0
  by_test true = omega (
    arith,
    up_few n r (hundred server r ∷ []) (honest, tt),
    count_cons is_final_answer (hundred server r) [],
    none_at (is_final_answer (hundred server r)) refl,
  )
  by_test false = refl

-- and leaves what is kept
tried_like : (server : Server) (now : ℕ) (r : OpenRequest) → AllByRecursion IsKept r.finals → IsLike r (tried now (trying server r) r)
unfolding hundred
tried_like server now r all = by_test (is_tried r) where
  by_test : (t : Bool) → IsLike r (tried now (cond t (hundred server r ∷ []) []) r)
  by_test true = record { number_is = refl; key_is = refl; keeps = all }
  by_test false = record { number_is = refl; key_is = refl; keeps = all }

-- an answer is still owed after it
tried_owes : (server : Server) (a : Arrival) (m : Message) (bs : List Branch) → is_answering (tried a.now (trying server (forking a m bs)) (forking a m bs)).side ≡ true
unfolding hundred
tried_owes server a m bs = by_test (is_tried (forking a m bs)) where
  by_test : (t : Bool) → is_answering (tried a.now (cond t (hundred server (forking a m bs) ∷ []) []) (forking a m bs)).side ≡ true
  by_test true = refl
  by_test false = refl

-- ---- requests to targets

-- the number of a target isn't 0
target_number : (now k : ℕ) (b : Branch) → IsBegun now k b → 1 ≤ k → (ticket_branch b == 0) ≡ false
target_number now k b h some =
    let number : b.number ≡ k = h.is_numbered in
    ap (λ (t : Bool). cond t 0 b.number == 0) h.is_target ∙ not_zero b.number (omega arith) where
      not_zero : (n : ℕ) → 1 ≤ n → (n == 0) ≡ false
      not_zero n h = grind (arith, nat_tests)

-- what goes to targets is no answer
targets_none : (server : Server) (n now k : ℕ) (r : OpenRequest) (bs : List Branch) → AreBegun now k bs → 1 ≤ k
    → finals_in n (flat_map (branch_packets server false r) bs) ≡ 0
targets_none server n now k r [] begun some = refl
targets_none server n now k r (b ∷ bs) begun some =
    omega (
      arith,
      count_joined (is_final_to n) (branch_packets server false r b) (flat_map (branch_packets server false r) bs),
      by_address b.address,
      targets_none server n now (k + 1) r bs begun.1 (omega arith),
    ) where
      by_address : (address : Option Addr)
          → finals_in n (option_map_or
          (λ to. record { to = to; bytes = text_of (sent_of server r b); ticket = record { datagram = r.number; branch = ticket_branch b }; again = false } ∷ []) address
          []) ≡ 0
      by_address None = refl
      by_address (Some to) =
          let p : Packet = record { to = to; bytes = text_of (sent_of server r b); ticket = record { datagram = r.number; branch = ticket_branch b }; again = false } in
          omega (
            arith,
            count_cons (is_final_to n) p [],
            none_at (is_final_to n p)
                (middle_fails (r.number == n) (ticket_branch b == 0) (begins_final p.bytes) (target_number now k b begun.0 some)),
          )

-- ---- a request as it is opened

-- What the step that opens a request leaves: final answers to its caller alone, within the bound, and a request that fits them.
pub record IsOpened (Invite : ℕ → Type 0) (sent : List Packet) (k : ℕ) (r : OpenRequest) (firsts : List Packet) : Type 0 where
  pub number_is : r.number ≡ k
  pub beside : (n : ℕ) → (k == n) ≡ false → finals_in n firsts ≡ 0
  pub one : IsOne Invite k (firsts ++ sent)
  pub fits : IsFit Invite (firsts ++ sent) r

-- one that is answered at once
answered_opened : (Invite : ℕ → Type 0) (sent : List Packet) (server : Server) (a : Arrival) (m : Message) (status : ℕ) (extras : List Field)
    → (bytes_eq (request_key m).method (codes "INVITE") ≡ true → Invite a.number)
    → finals_in a.number sent ≡ 0
    → IsOpened Invite sent a.number (closing a m status (made_text server a m status extras))
    (answer_packet false a.number m a.from (made_text server a m status extras) ∷ [])
answered_opened Invite sent server a m status extras invites none = record {
  number_is = refl;
  beside = λ n e. omega (arith, count_cons (is_final_to n) p [], none_at (is_final_to n p) (first_fails (a.number == n) true (begins_final p.bytes) e));
  one = inl (omega (arith, count_cons (is_final_to a.number) p sent, at_most_one (is_final_to a.number p), none));
  fits = record {
    owes = λ answering. absurd (cc);
    accepts = λ invite success.
        let none_other = none_at (is_other_to a.number p)
        (success_no_other (is_final_to a.number p) (begins_success p.bytes) (success_text status (made_answer server a.number m a.from status extras) has_status success))
        in
        omega (arith, count_cons (is_other_to a.number) p sent, none_other, others_few a.number sent, none);
    invites = λ invite. invites invite;
    keeps = tt;
  };
} where
  p : Packet
  p = answer_packet false a.number m a.from (made_text server a m status extras)

  has_status : HasStatus status (made_answer server a.number m a.from status extras)
  has_status = record { reason = reason_of status; start_is = refl }

-- one that is sent to its targets
sent_opened : (Invite : ℕ → Type 0) (sent : List Packet) (server : Server) (a : Arrival) (m : Message) (bs : List Branch) → AreBegun a.now 1 bs
    → (bytes_eq (request_key m).method (codes "INVITE") ≡ true → Invite a.number)
    → finals_in a.number sent ≡ 0 → IsOpened Invite sent a.number (opening server a.now (forking a m bs)).request (opening_packets server a.now (forking a m bs))
sent_opened Invite sent server a m bs begun invites none = record {
  number_is = sound.is_like.number_is;
  beside = λ n e. finals n ∙ change_beside n fork change sound e;
  one = one_same Invite a.number (change_packets change ++ sent) (opening_packets server a.now fork ++ sent) (finals_sent a.number) (others_sent a.number) left.one;
  fits = fit_same Invite (change_packets change ++ sent) (opening_packets server a.now fork ++ sent) change.request (finals_sent change.request.number)
      (others_sent change.request.number) left.fits;
} where
  fork : OpenRequest
  fork = forking a m bs

  change : Change
  change = opening server a.now fork

  up : List Packet
  up = upward_packets fork (trying server fork)

  targets : List Packet
  targets = flat_map (branch_packets server false fork) bs

  sound : IsSound fork change
  sound = settled_sound server a.now [] None fork (tried a.now (trying server fork) fork) tt tt (tried_like server a.now fork (unsent_kept bs))

  fit : IsFit Invite sent fork
  fit = record { owes = λ answering. none; accepts = λ invite success. absurd (cc); invites = λ invite. invites invite; keeps = unsent_kept bs }

  left : IsLeft Invite sent fork change
  left = once_left Invite sent fork change (settled_once server a.now (tried a.now (trying server fork) fork) (tried_owes server a m bs)) sound fit refl

  finals : (n : ℕ) → finals_in n (opening_packets server a.now fork) ≡ finals_in n (change_packets change)
  finals n =
      omega (
        arith,
        count_joined (is_final_to n) (up ++ change_packets change) targets,
        count_joined (is_final_to n) up
            (change_packets change),
        tried_none server n fork,
        targets_none server n a.now 1 fork bs begun (omega arith),
      )

  others : (n : ℕ) → others_in n (opening_packets server a.now fork) ≡ others_in n (change_packets change)
  others n =
      omega (
        arith,
        count_joined (is_other_to n) (up ++ change_packets change) targets,
        count_joined (is_other_to n) up (change_packets change),
        tried_none server n fork,
        targets_none server n a.now 1 fork bs begun (omega arith),
        others_few n up,
        others_few n targets,
      )

  finals_sent : (n : ℕ) → finals_in n (opening_packets server a.now fork ++ sent) ≡ finals_in n (change_packets change ++ sent)
  finals_sent n = omega (
    arith,
    count_joined (is_final_to n) (opening_packets server a.now fork) sent,
    count_joined (is_final_to n) (change_packets change) sent,
    finals n,
  )

  others_sent : (n : ℕ) → others_in n (opening_packets server a.now fork ++ sent) ≡ others_in n (change_packets change ++ sent)
  others_sent n = omega (
    arith,
    count_joined (is_other_to n) (opening_packets server a.now fork) sent,
    count_joined (is_other_to n) (change_packets change) sent,
    others n,
  )

-- either
pub opening_opened : (Invite : ℕ → Type 0) (sent : List Packet) (server : Server) (a : Arrival) (m : Message) (r : OpenRequest) (firsts : List Packet)
    → IsOpening server a m r firsts
    → (bytes_eq (request_key m).method (codes "INVITE") ≡ true → Invite a.number) → finals_in a.number sent ≡ 0 → IsOpened Invite sent a.number r firsts
opening_opened Invite sent server a m _ _ (Answered status extras final) invites none = answered_opened Invite sent server a m status extras invites none
opening_opened Invite sent server a m _ _ (Sent first others begun) invites none = sent_opened Invite sent server a m (first ∷ others) begun invites none
