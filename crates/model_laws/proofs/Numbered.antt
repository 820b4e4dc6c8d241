-- What a change of an open request sends is of that request's number; what an opening sends for a request's own number is no 200.
use Rattle.std.proofs.Common.{◌≡◌, ℕ, suc, ◌+◌, ◌≤◌, ◌<◌, ◌^◌, Bool, true, false, cond, ◌&&◌, ◌||◌, List, [], ◌∷◌, ◌++◌, codes, decimal, length, get_or, flat_map, Option}
use Rattle.std.proofs.Common.{Some, None, refl, sym, ap, ◌∙◌, arith, append_assoc}
use Rattle.std.specs.Option.{option_map_or}
use Rattle.std.specs.List.{AllByRecursion}
use Rattle.std.proofs.lemmas.Fmt.{decimal_is_IsNumeral, decimal_injective}
use Rattle.std.proofs.lemmas.Str.Parse.{digit_at}
use Rattle.std.proofs.lemmas.List.{append_cancel_left}
use Rattle.sip_message_form.specs.declared.message.Start.{Start}
use Rattle.sip_message_form.specs.declared.message.Start.TheVariants.{Status}
use Rattle.sip_message_form.specs.declared.message.Message.{Message}
use Rattle.sip_message_form.specs.Text.{start_text, field_text, text_of}
use Rattle.sip_uri.specs.declared.addr.Addr.{Addr}
use Rattle.sip_event.specs.declared.packet.Packet.{Packet}
use Rattle.sip_model.specs.state.declared.server.Server.{Server}
use Rattle.sip_model.specs.state.declared.branch.Branch.{Branch}
use Rattle.sip_model.specs.state.declared.branch.Phase.TheVariants.{Done}
use Rattle.sip_model.specs.state.declared.open_request.OpenRequest.{OpenRequest}
use Rattle.sip_model.specs.state.declared.open_request.Upward.{Upward}
use Rattle.sip_model.specs.state.State.{is_invite, is_provisional, is_final, is_failure, is_success, is_decline}
use Rattle.sip_message_fields.specs.declared.field_name.FieldName.TheVariants as Name
use Rattle.sip_message_fields.specs.Values.{first_value}
use Rattle.sip_edit.specs.OwnRequests.{ack_with}
use Rattle.sip_model.specs.context_model.Sending.{branch_packets, to_branch, ack_packets, request_of}
use Rattle.sip_model.specs.context_model.Branches.{Change, settled, after_upward, best_upward, new_cancels, marked, search_ended, with_phase, with_answer, acks_of}
use Rattle.sip_model.specs.context_model.Branches.{responded, target_responded, cancel_responded, heard, other_heard, further, relayed_provisional, relayed_success}
use Rattle.sip_model.specs.steps_model.Effect.{upward_packets, change_packets}

-- ---- statuses in texts

-- each byte is no space
abbrev AreHigh : List ℕ → Type 0
AreHigh xs = (i : ℕ) → i < length xs → 48 ≤ get_or xs i 0

tail : List ℕ → List ℕ
tail [] = []
tail (x ∷ xs) = xs

-- what stands before the first space is one text
before_space : (xs ys u v : List ℕ) → AreHigh xs → AreHigh ys → xs ++ 32 ∷ u ≡ ys ++ 32 ∷ v → xs ≡ ys
unfolding tail
before_space [] [] u v high also e = refl
before_space [] (y ∷ ys) u v high also e = let first : 32 ≡ y = ap (λ (l : List ℕ). get_or l 0 0) e in absurd (omega (arith, first, also 0 (omega arith)))
before_space (x ∷ xs) [] u v high also e = let first : x ≡ 32 = ap (λ (l : List ℕ). get_or l 0 0) e in absurd (omega (arith, first, high 0 (omega arith)))
before_space (x ∷ xs) (y ∷ ys) u v high also e =
    let first : x ≡ y = ap (λ (l : List ℕ). get_or l 0 0) e in
    let rest : xs ≡ ys = before_space xs ys u v (λ i lt. high (suc i) (omega arith)) (λ i lt. also (suc i) (omega arith)) (ap tail e) in
    ap (λ (n : ℕ). n ∷ xs) first ∙ ap (λ (l : List ℕ). y ∷ l) rest

digits_high : (n : ℕ) → n < 2 ^ 64 → AreHigh (decimal n)
digits_high n fits i lt = (digit_at (decimal n) i (decimal_is_IsNumeral n fits).0.1 lt).0

parted : (front number space reason end fields name size blank body : List ℕ)
    → front ++ number ++ space ++ reason ++ end ++ fields ++ name ++ size ++ blank ++ body ≡ front
    ++ (number ++ (space ++ (reason ++ end ++ fields ++ name ++ size ++ blank ++ body)))
parted front number space reason end fields name size blank body = simp append_assoc

-- the text of a response says its status
text_says : (m : Message) (status : ℕ) (reason : List ℕ) → m.start ≡ Status status reason
    → text_of m
    ≡ codes "SIP/2.0 "
    ++ (decimal status ++ (codes " " ++ (reason ++ codes "\r\n" ++ flat_map field_text m.fields ++ codes "Content-Length: " ++ decimal (length m.body) ++ codes "\r\n\r\n"
    ++ m.body)))
text_says m status reason e =
    ap (λ (s : Start). start_text s ++ codes "\r\n" ++ flat_map field_text m.fields ++ codes "Content-Length: " ++ decimal (length m.body) ++ codes "\r\n\r\n" ++ m.body)
    e
    ∙ parted (codes "SIP/2.0 ") (decimal status) (codes " ") reason (codes "\r\n") (flat_map field_text m.fields) (codes "Content-Length: ") (decimal (length m.body))
    (codes "\r\n\r\n") m.body

-- so two responses with one text have one status
pub one_status : (m n : Message) (one two : ℕ) (reason other : List ℕ) → one < 2 ^ 64 → two < 2 ^ 64 → m.start ≡ Status one reason → n.start ≡ Status two other
    → text_of m ≡ text_of n → one ≡ two
one_status m n one two reason other fits also is are e =
    decimal_injective one two fits also
    (before_space (decimal one) (decimal two) _ _ (digits_high one fits) (digits_high two also)
    (append_cancel_left (codes "SIP/2.0 ") _ _ (sym (text_says m one reason is) ∙ e ∙ text_says n two other are)))

-- ---- numbers of packets

-- a packet is of the request that came in the datagram of a number
abbrev pub IsOf : ℕ → Packet → Type 0
IsOf number p = p.ticket.datagram ≡ number

module _ (number : ℕ) where
  all_both : (xs ys : List Packet) → AllByRecursion (IsOf number) xs → AllByRecursion (IsOf number) ys → AllByRecursion (IsOf number) (xs ++ ys)
  all_both [] ys h k = k
  all_both (x ∷ xs) ys h k = (h.0, all_both xs ys h.1 k)

  of_branch : (r : OpenRequest) (b : Branch) (target : ℕ) (m : Message) → r.number ≡ number → AllByRecursion (IsOf number) (to_branch r b target false m)
  of_branch r b target m is = by_address b.address where
    by_address : (o : Option Addr)
        → AllByRecursion (IsOf number) (option_map_or (λ address. record {
          to = address;
          bytes = text_of m;
          ticket = record { datagram = r.number; branch = target };
          again = false;
        } ∷ []) o [])
    by_address None = tt
    by_address (Some address) = (is, tt)

  of_branches : (server : Server) (r : OpenRequest) (bs : List Branch) → r.number ≡ number → AllByRecursion (IsOf number) (flat_map (branch_packets server false r) bs)
  of_branches server r [] is = tt
  of_branches server r (b ∷ bs) is = all_both (branch_packets server false r b) (flat_map (branch_packets server false r) bs) (of_branch r b _ _ is)
      (of_branches server r bs is)

  of_upward : (r : OpenRequest) (us : List Upward) → r.number ≡ number → AllByRecursion (IsOf number) (upward_packets r us)
  of_upward r [] is = tt
  of_upward r (u ∷ us) is = (is, of_upward r us is)

  after_number : (now : ℕ) (o : Option Upward) (r : OpenRequest) → (after_upward now o r).number ≡ r.number
  after_number now None r = refl
  after_number now (Some u) r = refl

  -- all that a settled change sends
  settled_of : (server : Server) (now : ℕ) (acks : List Packet) (relayed : Option Upward) (r : OpenRequest) → r.number ≡ number → AllByRecursion (IsOf number) acks
      → AllByRecursion (IsOf number) (change_packets (settled server now acks relayed r))
  settled_of server now acks relayed r is those =
      let told : OpenRequest = after_upward now relayed r in
      let after : OpenRequest = after_upward now (best_upward server told) told in
      let stays : after.number ≡ number = after_number now (best_upward server told) told ∙ after_number now relayed r ∙ is in
      let change : Change = settled server now acks relayed r in
      all_both (acks ++ upward_packets change.request change.upward) change.cancels
      (all_both acks (upward_packets change.request change.upward) those (of_upward change.request change.upward stays))
      (of_branches server after (new_cancels now after) stays)

  acks_are_of : (server : Server) (r : OpenRequest) (b : Branch) (status : ℕ) (m : Message) → r.number ≡ number
      → AllByRecursion (IsOf number) (acks_of server r b status m)
  acks_are_of server r b status m is = by_test (is_invite r && is_failure status) where
    by_test : (t : Bool) → AllByRecursion (IsOf number) (cond t (ack_packets server false r b (first_value Name.To m.fields)) [])
    by_test true = of_branch r b 0 (ack_with (first_value Name.To m.fields) (request_of server r b)) is
    by_test false = tt

  answer_number : (r : OpenRequest) (status : ℕ) (after : OpenRequest) → after.number ≡ number → (search_ended r status after).number ≡ number
  answer_number r status after is = by_test (is_invite r && (is_success status || is_decline status)) where
    by_test : (t : Bool) → (cond t (marked after) after).number ≡ number
    by_test true = is
    by_test false = is

  target_of : (server : Server) (now : ℕ) (r : OpenRequest) (b : Branch) (status : ℕ) (m : Message) → r.number ≡ number
      → AllByRecursion (IsOf number) (change_packets (target_responded server now r b status m))
  target_of server now r b status m is = by_tests (is_provisional status) (is_final b.phase) where
    by_tests : (s t : Bool) → AllByRecursion (IsOf number) (change_packets (cond s (settled server now [] (relayed_provisional r b status m)
        (with_phase b (heard r now status b.phase) r))
        (cond t (settled server now [] (further r b b.phase status m) r) (settled server now (acks_of server r b status m) (relayed_success r b status m)
        (with_answer r b now status m)))))
    by_tests true t = settled_of server now [] (relayed_provisional r b status m) (with_phase b (heard r now status b.phase) r) is tt
    by_tests false true = settled_of server now [] (further r b b.phase status m) r is tt
    by_tests false false =
        settled_of server now (acks_of server r b status m) (relayed_success r b status m) (with_answer r b now status m) (answer_number r status _ is)
        (acks_are_of server r b status m is)

  cancel_is_of : (server : Server) (now : ℕ) (r : OpenRequest) (b : Branch) (status : ℕ) (m : Message) → r.number ≡ number
      → AllByRecursion (IsOf number) (change_packets (cancel_responded server now r b status m))
  cancel_is_of server now r b status m is = by_tests (is_provisional status) (is_final b.phase) where
    by_tests : (s t : Bool) → AllByRecursion (IsOf number) (change_packets (cond s (settled server now [] None (with_phase b (other_heard b.phase) r))
        (cond t (settled server now [] None r) (settled server now [] None (with_phase b (Done (now + 5000) status) r)))))
    by_tests true t = settled_of server now [] None (with_phase b (other_heard b.phase) r) is tt
    by_tests false true = settled_of server now [] None r is tt
    by_tests false false = settled_of server now [] None (with_phase b (Done (now + 5000) status) r) is tt

  -- all that a response sends is of its request
  pub responded_of : (server : Server) (now : ℕ) (r : OpenRequest) (b : Branch) (status : ℕ) (m : Message) → r.number ≡ number
      → AllByRecursion (IsOf number) (change_packets (responded server now r b status m))
  responded_of server now r b status m is = by_test b.is_cancel where
    by_test : (t : Bool) → AllByRecursion (IsOf number) (change_packets (cond t (cancel_responded server now r b status m) (target_responded server now r b status m)))
    by_test true = cancel_is_of server now r b status m is
    by_test false = target_of server now r b status m is
