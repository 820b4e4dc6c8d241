-- What a step sends to targets, by its parts, and what holds after it.
use Rattle.std.proofs.Common.{◌≡◌, ℕ, zero, suc, ◌+◌, ◌≤◌, Bool, true, false, ◌&&◌, ◌==◌, cond, List, [], ◌∷◌, ◌++◌, Option, Some, None, is_some, refl, sym, ap, subst}
use Rattle.std.proofs.Common.{◌∙◌, arith, count_by, codes, bytes_eq, option_and_then}
use Rattle.std.specs.List.{AllByRecursion, filter_map}
use Rattle.std.specs.Option.{option_to_list, unwrap_or}
use Rattle.std.proofs.lemmas.Slice.Eq.{bytes_eq-Decides}
use Rattle.sip_message_fields.specs.declared.field_name.FieldName.TheVariants as Name
use Rattle.sip_message_fields.specs.declared.field.Field.{Field}
use Rattle.sip_message_fields.specs.Values.{first_value}
use Rattle.sip_message_form.specs.declared.message.Start.{Start}
use Rattle.sip_message_form.specs.declared.message.Start.TheVariants.{Request, Status}
use Rattle.sip_message_form.specs.declared.message.Message.{Message}
use Rattle.sip_header.specs.declared.via.Via.{Via}
use Rattle.sip_header.specs.Parameters.{branch_of}
use Rattle.sip_header.specs.Via.{via_of}
use Rattle.sip_text.specs.Words.{without_case}
use Rattle.sip_transaction_table.specs.declared.key.TransactionKey.{TransactionKey}
use Rattle.sip_transaction_table.specs.Key.{has_cookie, key_method, key_from, via_key, start_key, key_of}
use Rattle.sip_event.specs.declared.packet.Packet.{Packet}
use Rattle.model_steps.specs.state.declared.server.Server.{Server}
use Rattle.model_steps.specs.state.declared.branch.Branch.{Branch}
use Rattle.model_steps.specs.state.declared.open_request.OpenRequest.{OpenRequest}
use Rattle.model_steps.specs.state.declared.proxy_state.ProxyState.{ProxyState}
use Rattle.model_steps.specs.state.Arrival.{Arrival}
use Rattle.model_steps.specs.state.State.{is_invite, deadlines_of, phase_deadline, side_deadline}
use Rattle.model_steps.specs.context_model.Branches.{Change, acknowledged, acknowledged_side, was_refused}
use Rattle.model_steps.specs.context_model.Sending.{branch_packets}
use Rattle.model_steps.specs.context_model.Retransmission.{IsResent, OfAnswer, OfRequest, answers_again, answer_next, branch_due, branch_next, goes_again}
use Rattle.model_steps.specs.context_model.Retransmission.{is_cancelled_again, is_sent_again, with_resend}
use Rattle.model_steps.specs.Effect.{replaced, change_packets, method_of}
use Rattle.model_steps.specs.Step.{Act, NoneBefore}
use Rattle.sip_model.specs.Access.{IsSaidAt}
use Rattle.sip_model.specs.Order.{AreRising}
use Rattle.sip_model.specs.Parts.{IsOpening, IsChangeAt, IsPart, Stays, Passes, Copies, TurnsAway, Opens, Changes, Resends, Acknowledges, AreParts, One, Two, next_after}
use Rattle.sip_model.specs.Sendings.{is_sent_for}
use Rattle.sip_model.proofs.SendingLists.{all_behind, all_flat, all_made, count_joined}
use Rattle.sip_model.proofs.SendingBranches.{Succeeds, succeeds_alike}
use Rattle.sip_model.proofs.SendingChanges.{IsOther, none_sent, answers_other, change_others, change_again, change_succeeds}
use Rattle.sip_model.proofs.SendingTimes.{AreCopyLaws}
use Rattle.sip_model.proofs.SendingRequests.{Fits, Tells, Holds, holds_as, holds_changed, holds_turned, holds_opened, IsNew, Never, Once}
use Rattle.sip_model.proofs.SendingOpenings.{one_packet, fails_first, fails_second, passes_all, opening_number, opening_others, opening_once, opening_fits}
use Rattle.sip_model.proofs.SendingCopies.{due_is, cancel_other, cancel_succeeds, holds_resent, has_address}
use Rattle.sip_model.proofs.Places.{IsIn, all_in, in_from_contains, none_at, one_at, same_number}
use Rattle.sip_model.proofs.Rising.{number_is}

-- ---- an INVITE has the key of one

-- the method of a key
key_from_method : (method branch : List ℕ) (via : Via) (key : TransactionKey) → key_from method via branch ≡ Some key → key.method ≡ key_method method
key_from_method method branch via key e = by_test (has_cookie branch) e where
  by_test : (t : Bool) → cond t (Some (record { branch = branch; host = without_case via.host; port = unwrap_or via.port 5060; method = key_method method })) None
      ≡ Some key → key.method ≡ key_method method
  by_test true e = let same : record { branch = branch; host = without_case via.host; port = unwrap_or via.port 5060; method = key_method method } ≡ key = cc in
      ap (λ (k : TransactionKey). k.method) (sym same)
  by_test false e = absurd (cc)

-- of the key of a request
request_key_method : (method : List ℕ) (fields : List Field) (uri version : List ℕ) (key : TransactionKey) → start_key fields (Request method uri version) ≡ Some key
    → key.method ≡ key_method method
request_key_method method fields uri version key e = by_value (first_value Name.Via fields) e where
  by_branch : (via : Via) (o : Option (List ℕ)) → option_and_then (key_from method via) o ≡ Some key → key.method ≡ key_method method
  by_branch via None e = absurd (cc)
  by_branch via (Some branch) e = key_from_method method branch via key e

  by_via : (o : Option Via) → option_and_then (via_key method) o ≡ Some key → key.method ≡ key_method method
  by_via None e = absurd (cc)
  by_via (Some via) e = by_branch via (branch_of via.parameters) e

  by_value : (o : Option (List ℕ)) → option_and_then (λ value. option_and_then (via_key method) (via_of value)) o ≡ Some key → key.method ≡ key_method method
  by_value None e = absurd (cc)
  by_value (Some value) e = by_via (via_of value) e

-- a request that a datagram says as an INVITE is one by its key
pub invite_key : (m : Message) (key : TransactionKey) → key_of m ≡ Some key → bytes_eq (method_of m.start) (codes "INVITE") ≡ true
    → bytes_eq key.method (codes "INVITE") ≡ true
invite_key m key is said = by_start m.start is said where
  by_start : (start : Start) → start_key m.fields start ≡ Some key → bytes_eq (method_of start) (codes "INVITE") ≡ true → bytes_eq key.method (codes "INVITE") ≡ true
  by_start (Request method uri version) is said =
      let own : key.method ≡ key_method (codes "INVITE") = request_key_method method m.fields uri version key is
      ∙ ap key_method ((bytes_eq-Decides method (codes "INVITE")).0 said) in
      subst (λ (name : List ℕ). bytes_eq name (codes "INVITE") ≡ true) (sym own) refl
  by_start (Status code reason) is said = absurd (cc)

-- ---- what a step adds

-- What was sent after a step: what was sent before, and at its moment what it sends for the first time or again.
pub record Adds (at : ℕ) (firsts again : List Packet) (sent after : ℕ → ℕ → List ℕ) : Type 0 where
  pub none : (n k : ℕ) → 1 ≤ k → count_by (is_sent_for n k) firsts ≡ 0 → count_by (is_sent_for n k) again ≡ 0 → after n k ≡ sent n k
  pub first : (n k : ℕ) → 1 ≤ k → count_by (is_sent_for n k) firsts ≡ 1 → count_by (is_sent_for n k) again ≡ 0 → after n k ≡ at ∷ sent n k
  pub copy : (n k : ℕ) → 1 ≤ k → count_by (is_sent_for n k) firsts ≡ 0 → count_by (is_sent_for n k) again ≡ 1 → after n k ≡ at ∷ sent n k

-- where nothing goes to a target, nothing is added
adds_nothing : (at : ℕ) (firsts again : List Packet) (sent after : ℕ → ℕ → List ℕ) → Adds at firsts again sent after → AllByRecursion IsOther firsts
    → AllByRecursion IsOther again → (n k : ℕ) → 1 ≤ k → after n k ≡ sent n k
adds_nothing at firsts again sent after adds other others n k high = adds.none n k high (none_sent n k firsts high other) (none_sent n k again high others)

-- what goes to no target may be left out
pub adds_front : (at : ℕ) (firsts more again : List Packet) (sent after : ℕ → ℕ → List ℕ) → AllByRecursion IsOther more → Adds at (firsts ++ more) again sent after
    → Adds at firsts again sent after
adds_front at firsts more again sent after other adds = record {
  none = λ n k high zero_firsts zero_again. adds.none n k high (omega (arith, count_joined (is_sent_for n k) firsts more, none_sent n k more high other, zero_firsts))
      zero_again;
  first = λ n k high one zero_again. adds.first n k high (omega (arith, count_joined (is_sent_for n k) firsts more, none_sent n k more high other, one)) zero_again;
  copy = λ n k high zero_firsts one. adds.copy n k high (omega (arith, count_joined (is_sent_for n k) firsts more, none_sent n k more high other, zero_firsts)) one;
}

-- ---- a datagram

-- a datagram takes the next number
pub said_next : (state : ProxyState) (act : Act) (a : Arrival) (bytes : List ℕ) (m : Message) (short : Bool) → IsSaidAt state act a bytes m short
    → (next_after state act ≡ state.next + 1) × (a.number ≡ state.next)
said_next state act a bytes m short said = (ap (next_after state) said.is_act, ap (λ (x : Arrival). x.number) said.is_arrival)

-- how often something was sent for a new number
new_sent : (at : ℕ) (firsts : List Packet) (sent after : ℕ → ℕ → List ℕ) (n k : ℕ) → Adds at firsts [] sent after → 1 ≤ k → sent n k ≡ []
    → count_by (is_sent_for n k) firsts ≤ 1 → IsNew (after n k)
new_sent at firsts sent after n k adds high none few = by_count (count_by (is_sent_for n k) firsts) refl few where
  by_count : (count : ℕ) → count_by (is_sent_for n k) firsts ≡ count → count ≤ 1 → IsNew (after n k)
  by_count zero is few = Never (adds.none n k high is refl ∙ none)
  by_count (suc zero) is few = Once at (adds.first n k high is refl ∙ ap (λ rest. at ∷ rest) none)
  by_count (suc (suc more)) is few = absurd (omega (arith, few))

-- ---- deadlines

-- no deadline of a branch of an open request passed
pub branch_not_passed : (now : ℕ) (requests : List OpenRequest) (r : OpenRequest) (b : Branch) (until : ℕ) → NoneBefore now requests → IsIn r requests → IsIn b r.branches
    → phase_deadline b.phase ≡ Some until → now ≤ until
branch_not_passed now requests r b until none there inside is =
    let own : AllByRecursion (λ due. now ≤ due) (deadlines_of r) = all_flat (λ due. now ≤ due) deadlines_of requests r none there in
    all_made (λ due. now ≤ due) (λ (x : Branch). phase_deadline x.phase) r.branches b until
    (all_behind (λ due. now ≤ due) (option_to_list (side_deadline r.side)) (filter_map (λ (x : Branch). phase_deadline x.phase) r.branches) own) inside is

-- ---- the parts

-- an ACK leaves the branches
acknowledged_succeeds : (now : ℕ) (r : OpenRequest) → Succeeds r (acknowledged now r)
acknowledged_succeeds now r = by_test (is_invite r && was_refused r.answer) where
  by_test : (t : Bool) → Succeeds r (cond t (record r { side = acknowledged_side now r.side }) r)
  by_test true = succeeds_alike r (record r { side = acknowledged_side now r.side }) refl refl refl
  by_test false = succeeds_alike r r refl refl refl

module _ (laws : AreCopyLaws) (server : Server) (state : ProxyState) (act : Act) (now : ℕ) (was was_now : ℕ → Type 0)
    (tells : Tells was was_now state.next (next_after state act))
    (says : (a : Arrival) (bytes : List ℕ) (m : Message) (short : Bool) → IsSaidAt state act a bytes m short → was_now a.number
    → bytes_eq (method_of m.start) (codes "INVITE") ≡ true) where
  -- a request that a datagram brings, whether it is opened or not
  turned_holds : (requests : List OpenRequest) (firsts : List Packet) (sent after : ℕ → ℕ → List ℕ) (a : Arrival) (bytes : List ℕ) (m : Message) (short : Bool)
      (r : OpenRequest) → IsSaidAt state act a bytes m short
      → IsOpening server a m r firsts → Adds now firsts [] sent after → Holds was state.next sent requests → Holds was_now (state.next + 1) after requests
  turned_holds requests firsts sent after a bytes m short r said is adds h =
      let next = said_next state act a bytes m short said in
      holds_turned was was_now state.next sent after requests (subst (λ (n : ℕ). Tells was was_now state.next n) next.0 tells)
      (λ n k high other. adds.none n k high (opening_others server a m r firsts n k is high (λ same. other (same ∙ next.1))) refl)
      (λ k high. new_sent now firsts sent after state.next k adds high (h.none_later state.next k high (omega arith))
      (opening_once server a m r firsts state.next k is high)) h

  -- one that is opened
  opened_holds : (requests : List OpenRequest) (firsts : List Packet) (sent after : ℕ → ℕ → List ℕ) (a : Arrival) (bytes : List ℕ) (m : Message) (short : Bool)
      (r : OpenRequest) → IsSaidAt state act a bytes m short
      → key_of m ≡ Some r.key → a.now ≡ now → IsOpening server a m r firsts → Adds now firsts [] sent after → Holds was state.next sent requests
      → Holds was_now (state.next + 1) after (requests ++ r ∷ [])
  opened_holds requests firsts sent after a bytes m short r said key at is adds h =
      let next = said_next state act a bytes m short said in
      let number = opening_number server a m r firsts is in
      let none : (k : ℕ) → 1 ≤ k → sent a.number k ≡ [] = λ k high. h.none_later a.number k high (omega (arith, next.1)) in
      holds_opened was_now (state.next + 1) after requests r (omega (arith, number, next.1))
      (opening_fits laws was_now after server a m r firsts is (λ k high zero_first. adds.none a.number k high zero_first refl ∙ none k high)
      (λ k high one. adds.first a.number k high one refl ∙ ap (λ (at : ℕ). at ∷ sent a.number k) (sym at) ∙ ap (λ rest. a.now ∷ rest) (none k high))
      (λ did. invite_key m r.key key (says a bytes m short said did)))
      (turned_holds requests firsts sent after a bytes m short r said is adds h)

  -- a change of an open request
  changed_holds : (requests : List OpenRequest) (next : ℕ) (sent : ℕ → ℕ → List ℕ) (r : OpenRequest) (change : Change) (again : List Packet) → IsIn r requests
      → IsChangeAt server state act now r change again
      → Holds was_now next sent requests → Holds was_now next sent (replaced change.request requests)
  changed_holds requests next sent r change again there is h =
      let fits : Fits was_now sent r = all_in (Fits was_now sent) requests r h.fit there in
      holds_changed laws was_now next sent requests r change.request there (change_succeeds server state act now r change again is fits.apart) h

  -- a request that went again to a target
  target_holds : (requests : List OpenRequest) (sent after : ℕ → ℕ → List ℕ) (r : OpenRequest) (b : Branch) → NoneBefore now requests → AreRising requests
      → IsIn r requests → IsIn b r.branches → b.is_cancel ≡ false
      → branch_due r b ≡ Some now → Adds now [] (branch_packets server true r b) sent after → Holds was state.next sent requests
      → Holds was_now (next_after state act) after (replaced (with_resend b r) requests)
  target_holds requests sent after r b none rising there inside target due adds h =
      holds_resent laws was was_now state.next (next_after state act) sent after requests r b tells rising there inside target goes
      (λ until is. let before = branch_not_passed now requests r b until none there inside is in omega (arith, before, is_due.1)) here other h where
        is_due : (goes_again r b ≡ true) × (b.again.due ≡ now)
        is_due = due_is r b now due

        goes : is_sent_again (is_invite r) b.phase ≡ true
        goes = by_kind b.is_cancel target is_due.0 where
          by_kind : (t : Bool) → t ≡ false → cond t (is_cancelled_again b.phase) (is_sent_again (is_invite r) b.phase) ≡ true → is_sent_again (is_invite r) b.phase ≡ true
          by_kind true e goes = absurd (cc)
          by_kind false e goes = goes

        own : (is_some b.address ≡ true) × (1 ≤ b.number)
        own = has_address was state.next sent requests r b h there inside target goes

        here : after r.number b.number ≡ b.again.due ∷ sent r.number b.number
        here =
            adds.copy r.number b.number own.1 refl
            (one_packet server true r b r.number b.number target
            ∙ one_at (is_some b.address && (r.number == r.number && b.number == b.number))
            (passes_all (is_some b.address) (r.number == r.number) (b.number == b.number) own.0 (same_number r.number r.number refl)
            (same_number b.number b.number refl)))
            ∙ ap (λ (at : ℕ). at ∷ sent r.number b.number) (sym is_due.1)

        fails : (n k : ℕ) → (n ≡ r.number → k ≡ b.number → ⊥) → (s t : Bool) → (r.number == n) ≡ s → (b.number == k) ≡ t → (is_some b.address && (s && t)) ≡ false
        fails n k differ true true is same = absurd (differ (sym (number_is r.number n is)) (sym (number_is b.number k same)))
        fails n k differ true false is same = fails_second (is_some b.address) true false refl
        fails n k differ false t is same = fails_first (is_some b.address) false t refl

        other : (n k : ℕ) → 1 ≤ k → (n ≡ r.number → k ≡ b.number → ⊥) → after n k ≡ sent n k
        other n k high differ =
            adds.none n k high refl
            (one_packet server true r b n k target ∙ none_at (is_some b.address && (r.number == n && b.number == k))
            (fails n k differ (r.number == n) (b.number == k) refl refl))

  -- something that went again
  resent_holds : (requests : List OpenRequest) (again : List Packet) (sent after : ℕ → ℕ → List ℕ) (r later : OpenRequest) → NoneBefore now requests → AreRising requests
      → IsIn r requests
      → IsResent server now r again later → Adds now [] again sent after → Holds was state.next sent requests
      → Holds was_now (next_after state act) after (replaced later requests)
  resent_holds requests _ sent after r _ none rising there (OfAnswer due) adds h =
      holds_changed laws was_now (next_after state act) after requests r (record r { again = answer_next r }) there
      (succeeds_alike r (record r { again = answer_next r }) refl refl refl)
      (holds_as was was_now state.next (next_after state act) sent after requests tells
      (adds_nothing now [] (answers_again r r.answer) sent after adds tt (answers_other r r.answer)) h)
  resent_holds requests _ sent after r _ none rising there (OfRequest b inside due) adds h = by_kind b.is_cancel refl where
    by_kind : (t : Bool) → b.is_cancel ≡ t → Holds was_now (next_after state act) after (replaced (with_resend b r) requests)
    by_kind true cancel =
        holds_changed laws was_now (next_after state act) after requests r (with_resend b r) there (cancel_succeeds r b (branch_next r b) cancel)
        (holds_as was was_now state.next (next_after state act) sent after requests tells
        (adds_nothing now [] (branch_packets server true r b) sent after adds tt (cancel_other server r b cancel)) h)
    by_kind false target = target_holds requests sent after r b none rising there (in_from_contains r.branches b inside) target due adds h

  -- a part of a step
  part_holds : (requests becomes : List OpenRequest) (firsts again : List Packet) (sent after : ℕ → ℕ → List ℕ) → NoneBefore now requests → AreRising requests
      → IsPart server state act now requests becomes firsts again
      → Adds now firsts again sent after → Holds was state.next sent requests → Holds was_now (next_after state act) after becomes
  part_holds requests becomes firsts again sent after none rising (Stays same no_first no_again) adds h =
      subst (λ rs. Holds was_now (next_after state act) after rs) (sym same)
      (holds_as was was_now state.next (next_after state act) sent after requests tells
      (adds_nothing now firsts again sent after adds (subst (AllByRecursion IsOther) (sym no_first) tt) (subst (AllByRecursion IsOther) (sym no_again) tt)) h)
  part_holds requests becomes firsts again sent after none rising (Passes a m address within ack same first no_again) adds h =
      subst (λ rs. Holds was_now (next_after state act) after rs) (sym same)
      (holds_as was was_now state.next (next_after state act) sent after requests tells
      (adds_nothing now firsts again sent after adds (subst (AllByRecursion IsOther) (sym first) (refl, tt)) (subst (AllByRecursion IsOther) (sym no_again) tt)) h)
  part_holds requests becomes firsts again sent after none rising (Copies a bytes m short key r said no_ack key_is found same no_first copies) adds h =
      subst (λ rs. Holds was_now (next_after state act) after rs) (sym same)
      (holds_as was was_now state.next (next_after state act) sent after requests tells
      (adds_nothing now firsts again sent after adds (subst (AllByRecursion IsOther) (sym no_first) tt)
      (subst (AllByRecursion IsOther) (sym copies) (answers_other r r.answer))) h)
  part_holds requests becomes firsts again sent after none rising (TurnsAway a bytes m short r said key_is no_ack opening full same no_again) adds h =
      subst (λ rs. Holds was_now (next_after state act) after rs) (sym same)
      (subst (λ (n : ℕ). Holds was_now n after requests) (sym (said_next state act a bytes m short said).0)
      (turned_holds requests firsts sent after a bytes m short r said opening (subst (λ ps. Adds now firsts ps sent after) no_again adds) h))
  part_holds requests becomes firsts again sent after none rising (Opens a bytes m short r said key_is no_ack at opening room is_new same no_again) adds h =
      subst (λ rs. Holds was_now (next_after state act) after rs) (sym same)
      (subst (λ (n : ℕ). Holds was_now n after (requests ++ r ∷ [])) (sym (said_next state act a bytes m short said).0)
      (opened_holds requests firsts sent after a bytes m short r said key_is at opening (subst (λ ps. Adds now firsts ps sent after) no_again adds) h))
  part_holds requests becomes firsts again sent after none rising (Changes r change there is same first) adds h =
      subst (λ rs. Holds was_now (next_after state act) after rs) (sym same)
      (changed_holds requests (next_after state act) after r change again (in_from_contains requests r there) is
      (holds_as was was_now state.next (next_after state act) sent after requests tells
      (adds_nothing now firsts again sent after adds (subst (AllByRecursion IsOther) (sym first) (change_others server state act now r change again is))
      (change_again server state act now r change again is)) h))
  part_holds requests becomes firsts again sent after none rising (Resends r later there is same no_first) adds h =
      subst (λ rs. Holds was_now (next_after state act) after rs) (sym same)
      (resent_holds requests again sent after r later none rising (in_from_contains requests r there) is (subst (λ ps. Adds now ps again sent after) no_first adds) h)
  part_holds requests becomes firsts again sent after none rising (Acknowledges r there same no_first no_again) adds h =
      subst (λ rs. Holds was_now (next_after state act) after rs) (sym same)
      (holds_changed laws was_now (next_after state act) after requests r (acknowledged now r) (in_from_contains requests r there) (acknowledged_succeeds now r)
      (holds_as was was_now state.next (next_after state act) sent after requests tells
      (adds_nothing now firsts again sent after adds (subst (AllByRecursion IsOther) (sym no_first) tt) (subst (AllByRecursion IsOther) (sym no_again) tt)) h))

  -- What holds after a step, by its parts.
  pub parts_hold : (requests becomes : List OpenRequest) (firsts again : List Packet) (sent after : ℕ → ℕ → List ℕ) → NoneBefore now requests → AreRising requests
      → AreParts server state act now requests becomes firsts again
      → Adds now firsts again sent after → Holds was state.next sent requests → Holds was_now (next_after state act) after becomes
  parts_hold requests becomes firsts again sent after none rising (One part) adds h = part_holds requests becomes firsts again sent after none rising part adds h
  parts_hold requests becomes firsts again sent after none rising (Two middle earlier r change part was_there there is same first no_again) adds h =
      let front : Adds now earlier [] sent after =
      adds_front now earlier (change_packets change) [] sent after (change_others server state act now r change [] is)
      (subst (λ ps. Adds now ps [] sent after) first (subst (λ ps. Adds now firsts ps sent after) no_again adds)) in
      subst (λ rs. Holds was_now (next_after state act) after rs) (sym same)
      (changed_holds middle (next_after state act) after r change [] (in_from_contains middle r there) is
      (part_holds requests middle earlier [] sent after none rising part front h))
