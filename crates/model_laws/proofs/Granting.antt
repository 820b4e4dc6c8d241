-- Every 200 that a step makes here is the one to a REGISTER that binds, or the one to a CANCEL that names an open request.
use Rattle.std.proofs.Common.{◌≡◌, ◌≢◌, ◌⊎◌, inl, inr, ℕ, ◌+◌, ◌≤◌, Bool, true, false, cond, not, ◌&&◌, List, [], ◌∷◌, ◌++◌, codes, decimal, length, get_or, map, filter}
use Rattle.std.proofs.Common.{flat_map, Contains, Option, Some, None, option_map, refl, sym, ap, subst, ◌∙◌, arith, is_some}
use Rattle.std.specs.Option.{option_map_or}
use Rattle.std.specs.List.{AllByRecursion}
use Rattle.std.proofs.lemmas.Bool.Decides.{Decides-eqb}
use Rattle.std.proofs.lemmas.List.Elements.{All-from_recursion, All-contains}
use Rattle.sip_message_fields.specs.declared.field.Field.{Field}
use Rattle.sip_message_form.specs.declared.message.Start.{Start}
use Rattle.sip_message_form.specs.declared.message.Start.TheVariants.{Request}
use Rattle.sip_message_form.specs.declared.message.Message.{Message}
use Rattle.sip_message_form.specs.Text.{start_text, field_text, text_of}
use Rattle.sip_message.specs.Reading.{reading_of}
use Rattle.sip_uri.specs.declared.addr.Addr.{Addr}
use Rattle.sip_best.specs.declared.final_answer.Final.{Final}
use Rattle.sip_best.specs.Best.{is_unbeaten, picked, chosen_of, is_challenge_status, challenging, going_up, best_of}
use Rattle.sip_edit.specs.Onward.{onward_uri, with_uri}
use Rattle.sip_edit_response.specs.Reasons.{reason_of}
use Rattle.sip_targets.specs.declared.target.Target.{Target}
use Rattle.sip_targets.specs.declared.targets.Targets.{Targets}
use Rattle.sip_event.specs.declared.packet.Packet.{Packet}
use Rattle.sip_event.specs.declared.event.StepOut.{StepOut}
use Rattle.sip_event.specs.declared.event.Event.TheVariants.{Datagram}
use Rattle.sip_model.specs.state.declared.server.Server.{Server}
use Rattle.sip_model.specs.state.declared.branch.Branch.{Branch}
use Rattle.sip_model.specs.state.declared.open_request.OpenRequest.{OpenRequest}
use Rattle.sip_model.specs.state.declared.open_request.Upward.{Upward}
use Rattle.sip_model.specs.state.declared.proxy_state.ProxyState.{ProxyState}
use Rattle.sip_model.specs.state.State.{first_state, is_answering}
use Rattle.sip_model.specs.state.Arrival.{Arrival}
use Rattle.sip_model.specs.context_model.Sending.{made_answer, onward_as, branch_packets, ticket_branch, sent_of}
use Rattle.sip_model.specs.context_model.Branches.{Change, after_upward, upward_list, upward_of, all_final, best_upward, is_ready, is_cancellable, cancel_branch}
use Rattle.sip_model.specs.context_model.Branches.{cancelled, responded}
use Rattle.sip_model.specs.context_model.Opening.{unsent, forking, is_tried, trying, tried, opening, branches_from, dialog_branch}
use Rattle.sip_model.specs.verdict_model.Verdict.{Bound, Refused, Verdict, Drop, Respond, Copy, AckOn, Cancel, Answer, InDialog, Challenge, Deny, Send, Register}
use Rattle.sip_model.specs.verdict_model.Verdict.{message_in, message_verdict, verdict_in}
use Rattle.sip_policy.specs.declared.operation.Operation.{Operation}
use Rattle.sip_model.specs.steps_model.Effect.{contact_fields, challenge_status, challenges_to, upward_packets, change_packets, opening_packets, ack_packet, effect_of}
use Rattle.sip_model.specs.steps_model.Effect.{counted, nothing, datagram_effect}
use Rattle.sip_model.specs.steps_model.Step.{Act, Given, IsStep, originals, arrival_of}
use Rattle.sip_model.specs.Order.{is_numbered, AreNumbered}
use Rattle.sip_model.specs.Run.{Link, under, IsChain}
use Rattle.sip_model.specs.Access.{IsSaidAt}
use Rattle.model_laws.specs.Lists.{ListsInOrder}
use Rattle.model_laws.specs.Successes.{answer_here, IsRegistered, IsCancelling}
use Rattle.model_laws.proofs.Contacts.{listed_in_order}
use Rattle.model_laws.proofs.Belonging.{counted as is_counted}
use Rattle.model_laws.proofs.Numbered.{IsOf, one_status, responded_of}
use Rattle.model_laws.proofs.Reasons.{IsOther, above, IsAck, Tells, verdict_tells}

-- ---- the best answer where no branch can be sent to

-- a branch that can't be sent to
abbrev IsUnsent : Final → Type 0
IsUnsent f = (f.status ≡ 503) × (f.message ≡ None)

unsent_all : (bs : List Branch) → AllByRecursion IsUnsent (unsent bs)
unsent_all [] = tt
unsent_all (b ∷ bs) = by_test (not (is_some b.address)) (unsent_all bs) where
  by_test : (t : Bool) → AllByRecursion IsUnsent (unsent bs)
      → AllByRecursion IsUnsent
      (map (λ (b : Branch). record { status = 503; message = None }) (cond t (b ∷ filter (λ (b : Branch). not (is_some b.address)) bs)
      (filter (λ (b : Branch). not (is_some b.address)) bs)))
  by_test true rest = ((refl, refl), rest)
  by_test false rest = rest

-- the one that is picked among some is one of them
picked_unsent : (test : Final → Bool) (finals : List Final) (x : Final × List Final) → AllByRecursion IsUnsent finals → picked test finals ≡ Some x → IsUnsent x.0
picked_unsent test [] x all e = absurd (cc)
picked_unsent test (f ∷ fs) x all e = by_test (test f) (picked_unsent test fs) e where
  by_rest : ((y : Final × List Final) → AllByRecursion IsUnsent fs → picked test fs ≡ Some y → IsUnsent y.0) → (o : Option (Final × List Final)) → picked test fs ≡ o
      → option_map (λ (y : Final × List Final). (y.0, f ∷ y.1)) o ≡ Some x → IsUnsent x.0
  by_rest later None is e = absurd (cc)
  by_rest later (Some y) is e = subst IsUnsent (ap (λ (o : Option (Final × List Final)). option_map_or (λ (z : Final × List Final). z.0) o f) e) (later y all.1 is)

  by_test : (t : Bool) → ((y : Final × List Final) → AllByRecursion IsUnsent fs → picked test fs ≡ Some y → IsUnsent y.0)
      → cond t (Some (f, fs)) (option_map (λ (y : Final × List Final). (y.0, f ∷ y.1)) (picked test fs)) ≡ Some x → IsUnsent x.0
  by_test true later e = subst IsUnsent (ap (λ (o : Option (Final × List Final)). option_map_or (λ (z : Final × List Final). z.0) o f) e) all.0
  by_test false later e = by_rest later (picked test fs) refl e

-- it goes up as a 500 that is made here
goes_as_500 : (others : List Final) (f : Final) → IsUnsent f → going_up others f ≡ record { status = 500; message = None }
goes_as_500 others f is =
    ap (λ (t : Bool). cond {A = Final} t (record { status = 500; message = None }) (cond (is_challenge_status f.status) (challenging others f) f))
    ((Decides-eqb f.status 503).1 is.0)

best_is_500 : (finals : List Final) (f : Final) → AllByRecursion IsUnsent finals → best_of finals ≡ Some f → f ≡ record { status = 500; message = None }
best_is_500 finals f all e = by_chosen (chosen_of finals) refl e where
  by_chosen : (o : Option (Final × List Final)) → chosen_of finals ≡ o → option_map (λ (x : Final × List Final). going_up x.1 x.0) o ≡ Some f
      → f ≡ record { status = 500; message = None }
  by_chosen None is e = absurd (cc)
  by_chosen (Some x) is e = sym (ap (λ (o : Option Final). option_map_or (λ (g : Final). g) o f) e)
      ∙ goes_as_500 x.1 x.0 (picked_unsent (is_unbeaten finals) finals x all is)

-- ---- branches that are first sent

-- a branch to a target, with a number from 1, that nobody gave up
record IsNew (b : Branch) : Type 0 where
  is_target : b.is_cancel ≡ false
  is_wanted : b.wants_cancel ≡ false
  is_numbered : 1 ≤ b.number

new_branches : (now place : ℕ) (targets : List Target) → 1 ≤ place → AllByRecursion IsNew (branches_from now place targets)
new_branches now place [] some = tt
new_branches now place (t ∷ ts) some = (record { is_target = refl; is_wanted = refl; is_numbered = some }, new_branches now (place + 1) ts (omega (arith, some)))

-- none of them is sent a CANCEL
none_cancelled : (bs : List Branch) → AllByRecursion IsNew bs → filter is_cancellable bs ≡ []
none_cancelled [] all = refl
none_cancelled (b ∷ bs) all = by_tests b.is_cancel b.wants_cancel all.0.is_wanted (none_cancelled bs all.1) where
  by_tests : (s t : Bool) → t ≡ false → filter is_cancellable bs ≡ [] → cond (not s && t && is_ready b.phase) (b ∷ filter is_cancellable bs) (filter is_cancellable bs)
      ≡ []
  by_tests true t e rest = rest
  by_tests false true e rest = absurd (cc)
  by_tests false false e rest = rest

-- ---- a 200 that is made here

module _ (server : Server) (a : Arrival) (m : Message) (extras : List Field) where
  -- a packet is another one
  abbrev IsNone : Packet → Type 0
  IsNone p = p ≢ answer_here server a m 200 extras

  -- of another status
  none_of_status : (status : ℕ) (fields : List Field) → IsOther status → IsNone (answer_here server a m status fields)
  none_of_status status fields other e =
      let one : Message = made_answer server a.number m a.from status fields in
      let two : Message = made_answer server a.number m a.from 200 extras in
      other.1 (one_status one two status 200 (reason_of status) (reason_of 200) other.0 (omega arith) refl refl (ap (λ (p : Packet). p.bytes) e))

  all_none : (ps qs : List Packet) → AllByRecursion IsNone ps → AllByRecursion IsNone qs → AllByRecursion IsNone (ps ++ qs)
  all_none [] qs h k = k
  all_none (p ∷ ps) qs h k = (h.0, all_none ps qs h.1 k)

  none_there : (ps : List Packet) → AllByRecursion IsNone ps → Contains ps (answer_here server a m 200 extras) → ⊥
  none_there ps all there = (All-contains IsNone ps (answer_here server a m 200 extras) (All-from_recursion IsNone ps all) there) refl

  -- ---- what a request is opened with

  -- its 100
  none_tried : (bs : List Branch) → AllByRecursion IsNone (upward_packets (forking a m bs) (trying server (forking a m bs)))
  none_tried bs = by_test (is_tried (forking a m bs)) where
    by_test : (t : Bool)
        → AllByRecursion IsNone (upward_packets (forking a m bs) (cond t (record { status = 100; message = made_answer server a.number m a.from 100 []; target = None }
        ∷ []) []))
    by_test true = (none_of_status 100 [] (omega arith, λ e. absurd (omega (arith, e))), tt)
    by_test false = tt

  -- what the request is after it
  record IsAfter (bs : List Branch) (r : OpenRequest) : Type 0 where
    has_branches : r.branches ≡ bs
    has_finals : r.finals ≡ unsent bs

  after_trying : (now : ℕ) (bs : List Branch) → IsAfter bs (tried now (trying server (forking a m bs)) (forking a m bs))
  after_trying now bs = by_test (is_tried (forking a m bs)) where
    by_test : (t : Bool) → IsAfter bs (tried now (cond t (record { status = 100; message = made_answer server a.number m a.from 100 []; target = None } ∷ []) [])
        (forking a m bs))
    by_test true = record { has_branches = refl; has_finals = refl }
    by_test false = record { has_branches = refl; has_finals = refl }

  -- the best answer, if it goes up at once
  none_upward : (r sender : OpenRequest) (bs : List Branch) → IsAfter bs r → AllByRecursion IsNone (upward_packets sender (upward_list (best_upward server r)))
  none_upward r sender bs is = by_test (is_answering r.side && all_final r) where
    of_500 : ◌≡◌ {A = ℕ} 500 200 → ⊥
    of_500 e = absurd (omega (arith, e))

    by_best : (o : Option Final) → best_of r.finals ≡ o → AllByRecursion IsNone (upward_packets sender (upward_list (option_map (upward_of server r) o)))
    by_best None e = tt
    by_best (Some f) e =
        let it = best_is_500 r.finals f (subst (AllByRecursion IsUnsent) (sym is.has_finals) (unsent_all bs)) e in
        let message : (upward_of server r f).message ≡ made_answer server r.number r.request.message r.request.source 500 [] =
        ap (λ (g : Final). option_map_or (λ (x : Message). x) g.message (made_answer server r.number r.request.message r.request.source g.status [])) it in
        let ok : Message = made_answer server a.number m a.from 200 extras in (
          (λ same. of_500 (one_status (upward_of server r f).message ok 500 200 (reason_of 500) (reason_of 200) (omega arith) (omega arith)
              (ap (λ (x : Message). x.start) message) refl
              (ap (λ (p : Packet). p.bytes) same))),
          tt,
        )

    by_test : (t : Bool) → AllByRecursion IsNone (upward_packets sender (upward_list (cond t (option_map (upward_of server r) (best_of r.finals)) None)))
    by_test true = by_best (best_of r.finals) refl
    by_test false = tt

  same_branches : (now : ℕ) (o : Option Upward) (r : OpenRequest) → (after_upward now o r).branches ≡ r.branches
  same_branches now None r = refl
  same_branches now (Some u) r = refl

  none_changed : (bs : List Branch) → AllByRecursion IsNew bs → AllByRecursion IsNone (change_packets (opening server a.now (forking a m bs)))
  none_changed bs new =
      let told : OpenRequest = tried a.now (trying server (forking a m bs)) (forking a m bs) in
      let is : IsAfter bs told = after_trying a.now bs in
      let after : OpenRequest = after_upward a.now (best_upward server told) told in
      let change : Change = opening server a.now (forking a m bs) in
      let none : filter is_cancellable after.branches ≡ [] = ap (filter is_cancellable) (same_branches a.now (best_upward server told) told ∙ is.has_branches)
      ∙ none_cancelled bs new in
      all_none (upward_packets change.request change.upward) change.cancels (none_upward told change.request bs is)
      (subst (λ (cs : List Branch). AllByRecursion IsNone (flat_map (branch_packets server false after) (map (cancel_branch a.now) cs))) (sym none) tt)

  -- the requests to its branches
  none_branch : (r : OpenRequest) (b : Branch) → IsNew b → AllByRecursion IsNone (branch_packets server false r b)
  none_branch r b new = by_address b.address where
    number_is : (t : Bool) → t ≡ false → cond t 0 b.number ≡ b.number
    number_is true e = absurd (cc)
    number_is false e = refl

    by_address : (o : Option Addr)
        → AllByRecursion IsNone
        (option_map_or (λ address. record {
          to = address;
          bytes = text_of (sent_of server r b);
          ticket = record { datagram = r.number; branch = ticket_branch b };
          again = false;
        } ∷ []) o [])
    by_address None = tt
    by_address (Some address) =
        let none : ticket_branch b ≡ 0 → ⊥ = λ e. absurd (omega (arith, e, number_is b.is_cancel new.is_target, new.is_numbered)) in
        ((λ same. none (ap (λ (p : Packet). p.ticket.branch) same)), tt)

  none_branches : (r : OpenRequest) (bs : List Branch) → AllByRecursion IsNew bs → AllByRecursion IsNone (flat_map (branch_packets server false r) bs)
  none_branches r [] new = tt
  none_branches r (b ∷ bs) new = all_none (branch_packets server false r b) (flat_map (branch_packets server false r) bs) (none_branch r b new.0)
      (none_branches r bs new.1)

  none_opened : (bs : List Branch) → AllByRecursion IsNew bs → AllByRecursion IsNone (opening_packets server a.now (forking a m bs))
  none_opened bs new =
      let r : OpenRequest = forking a m bs in
      all_none (upward_packets r (trying server r) ++ change_packets (opening server a.now r)) (flat_map (branch_packets server false r) bs)
      (all_none (upward_packets r (trying server r)) (change_packets (opening server a.now r)) (none_tried bs) (none_changed bs new)) (none_branches r bs new)

  -- ---- what an ACK that goes on begins with

  begins_with_a : (ack : Message) (uri version : List ℕ) → ack.start ≡ Request (codes "ACK") uri version → get_or (text_of ack) 0 0 ≡ 65
  begins_with_a ack uri version e =
      ap (λ (s : Start). get_or (start_text s ++ codes "\r\n" ++ flat_map field_text ack.fields ++ codes "Content-Length: " ++ decimal (length ack.body)
      ++ codes "\r\n\r\n" ++ ack.body) 0 0) e

  none_ack : (address : Addr) → IsAck m → IsNone (ack_packet server a m address)
  none_ack address is same =
      let uri : List ℕ = onward_uri server.config.own m in
      let onward : Message = onward_as server a.number m a.from uri 1 in
      let first : get_or (text_of onward) 0 0 ≡ 65 = begins_with_a onward uri is.version (ap (with_uri uri) is.is_ack) in
      let also : get_or (text_of onward) 0 0 ≡ 83 = ap (λ (p : Packet). get_or p.bytes 0 0) same in
      absurd (omega (arith, first, also))

  none_forked : (bs : List Branch) → AllByRecursion IsNew bs → Contains (opening_packets server a.now (forking a m bs)) (answer_here server a m 200 extras) → ⊥
  none_forked bs new there = none_there (opening_packets server a.now (forking a m bs)) (none_opened bs new) there

  -- ---- by the verdict

  one_there : (p : Packet) → Contains (p ∷ []) (answer_here server a m 200 extras) → IsNone p → ⊥
  one_there p there none = none_there (p ∷ []) (none, tt) there

  module _ (state : ProxyState) (short : Bool) where
    -- why there is one
    abbrev Why : List Packet → Type 0
    Why packets = IsRegistered server state a m short packets ⊎ IsCancelling server state a m packets

    challenge_other : (operation : Operation) → IsOther (challenge_status operation)
    challenge_other Operation.Register = above 401 (omega arith) (omega arith)
    challenge_other Operation.List = above 401 (omega arith) (omega arith)
    challenge_other (Operation.Send method) = above 407 (omega arith) (omega arith)

    by_verdict : (v : Verdict) → Tells server state a m short v → Contains (effect_of server a m v (counted a state)).originals (answer_here server a m 200 extras)
        → Why (effect_of server a m v (counted a state)).originals
    by_verdict Drop tells there = absurd (none_there [] tt there)
    by_verdict (Respond r b status) tells there =
        let packets : List Packet = change_packets (responded server a.now r b status m) in
        let whole = All-from_recursion (IsOf r.number) packets (responded_of r.number server a.now r b status m refl) in
        let its : a.number ≡ r.number = All-contains (IsOf r.number) packets (answer_here server a m 200 extras) whole there in
        absurd (tells (sym its))
    by_verdict (Copy r) tells there = absurd (none_there [] tt there)
    by_verdict (AckOn address id) tells there = absurd (one_there (ack_packet server a m address) there (none_ack address tells))
    by_verdict (Cancel None) tells there = absurd (one_there (answer_here server a m 481 []) there (none_of_status 481 [] (above 481 (omega arith) (omega arith))))
    by_verdict (Cancel (Some r)) tells there =
        inr (record {
          uri = tells.uri;
          version = tells.version;
          key = tells.key;
          request = r;
          others = change_packets (cancelled server a.now r);
          is_cancel = tells.is_cancel;
          key_is = tells.key_is;
          names = tells.names;
          is_first = refl;
        })
    by_verdict (Answer status fields) tells there = absurd (one_there (answer_here server a m status fields) there (none_of_status status fields tells))
    by_verdict (InDialog address id) tells there =
        absurd (none_forked (dialog_branch server a.now m address ∷ []) (record { is_target = refl; is_wanted = refl; is_numbered = omega arith }, tt) there)
    by_verdict (Challenge q) tells there =
        let status : ℕ = challenge_status q.operation in
        absurd (one_there (answer_here server a m status (challenges_to server a q)) there
        (none_of_status status (challenges_to server a q) (challenge_other q.operation)))
    by_verdict (Deny q id) tells there = absurd (one_there (answer_here server a m 403 _) there (none_of_status 403 _ (above 403 (omega arith) (omega arith))))
    by_verdict (Send q id Targets.NotFound) tells there = absurd (one_there (answer_here server a m 404 []) there
        (none_of_status 404 [] (above 404 (omega arith) (omega arith))))
    by_verdict (Send q id Targets.Unavailable) tells there = absurd (one_there (answer_here server a m 480 []) there
        (none_of_status 480 [] (above 480 (omega arith) (omega arith))))
    by_verdict (Send q id (Targets.Bindings targets)) tells there =
        absurd (none_forked (branches_from a.now 1 targets) (new_branches a.now 1 targets (omega arith)) there)
    by_verdict (Send q id (Targets.Hop uri address)) tells there =
        let targets : List Target = record { uri = uri; address = Some address } ∷ [] in
        absurd (none_forked (branches_from a.now 1 targets) (new_branches a.now 1 targets (omega arith)) there)
    by_verdict (Register q id (Bound rows)) tells there =
        inl (record {
          uri = tells.uri;
          version = tells.version;
          core = tells.core;
          id = tells.id;
          rows = rows;
          fields = contact_fields a.now q.target rows;
          is_register = tells.is_register;
          is_valid = tells.is_valid;
          core_is = tells.core_is;
          is_let_through = tells.is_let_through;
          binds = tells.binds;
          lists = subst (λ aor. ListsInOrder a.now aor rows (contact_fields a.now q.target rows)) tells.target (listed_in_order a.now q.target rows);
          is_alone = refl;
        })
    by_verdict (Register q id (Refused status fields)) tells there = absurd (one_there (answer_here server a m status fields) there (none_of_status status fields tells))

-- ---- a step

-- no open request has the number of the next datagram
next_is_new : (state : ProxyState) (r : OpenRequest) → AreNumbered state.next state.requests → Contains state.requests r → r.number ≢ state.next
next_is_new state r numbered there e =
    let one = is_counted (is_numbered state.next) state.requests r there ((Decides-eqb r.number state.next).1 e) in
    absurd (omega (arith, one, numbered.are_below state.next (omega arith)))

-- what a step's datagram does, where it says a message
effect_is : (server : Server) (state : ProxyState) (a : Arrival) (bytes : List ℕ) (m : Message) (short : Bool) → message_in (reading_of bytes) ≡ Some (m, short)
    → (datagram_effect server state a bytes).originals ≡ (effect_of server a m (message_verdict server state a m short) (counted a state)).originals
effect_is server state a bytes m short says =
    ap (λ (o : Option (Message × Bool)). (option_map_or (λ x. effect_of server a x.0 x.1 (counted a state)) (verdict_in server state a o)
    (nothing (counted a state))).originals) says

by_datagram : (server : Server) (old new : ProxyState) (out : StepOut) (at word : ℕ) (from : Addr) (bytes : List ℕ) (m : Message) (short : Bool) (extras : List Field)
    → AreNumbered old.next old.requests → IsStep server old (Given (Datagram at word from bytes)) out new → message_in (reading_of bytes) ≡ Some (m, short)
    → Contains (originals out.packets) (answer_here server (arrival_of old at word from) m 200 extras)
    → IsRegistered server old (arrival_of old at word from) m short (originals out.packets)
    ⊎ IsCancelling server old (arrival_of old at word from) m (originals out.packets)
by_datagram server old new out at word from bytes m short extras numbered step says there =
    let a : Arrival = arrival_of old at word from in
    let sends = step.does.sends ∙ effect_is server old a bytes m short says in
    subst (λ (packets : List Packet). IsRegistered server old a m short packets ⊎ IsCancelling server old a m packets) (sym sends)
    (by_verdict server a m extras old short (message_verdict server old a m short) (verdict_tells server old a m short (λ r there. next_is_new old r numbered there))
    (subst (λ (packets : List Packet). Contains packets (answer_here server a m 200 extras)) sends there))

pub granted : ((server : Server) (first : ℕ) (history : List Link) (last : ProxyState) → IsChain server (first_state first) history last
    → AreNumbered last.next last.requests)
    → (server : Server) (first : ℕ) (link : Link) (history : List Link) (last : ProxyState) → IsChain server (first_state first) (link ∷ history) last
    → (a : Arrival) (bytes : List ℕ) (m : Message) (short : Bool) (extras : List Field) → IsSaidAt link.before link.act a bytes m short
    → Contains (originals link.out.packets) (answer_here server a m 200 extras)
    → IsRegistered (under server link.config) link.before a m short (originals link.out.packets)
    ⊎ IsCancelling (under server link.config) link.before a m (originals link.out.packets)
granted numbers server first link history last chain a bytes m short extras said there =
    let step = subst (λ (act : Act). IsStep (under server link.config) link.before act link.out link.after) said.is_act chain.1 in
    subst (λ (b : Arrival). IsRegistered (under server link.config) link.before b m short (originals link.out.packets)
    ⊎ IsCancelling (under server link.config) link.before b m (originals link.out.packets)) (sym said.is_arrival)
    (by_datagram (under server link.config) link.before link.after link.out said.at said.word said.from bytes m short extras
    (numbers server first history link.before chain.2) step said.says
    (subst (λ (b : Arrival). Contains (originals link.out.packets) (answer_here server b m 200 extras)) said.is_arrival there))
