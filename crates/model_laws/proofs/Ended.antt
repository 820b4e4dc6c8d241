-- A dialog of which a BYE was accepted isn't known any more, unless it was told anew.
use Rattle.std.proofs.Common.{◌≡◌, ◌⊎◌, ◌∙◌, inl, inr, ℕ, ◌-◌, ◌<◌, Bool, true, false, not, ◌&&◌, ◌||◌, cond, List, [], ◌∷◌, ◌++◌, filter, codes, bytes_eq, Contains}
use Rattle.std.proofs.Common.{Option, Some, None, option_and_then, refl, sym, ap, subst, arith}
use Rattle.std.specs.Prelude.{nat_le, option_map, Result}
use Rattle.std.specs.Option.{option_map_or, unwrap_or}
use Rattle.std.specs.Result.{result_ok}
use Rattle.std.specs.List.{AllByRecursion}
use Rattle.std.proofs.lemmas.Bool.Decides.{nat_tests}
use Rattle.std.proofs.lemmas.List.Elements.{Contains-append_left}
use Rattle.std.proofs.lemmas.Slice.Eq.{bytes_eq-Decides}
use Rattle.sip_message_fields.specs.declared.field_name.FieldName.TheVariants as Name
use Rattle.sip_message_fields.specs.Values.{values_of}
use Rattle.sip_message_form.specs.declared.message.Start.{Start}
use Rattle.sip_message_form.specs.declared.message.Start.TheVariants.{Status}
use Rattle.sip_message_form.specs.declared.message.Message.{Message}
use Rattle.sip_header.specs.declared.core_fields.CoreFields.{CoreFields}
use Rattle.sip_header.specs.declared.error.HeaderError.{HeaderError}
use Rattle.sip_header.specs.Parameters.{tag_of}
use Rattle.sip_best.specs.declared.final_answer.Final.{Final}
use Rattle.sip_dialog.specs.declared.dialog.DialogId.{DialogId}
use Rattle.sip_dialog.specs.declared.dialog.Dialog.{Dialog}
use Rattle.sip_dialog.specs.DialogId.{is_same_dialog, id_of}
use Rattle.sip_dialog.specs.Dialogs.{is_known, known, is_named, told, taught, without_dialog, is_unconfirmed, after_invite}
use Rattle.sip_dialog.specs.Sameness.{SameDialogs}
use Rattle.sip_event.specs.declared.event.StepOut.{StepOut}
use Rattle.sip_model.specs.state.declared.server.Server.{Server}
use Rattle.sip_model.specs.state.declared.resend.Resend.{Resend}
use Rattle.sip_model.specs.state.declared.branch.Branch.{Branch}
use Rattle.sip_model.specs.state.declared.open_request.Side.{Side}
use Rattle.sip_model.specs.state.declared.open_request.OpenRequest.{OpenRequest}
use Rattle.sip_model.specs.state.declared.open_request.Upward.{Upward}
use Rattle.sip_model.specs.state.declared.proxy_state.ProxyState.{ProxyState}
use Rattle.sip_model.specs.state.State.{first_state, is_invite, is_answering, is_final, is_success, has_left}
use Rattle.sip_model.specs.state.Dialogs.{dialog_of, addresses_of, after_answer_within, after_answer_of, after_answer, after_answers, after_leaving}
use Rattle.sip_model.specs.state.Arrival.{Arrival}
use Rattle.sip_model.specs.context_model.Branches.{Change, with_phase, best_upward, after_upward, upward_list, settled, heard, relayed_from, relayed_provisional}
use Rattle.sip_model.specs.context_model.Branches.{is_accepted, relayed_success, with_answer, acks_of, further, target_responded, cancel_responded, responded}
use Rattle.sip_model.specs.verdict_model.Verdict.{Verdict, Drop, Respond, is_many, response_verdict, responding, by_start, message_verdict, verdict_in, verdict_of}
use Rattle.sip_model.specs.steps_model.Effect.{dialogs_after}
use Rattle.sip_model.specs.steps_model.Step.{Act, IsStep, arrival_of}
use Rattle.sip_model.specs.Run.{Link, under, IsChain}
use Rattle.sip_model.specs.Histories.{verdict_dialogs, step_dialogs, history_dialogs}
use Rattle.sip_model.specs.Parts.{HasParts}
use Rattle.model_laws.specs.Dialogs.{IsNamed, Names, EndsDialog, WasToldAnew}
use Rattle.sip_model.proofs.Places.{in_from_contains, all_weaker}
use Rattle.model_laws.proofs.Changes.{KeepNumbers, Tells, responded_kept}
use Rattle.model_laws.proofs.Requests.{later_there, sent_now}
use Rattle.model_laws.proofs.Edits.{IsClosed}
use Rattle.model_laws.proofs.Dialogs.{step_told}
use Rattle.model_laws.proofs.Same.{and_holds, known_in_both}
use Rattle.model_laws.proofs.Under.{begins_under, link_under}
use Rattle.model_laws.proofs.Told.{later_begins, later_link, chain_here, taken_now}
use Rattle.sip_model.proofs.Lists.{all_every, all_filter, all_map}
use Rattle.sip_model.proofs.Sendings.{success_final}

-- ---- names

-- the dialog that a request names, as it names it
abbrev id_in : CoreFields → List ℕ → DialogId
id_in core tag = record { call_id = core.call_id; from_tag = unwrap_or (tag_of core.from.parameters) []; to_tag = tag }

-- a request that names a dialog is read so
names_read : (m : Message) (id : DialogId) (h : Names m id) → dialog_of m ≡ Some (id_in h.core h.tag)
names_read m id h =
    ap (λ (read : Result CoreFields HeaderError). option_and_then (λ core. id_of core) (result_ok read)) h.core_is
    ∙ ap (λ (o : Option (List ℕ)). option_map (λ tag. id_in h.core tag) o) h.to_tag_is

-- texts that are one pass the test
text_same : (x y : List ℕ) → x ≡ y → bytes_eq x y ≡ true
text_same x y e = (bytes_eq-Decides x y).1 e

-- one of two tests passes
or_first : (x y : Bool) → x ≡ true → (x || y) ≡ true
or_first true y e = refl
or_first false y e = absurd (cc)

-- or the other
or_second : (x y : Bool) → y ≡ true → (x || y) ≡ true
or_second true y e = refl
or_second false y e = e

-- a dialog that has the name is the same
pub same_name : (d id : DialogId) → IsNamed d id.call_id id.from_tag id.to_tag → is_same_dialog d id ≡ true
same_name d id named = and_holds _ _ (text_same d.call_id id.call_id named.0) (by_order named.1) where
  straight : Bool
  straight = bytes_eq d.from_tag id.from_tag && bytes_eq d.to_tag id.to_tag

  crossed : Bool
  crossed = bytes_eq d.from_tag id.to_tag && bytes_eq d.to_tag id.from_tag

  by_order : ((d.from_tag ≡ id.from_tag) × (d.to_tag ≡ id.to_tag)) ⊎ ((d.from_tag ≡ id.to_tag) × (d.to_tag ≡ id.from_tag)) → (straight || crossed) ≡ true
  by_order (inl tags) = or_first straight crossed (and_holds _ _ (text_same d.from_tag id.from_tag tags.0) (text_same d.to_tag id.to_tag tags.1))
  by_order (inr tags) = or_second straight crossed (and_holds _ _ (text_same d.from_tag id.to_tag tags.0) (text_same d.to_tag id.from_tag tags.1))

-- ---- no dialog of a name

-- a dialog hasn't this name
abbrev HasOther : DialogId → Dialog → Type 0
HasOther id d = is_named id d ≡ false

-- those that are left without it
without_other : (now : ℕ) (id : DialogId) (dialogs : List Dialog) → AllByRecursion (HasOther id) (without_dialog now id dialogs)
without_other now id dialogs = each (known now dialogs) where
  by_test : (x : Dialog) (rest : List Dialog) → AllByRecursion (HasOther id) rest → (t : Bool) → is_named id x ≡ t
      → AllByRecursion (HasOther id) (cond (not t) (x ∷ rest) rest)
  by_test x rest h true is = h
  by_test x rest h false is = (is, h)

  each : (ds : List Dialog) → AllByRecursion (HasOther id) (filter (λ d. not (is_named id d)) ds)
  each [] = tt
  each (x ∷ xs) = by_test x (filter (λ d. not (is_named id d)) xs) (each xs) (is_named id x) refl

module _ (server : Server) (now : ℕ) (r : OpenRequest) (id : DialogId) (is : dialog_of r.request.message ≡ Some id) where
  -- where none has the name none has it after further answers to its request
  within_other : (u : Upward) (dialogs : List Dialog) → AllByRecursion (HasOther id) dialogs
      → AllByRecursion (HasOther id) (after_answer_within server now r u id dialogs)
  within_other u dialogs h = by_test (bytes_eq r.key.method (codes "BYE") && is_success u.status) where
    kept : (d : Dialog) → HasOther id d → (t : Bool) → HasOther id (cond t (told (addresses_of server u.message) d) d)
    kept d own true = own
    kept d own false = own

    by_test : (t : Bool) → AllByRecursion (HasOther id) (cond t (without_dialog now id dialogs) (taught now id (addresses_of server u.message) dialogs))
    by_test true = without_other now id dialogs
    by_test false =
        all_map (HasOther id) (λ d. cond (is_named id d) (told (addresses_of server u.message) d) d) (known now dialogs)
        (all_weaker (HasOther id) (λ d. HasOther id (cond (is_named id d) (told (addresses_of server u.message) d) d)) (known now dialogs)
        (λ d own. kept d own (is_named id d))
        (all_filter (HasOther id) (is_known now) dialogs h))

  -- after one
  answer_other : (u : Upward) (dialogs : List Dialog) → AllByRecursion (HasOther id) dialogs → AllByRecursion (HasOther id) (after_answer server now r u dialogs)
  answer_other u dialogs h = by_test (nat_le u.status 100) where
    by_test : (t : Bool) → AllByRecursion (HasOther id) (cond t dialogs (after_answer_of server now r u (dialog_of r.request.message) dialogs))
    by_test true = h
    by_test false = subst (λ (o : Option DialogId). AllByRecursion (HasOther id) (after_answer_of server now r u o dialogs)) (sym is) (within_other u dialogs h)

  -- after several
  answers_other : (us : List Upward) (dialogs : List Dialog) → AllByRecursion (HasOther id) dialogs → AllByRecursion (HasOther id) (after_answers server now r us dialogs)
  answers_other [] dialogs h = h
  answers_other (u ∷ us) dialogs h = answers_other us (after_answer server now r u dialogs) (answer_other u dialogs h)

  -- after it left
  leaving_other : (dialogs : List Dialog) → AllByRecursion (HasOther id) dialogs → AllByRecursion (HasOther id) (after_leaving now r dialogs)
  leaving_other dialogs h = by_test (is_invite r && has_left r) where
    by_test : (t : Bool) → AllByRecursion (HasOther id) (cond t (after_invite now r.number dialogs) dialogs)
    by_test true = all_filter (HasOther id) (λ d. not (is_unconfirmed r.number d)) (known now dialogs) (all_filter (HasOther id) (is_known now) dialogs h)
    by_test false = h

  -- a 2xx to a BYE leaves none
  bye_other : (u : Upward) (dialogs : List Dialog) → nat_le u.status 100 ≡ false → is_success u.status ≡ true → bytes_eq r.key.method (codes "BYE") ≡ true
      → AllByRecursion (HasOther id) (after_answer server now r u dialogs)
  bye_other u dialogs above success bye =
      let ends : (bytes_eq r.key.method (codes "BYE") && is_success u.status) ≡ true = and_holds _ _ bye success in
      subst (λ (t : Bool). AllByRecursion (HasOther id) (cond t dialogs (after_answer_of server now r u (dialog_of r.request.message) dialogs))) (sym above)
      (subst (λ (o : Option DialogId). AllByRecursion (HasOther id) (after_answer_of server now r u o dialogs)) (sym is)
      (subst (λ (t : Bool). AllByRecursion (HasOther id) (cond t (without_dialog now id dialogs) (taught now id (addresses_of server u.message) dialogs))) (sym ends)
      (without_other now id dialogs)))

-- ---- the step

-- a request stays that message, with that key
record IsStill (r s : OpenRequest) : Type 0 where
  request : s.request.message ≡ r.request.message
  method : s.key.method ≡ r.key.method

-- it does
still_kept : (r s : OpenRequest) (side : Side) (again : Resend) (finals : List Final) (branches : List Branch) → KeepNumbers s.branches branches → IsStill r s
    → IsStill r (record s { side = side; again = again; finals = finals; branches = branches })
still_kept r s side again finals branches numbers h = record { request = h.request; method = h.method }

-- a 2xx is above 100
success_above : (status : ℕ) → is_success status ≡ true → nat_le status 100 ≡ false
success_above status e = grind (arith, nat_tests)

-- the change that a first 2xx to a request makes
first_success : (server : Server) (now : ℕ) (r : OpenRequest) (b : Branch) (status : ℕ) (m : Message)
    → is_success status ≡ true → b.is_cancel ≡ false → is_final b.phase ≡ false
    → is_answering r.side ≡ true
    → responded server now r b status m ≡ settled server now (acks_of server r b status m) (Some (relayed_from b status m)) (with_answer r b now status m)
first_success server now r b status m success target first waits =
    let goes : (is_success status && (is_answering r.side || is_accepted r)) ≡ true = and_holds _ _ success (or_first (is_answering r.side) (is_accepted r) waits) in
    ap (λ (t : Bool). cond t (cancel_responded server now r b status m) (target_responded server now r b status m)) target
    ∙ ap (λ (t : Bool). cond t (settled server now [] (relayed_provisional r b status m) (with_phase b (heard r now status b.phase) r))
    (cond (is_final b.phase) (settled server now [] (further r b b.phase status m) r)
    (settled server now (acks_of server r b status m) (relayed_success r b status m) (with_answer r b now status m)))) (success_final status success)
    ∙ ap (λ (t : Bool). cond t (settled server now [] (further r b b.phase status m) r)
    (settled server now (acks_of server r b status m) (relayed_success r b status m) (with_answer r b now status m))) first
    ∙ ap (λ (t : Bool). settled server now (acks_of server r b status m) (cond t (Some (relayed_from b status m)) None) (with_answer r b now status m)) goes

-- it leaves no dialog of the BYE's name
success_other : (server : Server) (now : ℕ) (r : OpenRequest) (b : Branch) (status : ℕ) (m : Message) (id : DialogId) (dialogs : List Dialog) → is_success status ≡ true
    → b.is_cancel ≡ false → is_final b.phase ≡ false
    → is_answering r.side ≡ true → bytes_eq r.key.method (codes "BYE") ≡ true → dialog_of r.request.message ≡ Some id
    → AllByRecursion (HasOther id) (dialogs_after server now (responded server now r b status m) dialogs)
success_other server now r b status m id dialogs success target first waits bye names =
    subst (λ (c : Change). IsStill r c.request → AllByRecursion (HasOther id) (dialogs_after server now c dialogs))
    (sym (first_success server now r b status m success target first waits)) settled_other
    (responded_kept (IsStill r) (still_kept r) server now r b status m (record { request = refl; method = refl })
    (all_every (Tells (IsStill r) (still_kept r) now) (λ u s h. record { request = h.request; method = h.method }) (responded server now r b status m).upward)) where
      change : Change
      change = settled server now (acks_of server r b status m) (Some (relayed_from b status m)) (with_answer r b now status m)

      settled_other : IsStill r change.request → AllByRecursion (HasOther id) (dialogs_after server now change dialogs)
      settled_other still =
          let is : dialog_of change.request.request.message ≡ Some id = ap dialog_of still.request ∙ names in
          let method : bytes_eq change.request.key.method (codes "BYE") ≡ true = ap (λ (v : List ℕ). bytes_eq v (codes "BYE")) still.method ∙ bye in
          let u : Upward = relayed_from b status m in
          let others : List Upward = upward_list (best_upward server (after_upward now (Some u) (with_answer r b now status m))) in
          let told_first : List Dialog = after_answer server now change.request u dialogs in
          leaving_other server now change.request id is (after_answers server now change.request others told_first)
          (answers_other server now change.request id is others told_first (bye_other server now change.request id is (relayed_from b status m) dialogs
          (success_above status success) success method))

-- the verdict on it
verdict_responds : (server : Server) (old : ProxyState) (a : Arrival) (m : Message) (status : ℕ) (reason : List ℕ) (r : OpenRequest) (b : Branch)
    → m.start ≡ Status status reason
    → responding server old.requests m.fields ≡ Some (r, b) → is_many (values_of Name.Via m.fields) ≡ true → message_verdict server old a m false ≡ Respond r b status
verdict_responds server old a m status reason r b start found many =
    ap (λ (x : Start). by_start server old a m false x) start ∙ ap (λ (o : Option (OpenRequest × Branch)). response_verdict m.fields status o) found
    ∙ ap (λ (t : Bool). cond t (Respond r b status) Drop) (or_second b.is_cancel (is_many (values_of Name.Via m.fields)) many)

-- the step that ends a dialog leaves none of its name
step_other : (server : Server) (link : Link) (id : DialogId) (h : EndsDialog server link id)
    (step : IsStep (under server link.config) link.before link.act link.out link.after) (dialogs : List Dialog)
    → AllByRecursion (HasOther (id_in h.names.core h.names.tag)) (step_dialogs (under server link.config) link.before link.act link.out link.after step dialogs)
step_other server link id h step dialogs =
    subst (λ (act : Act). (s : IsStep by link.before act link.out link.after) → AllByRecursion (HasOther (id_in h.names.core h.names.tag))
    (step_dialogs by link.before act link.out link.after s dialogs))
    (sym h.is_said.is_act) (λ s. of_datagram) step where
      by : Server
      by = under server link.config

      a : Arrival
      a = arrival_of link.before h.is_said.at h.is_said.word h.is_said.from

      verdict : verdict_of by link.before a h.bytes ≡ Some (h.response, Respond h.request h.branch h.status)
      verdict =
          ap (verdict_in by link.before a) h.is_said.says
          ∙ ap (λ (v : Verdict). Some (h.response, v)) (verdict_responds by link.before a h.response h.status h.reason h.request h.branch h.is_response h.is_for
          h.goes_on)

      of_datagram : AllByRecursion (HasOther (id_in h.names.core h.names.tag)) (option_map_or (λ x. verdict_dialogs by a x.0 x.1 dialogs)
          (verdict_of by link.before a h.bytes) dialogs)
      of_datagram =
          subst (λ (o : Option (Message × Verdict)). AllByRecursion (HasOther (id_in h.names.core h.names.tag))
          (option_map_or (λ x. verdict_dialogs by a x.0 x.1 dialogs) o dialogs)) (sym verdict)
          (success_other by a.now h.request h.branch h.status h.response (id_in h.names.core h.names.tag) dialogs h.is_accepting h.is_target h.is_first h.is_waiting
          h.is_bye (names_read h.request.request.message id h.names))

-- ---- every history

-- a dialog of this name was told anew
abbrev ToldAnewIf : Server → List Link → List Link → DialogId → Dialog → Type 0
ToldAnewIf server newer history id d = is_same_dialog d.id id ≡ true → WasToldAnew server newer history d.id

-- that is kept by what a step tells
anew_closed : (server : Server) (link : Link) (newer history : List Link) (id : DialogId)
    → IsClosed (under server link.config) history link (ToldAnewIf server (link ∷ newer) history id)
anew_closed server link newer history id = record {
  on_taught = λ name addresses d same own was. was;
  on_renewed = λ now name addresses d same own had was. was;
  on_begun = λ answer update same.
      record {
        a = update.a;
        invite = update.invite;
        status = update.status;
        response = update.response;
        begins = begins_under (under server link.config) server.config history answer.id update.a update.invite update.status update.response update.begins;
        is_newer =
            subst (λ (l : Link). Contains (link ∷ newer) l)
            (sym (link_under (under server link.config) server.config history answer.id update.a update.invite update.status update.response update.begins
            ∙ update.is_now)) (Contains-append_left (link ∷ []) newer link (0, omega arith, refl));
      };
  on_again = λ answer d update same was. was;
}

-- and holds in longer histories
later_anew : (server : Server) (link : Link) (newer history : List Link) (id : DialogId)
    → WasToldAnew server newer history id → WasToldAnew server (link ∷ newer) (link ∷ history) id
later_anew server link newer history id h = record {
  a = h.a;
  invite = h.invite;
  status = h.status;
  response = h.response;
  begins = later_begins server link history id h.a h.invite h.status h.response h.begins;
  is_newer = subst (λ (l : Link). Contains (link ∷ newer) l) (sym (later_link server link history id h.a h.invite h.status h.response h.begins))
      (later_there link newer h.begins.came_for.link h.is_newer);
}

-- a truth is no falsehood
contrary : (t : Bool) → t ≡ false → t ≡ true → ⊥
contrary true e f = absurd (cc)
contrary false e f = absurd (cc)

module _ (parts : (server : Server) (old : ProxyState) (act : Act) (out : StepOut) (new : ProxyState) → IsStep server old act out new
    → HasParts server old act out new) where
  -- all dialogs of the name were told anew since
  chain_anew : (server : Server) (first : ℕ) (newer : List Link) (link : Link) (older : List Link) (last : ProxyState)
      (h : IsChain server (first_state first) (newer ++ link ∷ older) last) (id : DialogId)
      (ends : EndsDialog server link id)
      → AllByRecursion (ToldAnewIf server newer (newer ++ link ∷ older) (id_in ends.names.core ends.names.tag))
      (history_dialogs server (first_state first) (newer ++ link ∷ older) last h)
  chain_anew server first [] link older last h id ends =
      all_weaker (HasOther (id_in ends.names.core ends.names.tag)) (ToldAnewIf server [] (link ∷ older) (id_in ends.names.core ends.names.tag))
      (step_dialogs (under server link.config) link.before link.act link.out link.after h.1 (history_dialogs server (first_state first) older link.before h.2))
      (λ d other same. absurd (contrary _ other same))
      (step_other server link id ends h.1 (history_dialogs server (first_state first) older link.before h.2))
  chain_anew server first (newest ∷ newer) link older last h id ends =
      step_told (under server newest.config) (newest ∷ newer ++ link ∷ older) newest (ToldAnewIf server (newest ∷ newer) (newest ∷ newer ++ link ∷ older)
      (id_in ends.names.core ends.names.tag))
      (anew_closed server newest newer (newest ∷ newer ++ link ∷ older) (id_in ends.names.core ends.names.tag)) (taken_now server newest (newer ++ link ∷ older))
      newest.before newest.act newest.out newest.after h.1
      (history_dialogs server (first_state first) (newer ++ link ∷ older) newest.before h.2) (chain_here parts server first newest (newer ++ link ∷ older) h.2)
      (sent_now newest [])
      (all_weaker (ToldAnewIf server newer (newer ++ link ∷ older) (id_in ends.names.core ends.names.tag))
      (ToldAnewIf server (newest ∷ newer) (newest ∷ newer ++ link ∷ older) (id_in ends.names.core ends.names.tag))
      (history_dialogs server (first_state first) (newer ++ link ∷ older) newest.before h.2)
      (λ d was same. later_anew server newest newer (newer ++ link ∷ older) d.id (was same))
      (chain_anew server first newer link older newest.before h.2 id ends))

  -- each known one was
  pub ended_anew : ((server : Server) (first : ℕ) (history : List Link) (last : ProxyState) (h : IsChain server (first_state first) history last)
      → SameDialogs last.moment last.dialogs (history_dialogs server (first_state first) history last h))
      → (server : Server) (first : ℕ) (newer : List Link) (link : Link) (older : List Link) (last : ProxyState)
      → IsChain server (first_state first) (newer ++ link ∷ older) last
      → (d : Dialog) → Contains last.dialogs d
      → last.moment - d.since < 43200000 → EndsDialog server link d.id → WasToldAnew server newer (newer ++ link ∷ older) d.id
  ended_anew taught server first newer link older last h d there recent ends =
      let id : DialogId = id_in ends.names.core ends.names.tag in
      known_in_both (ToldAnewIf server newer (newer ++ link ∷ older) id) last.moment last.dialogs
      (history_dialogs server (first_state first) (newer ++ link ∷ older) last h)
      (taught server first (newer ++ link ∷ older) last h) (chain_anew server first newer link older last h d.id ends) d (in_from_contains last.dialogs d there) recent
      (same_name d.id id ends.names.name_is)
