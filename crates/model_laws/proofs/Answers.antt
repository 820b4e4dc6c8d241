-- What the answers that go to the caller of a request, and the requests of a dialog that are sent on, make of the known dialogs.
use Rattle.std.proofs.Common.{◌≡◌, ◌∙◌, ℕ, ◌≤◌, ◌<◌, Bool, true, false, ◌&&◌, cond, List, [], ◌∷◌, ◌++◌, codes, bytes_eq, Option, Some, None, option_and_then, refl, sym}
use Rattle.std.proofs.Common.{ap, subst, arith}
use Rattle.std.specs.Prelude.{nat_le}
use Rattle.std.specs.Option.{option_map_or, option_to_list}
use Rattle.std.specs.List.{AllByRecursion}
use Rattle.std.proofs.lemmas.Bool.Decides.{nat_tests}
use Rattle.sip_message_fields.specs.declared.field.Field.{Field}
use Rattle.sip_message_fields.specs.declared.field_name.FieldName.TheVariants as Name
use Rattle.sip_message_fields.specs.Values.{first_value}
use Rattle.sip_message_form.specs.declared.message.Start.{Start}
use Rattle.sip_message_form.specs.declared.message.Start.TheVariants.{Request, Status}
use Rattle.sip_message_form.specs.declared.message.Message.{Message}
use Rattle.sip_message_form.specs.Text.{text_of}
use Rattle.sip_uri.specs.declared.addr.Addr.{Addr}
use Rattle.sip_header.specs.declared.via.Via.{Via}
use Rattle.sip_header.specs.Parameters.{branch_of}
use Rattle.sip_header.specs.Via.{via_of}
use Rattle.sip_transaction_table.specs.declared.key.TransactionKey.{TransactionKey}
use Rattle.sip_transaction_table.specs.Key.{has_cookie, key_from, via_key, start_key, key_of}
use Rattle.sip_edit.specs.OwnVia.{without_top_via}
use Rattle.sip_dialog.specs.declared.dialog.DialogId.{DialogId}
use Rattle.sip_dialog.specs.declared.dialog.Dialog.{Dialog}
use Rattle.sip_dialog.specs.Dialogs.{learnt, taught, without_dialog, after_invite}
use Rattle.sip_model.specs.state.declared.server.Server.{Server}
use Rattle.sip_model.specs.state.declared.open_request.OpenRequest.{OpenRequest}
use Rattle.sip_model.specs.state.declared.open_request.Upward.{Upward}
use Rattle.sip_model.specs.state.State.{is_invite, is_success, has_left}
use Rattle.sip_model.specs.state.Dialogs.{dialog_of, addresses_of, after_request, after_answer_within, invite_answer, after_invite_answer, answered_dialog}
use Rattle.sip_model.specs.state.Dialogs.{after_first_answer, after_answer_of, after_answer, after_answers, after_leaving}
use Rattle.sip_model.specs.state.Arrival.{Arrival}
use Rattle.sip_model.specs.context_model.Branches.{Change}
use Rattle.sip_model.specs.steps_model.Effect.{method_of, dialogs_after}
use Rattle.sip_model.specs.Access.{CameFor}
use Rattle.sip_model.specs.Run.{Link}
use Rattle.model_laws.specs.Requests.{IsBrought, WentToCaller, HasCome}
use Rattle.model_laws.specs.Dialogs.{Names, NamesFor, Begins, WasSentOn, Invite, AnswerToInvite, AnswerWithin, Within, IsAddressOf, OfCaller, OfBranch, Later}
use Rattle.model_laws.proofs.Requests.{sent_in, went_in}
use Rattle.model_laws.proofs.Telling.{dialog_names, answer_names, names_alike, IsTakenIn, addresses_told, IsUpdate}
use Rattle.model_laws.proofs.Edits.{IsClosed, taught_kept, renewed_kept, learnt_kept, without_kept, after_invite_kept}
use Rattle.sip_model.proofs.Lists.{all_append}

-- ---- the method of a request

-- a key has the method of its request, which is no ACK
key_has_method : (fields : List Field) (start : Start) (key : TransactionKey) → start_key fields start ≡ Some key → bytes_eq (method_of start) (codes "ACK") ≡ false
    → key.method ≡ method_of start
key_has_method fields (Status code reason) key e other = absurd (cc)
key_has_method fields (Request method uri version) key e other = by_value (first_value Name.Via fields) e where
  by_ack : (t : Bool) → t ≡ false → cond t (codes "INVITE") method ≡ method
  by_ack true is = absurd (cc)
  by_ack false is = refl

  by_cookie : (k : TransactionKey) → k.method ≡ cond (bytes_eq method (codes "ACK")) (codes "INVITE") method → (t : Bool) → cond t (Some k) None ≡ Some key
      → key.method ≡ method
  by_cookie k is true f = let same : k ≡ key = cc in ap (λ (x : TransactionKey). x.method) (sym same) ∙ is ∙ by_ack (bytes_eq method (codes "ACK")) other
  by_cookie k is false f = absurd (cc)

  by_branch : (via : Via) (o : Option (List ℕ)) → option_and_then (key_from method via) o ≡ Some key → key.method ≡ method
  by_branch via None f = absurd (cc)
  by_branch via (Some branch) f = by_cookie _ refl (has_cookie branch) f

  by_via : (o : Option Via) → option_and_then (via_key method) o ≡ Some key → key.method ≡ method
  by_via None f = absurd (cc)
  by_via (Some via) f = by_branch via (branch_of via.parameters) f

  by_value : (o : Option (List ℕ)) → option_and_then (λ value. option_and_then (via_key method) (via_of value)) o ≡ Some key → key.method ≡ method
  by_value None f = absurd (cc)
  by_value (Some value) f = by_via (via_of value) f

-- ---- tests on statuses

-- above 100
above_100 : (status : ℕ) → nat_le status 100 ≡ false → 100 < status
above_100 status e = grind (arith, nat_tests)

-- below 300
below_300 : (status : ℕ) → nat_le status 299 ≡ true → status < 300
below_300 status e = grind (arith, nat_tests)

-- a 2xx
from_200 : (status : ℕ) → is_success status ≡ true → 200 ≤ status
from_200 status e = grind (arith, nat_tests)

-- ---- requests that came

module _ (server : Server) (history : List Link) where
  -- a request came, whatever was sent of it
  pub record Came (r : OpenRequest) : Type 0 where
    pub a : Arrival
    pub is_brought : IsBrought history a r.request.message
    pub is_no_ack : bytes_eq (method_of r.request.message.start) (codes "ACK") ≡ false
    pub is_key : key_of r.request.message ≡ Some r.key
    pub is_number : r.number ≡ a.number
    pub is_source : r.request.source ≡ a.from
    pub is_arrival : r.arrived_at ≡ a.now

  -- an open one did
  pub came_of : (r : OpenRequest) → HasCome history r → Came r
  came_of r h = record {
    a = h.a;
    is_brought = h.is_brought;
    is_no_ack = h.is_no_ack;
    is_key = h.is_key;
    is_number = h.is_number;
    is_source = h.is_source;
    is_arrival = h.is_arrival;
  }

module _ (server : Server) (history : List Link) (link : Link) where
  -- an answer of 101 to 299 is one that came for a branch, in a step
  pub record IsRelayed (number : ℕ) (u : Upward) : Type 0 where
    pub response : Message
    pub came : CameFor server history number u.status response
    pub is_now : came.link ≡ link
    pub is_message : u.message ≡ without_top_via response
    pub is_target : u.target ≡ came.branch.address

  -- an answer of such a status is
  abbrev pub MayBegin : ℕ → Upward → Type 0
  MayBegin number u = nat_le u.status 299 ≡ true → nat_le u.status 100 ≡ false → IsRelayed number u

  -- an answer went to the caller of a request
  pub record IsUp (r : OpenRequest) (u : Upward) : Type 0 where
    pub went : WentToCaller (link ∷ []) r.number r.request.message r.request.source (text_of u.message)
    pub may_begin : MayBegin r.number u

  module _ (taken : IsTakenIn server history link) (now : ℕ) (r : OpenRequest) (came : Came server history r) where
    -- it went where the request came from
    went_there : (u : Upward) → IsUp r u → WentToCaller (link ∷ []) came.a.number r.request.message came.a.from (text_of u.message)
    went_there u up =
        subst (λ (n : ℕ). WentToCaller (link ∷ []) n r.request.message came.a.from (text_of u.message)) came.is_number
        (subst (λ (f : Addr). WentToCaller (link ∷ []) r.number r.request.message f (text_of u.message)) came.is_source up.went)

    -- the request is an INVITE
    invite_came : is_invite r ≡ true → bytes_eq (method_of r.request.message.start) (codes "INVITE") ≡ true
    invite_came is =
        let same : r.key.method ≡ method_of r.request.message.start = key_has_method r.request.message.fields r.request.message.start r.key came.is_key came.is_no_ack in
        subst (λ (v : List ℕ). bytes_eq v (codes "INVITE") ≡ true) same is

    -- of an INVITE: it began the dialog that the answer names
    begins_now : (u : Upward) (id : DialogId) → IsUp r u → is_invite r ≡ true → nat_le u.status 100 ≡ false → nat_le u.status 299 ≡ true → (x : IsRelayed r.number u)
        → answered_dialog r u.message ≡ Some id
        → Begins server history came.a r.request.message u.status x.response id
    begins_now u id up is above below x e = record {
      is_brought = came.is_brought;
      is_invite = invite_came is;
      came_for = record {
        link = x.came.link;
        a = x.came.a;
        bytes = x.came.bytes;
        reason = x.came.reason;
        request = x.came.request;
        branch = x.came.branch;
        is_there = x.came.is_there;
        is_said = x.came.is_said;
        is_response = x.came.is_response;
        is_for = x.came.is_for;
        is_number = x.came.is_number ∙ came.is_number;
        is_target = x.came.is_target;
      };
      is_above_100 = above_100 u.status above;
      is_below_300 = below_300 u.status below;
      has_gone =
          subst (λ (answer : Message). WentToCaller history came.a.number r.request.message came.a.from (text_of answer)) x.is_message
          (went_in history link came.a.number r.request.message came.a.from (text_of u.message) taken.is_there (went_there u up));
      names = subst (λ (answer : Message). NamesFor r.request.message answer id) x.is_message (answer_names r u.message id e);
    }

    -- what the answer tells of that dialog
    update_now : (u : Upward) (id : DialogId) → IsUp r u → is_invite r ≡ true → nat_le u.status 100 ≡ false → nat_le u.status 299 ≡ true
        → answered_dialog r u.message ≡ Some id
        → IsUpdate server history link (invite_answer server r u id)
    unfolding begins_now
    update_now u id up is above below e = record {
      a = came.a;
      invite = r.request.message;
      status = u.status;
      response = x.response;
      begins = begins;
      is_now = x.is_now;
      is_number = came.is_number;
      is_arrival = came.is_arrival;
      success = λ success. from_200 u.status success;
      are_addresses =
          all_append (IsAddressOf server history id) ((r.request.source ∷ option_to_list u.target) ++ addresses_of server r.request.message)
          (addresses_of server u.message)
          (all_append (IsAddressOf server history id) (r.request.source ∷ option_to_list u.target) (addresses_of server r.request.message)
          (OfCaller came.a r.request.message u.status x.response begins came.is_source, by_target u.target refl)
          (addresses_told server history link taken id r.request.message (Invite came.a r.request.message u.status x.response begins x.is_now)))
          (addresses_told server history link taken id u.message
          (AnswerToInvite came.a r.request.message u.message taken.is_there came.is_brought (invite_came is) (went_there u up) (answer_names r u.message id e)));
    } where
      x : IsRelayed r.number u
      x = up.may_begin below above

      begins : Begins server history came.a r.request.message u.status x.response id
      begins = begins_now u id up is above below x e

      by_target : (o : Option Addr) → u.target ≡ o → AllByRecursion (IsAddressOf server history id) (option_to_list o)
      by_target None at = tt
      by_target (Some address) at = (OfBranch came.a r.request.message u.status x.response begins (sym x.is_target ∙ at), tt)

  module _ (T : Dialog → Type 0) (closed : IsClosed server history link T) (taken : IsTakenIn server history link) where
    module _ (now : ℕ) (r : OpenRequest) (came : Came server history r) where
      -- an answer to an INVITE that names a dialog
      invite_told : (u : Upward) (id : DialogId) (dialogs : List Dialog) → IsUp r u → is_invite r ≡ true → nat_le u.status 100 ≡ false
          → answered_dialog r u.message ≡ Some id
          → AllByRecursion T dialogs
          → AllByRecursion T (after_invite_answer server now r u id dialogs)
      invite_told u id dialogs up is above e h = by_test (nat_le u.status 299) refl where
        by_test : (t : Bool) → nat_le u.status 299 ≡ t
            → AllByRecursion T (cond t (learnt now (invite_answer server r u id) dialogs) (taught now id (addresses_of server u.message) dialogs))
        by_test true below = learnt_kept server history link T closed now (invite_answer server r u id) dialogs (update_now taken now r came u id up is above below e) h
        by_test false below =
            taught_kept server history link T closed now id (addresses_of server u.message) dialogs
            (addresses_told server history link taken id u.message
            (AnswerToInvite came.a r.request.message u.message taken.is_there came.is_brought (invite_came taken now r came is) (went_there taken now r came u up)
            (answer_names r u.message id e))) h

      -- an answer to a request without a To tag
      first_told : (u : Upward) (dialogs : List Dialog) → IsUp r u → nat_le u.status 100 ≡ false → AllByRecursion T dialogs
          → AllByRecursion T (after_first_answer server now r u dialogs)
      first_told u dialogs up above h = by_test (is_invite r) refl where
        by_name : is_invite r ≡ true → (o : Option DialogId) → answered_dialog r u.message ≡ o
            → AllByRecursion T (option_map_or (λ id. after_invite_answer server now r u id dialogs) o dialogs)
        by_name is None e = h
        by_name is (Some id) e = invite_told u id dialogs up is above e h

        by_test : (t : Bool) → is_invite r ≡ t
            → AllByRecursion T (cond t (option_map_or (λ id. after_invite_answer server now r u id dialogs) (answered_dialog r u.message) dialogs) dialogs)
        by_test true is = by_name is (answered_dialog r u.message) refl
        by_test false is = h

      -- an answer to a request of a dialog
      within_told : (u : Upward) (id : DialogId) (dialogs : List Dialog) → IsUp r u → dialog_of r.request.message ≡ Some id → AllByRecursion T dialogs
          → AllByRecursion T (after_answer_within server now r u id dialogs)
      within_told u id dialogs up e h = by_test (bytes_eq r.key.method (codes "BYE") && is_success u.status) where
        by_test : (t : Bool) → AllByRecursion T (cond t (without_dialog now id dialogs) (taught now id (addresses_of server u.message) dialogs))
        by_test true = without_kept server history link T closed now id dialogs h
        by_test false =
            taught_kept server history link T closed now id (addresses_of server u.message) dialogs
            (addresses_told server history link taken id u.message
            (AnswerWithin came.a r.request.message u.message taken.is_there came.is_brought (dialog_names r.request.message id e) (went_there taken now r came u up))) h

      -- any answer
      answer_told : (u : Upward) (dialogs : List Dialog) → IsUp r u → AllByRecursion T dialogs → AllByRecursion T (after_answer server now r u dialogs)
      answer_told u dialogs up h = by_test (nat_le u.status 100) refl where
        by_dialog : nat_le u.status 100 ≡ false → (o : Option DialogId) → dialog_of r.request.message ≡ o → AllByRecursion T (after_answer_of server now r u o dialogs)
        by_dialog above None e = first_told u dialogs up above h
        by_dialog above (Some id) e = within_told u id dialogs up e h

        by_test : (t : Bool) → nat_le u.status 100 ≡ t → AllByRecursion T (cond t dialogs (after_answer_of server now r u (dialog_of r.request.message) dialogs))
        by_test true above = h
        by_test false above = by_dialog above (dialog_of r.request.message) refl

      -- several
      answers_told : (us : List Upward) (dialogs : List Dialog) → AllByRecursion (IsUp r) us → AllByRecursion T dialogs
          → AllByRecursion T (after_answers server now r us dialogs)
      answers_told [] dialogs ups h = h
      answers_told (u ∷ us) dialogs ups h = answers_told us (after_answer server now r u dialogs) ups.1 (answer_told u dialogs ups.0 h)

      -- and the leaving of an INVITE
      leaving_told : (dialogs : List Dialog) → AllByRecursion T dialogs → AllByRecursion T (after_leaving now r dialogs)
      leaving_told dialogs h = by_test (is_invite r && has_left r) where
        by_test : (t : Bool) → AllByRecursion T (cond t (after_invite now r.number dialogs) dialogs)
        by_test true = after_invite_kept server history link T closed now r.number dialogs h
        by_test false = h

    -- a change of an open request
    pub change_told : (now : ℕ) (change : Change) (dialogs : List Dialog) → Came server history change.request → AllByRecursion (IsUp change.request) change.upward
        → AllByRecursion T dialogs
        → AllByRecursion T (dialogs_after server now change dialogs)
    change_told now change dialogs came ups h =
        leaving_told now change.request came (after_answers server now change.request change.upward dialogs)
        (answers_told now change.request came change.upward dialogs ups h)

    -- a request of a dialog that is sent on
    pub request_told : (a : Arrival) (m : Message) (id : DialogId) (dialogs : List Dialog) (brought : IsBrought history a m) → brought.link ≡ link → dialog_of m ≡ Some id
        → WasSentOn server (link ∷ []) a m → AllByRecursion T dialogs
        → AllByRecursion T (after_request server a.now id m dialogs)
    request_told a m id dialogs brought is_now e sent h =
        let names : Names m id = dialog_names m id e in
        let on : WasSentOn server history a m =
        record {
          packet = sent.packet;
          is_there = sent_in history link sent.packet taken.is_there sent.is_there;
          is_text = sent.is_text;
          is_of_datagram = sent.is_of_datagram;
        }
        in
        renewed_kept server history link T closed a.now id (addresses_of server m) dialogs
        (addresses_told server history link taken id m (Within a m brought is_now names sent))
        (λ d same. Later a m brought (names_alike server history d id m same names) on refl) h
