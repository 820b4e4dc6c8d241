-- Whatever policy is asked about is a valid new request outside a dialog, and each such request gets policy's verdict.
use Rattle.std.proofs.Common.{◌≡◌, ℕ, List, [], cond, Bool, true, false, refl, sym, ◌∙◌, ap, Option, Some, None}
use Rattle.std.specs.Prelude.{find, codes, Result, Ok, Err, ◌&&◌}
use Rattle.std.specs.Option.{option_map_or}
use Rattle.std.specs.Result.{result_ok}
use Rattle.std.specs.Str.{bytes_eq}
use Rattle.sip_message_fields.specs.declared.field.Field.{Field}
use Rattle.sip_message_form.specs.declared.message.Start.{Start}
use Rattle.sip_message_form.specs.declared.message.Start.TheVariants as Begins
use Rattle.sip_message_form.specs.declared.message.Message.{Message}
use Rattle.sip_message.specs.Reading.{reading_of}
use Rattle.sip_route.specs.declared.own.Own.{Own}
use Rattle.sip_transaction_table.specs.declared.key.TransactionKey.{TransactionKey}
use Rattle.sip_header.specs.declared.core_fields.CoreFields.{CoreFields}
use Rattle.sip_transaction_table.specs.Key.{key_of}
use Rattle.sip_header.specs.CoreFields.{core_of}
use Rattle.sip_uri.specs.declared.addr.Addr.{Addr}
use Rattle.sip_validate.specs.Refusal.{refusal, refusal_of, unchecked_by, is_bad_request}
use Rattle.sip_dialog.specs.declared.dialog.DialogId.{DialogId}
use Rattle.sip_dialog.specs.Dialogs.{is_in_dialog}
use Rattle.model_steps.specs.state.declared.server.Server.{Server}
use Rattle.model_steps.specs.state.declared.proxy_state.ProxyState.{ProxyState}
use Rattle.model_steps.specs.state.declared.open_request.OpenRequest.{OpenRequest}
use Rattle.model_steps.specs.state.declared.branch.Branch.{Branch}
use Rattle.model_steps.specs.state.State.{has_key}
use Rattle.model_steps.specs.context_model.Branches.{is_accepted}
use Rattle.model_steps.specs.state.Dialogs.{dialog_of}
use Rattle.model_steps.specs.state.Arrival.{Arrival}
use Rattle.model_steps.specs.verdict_model.Verdict.{Verdict, Drop, Respond, Copy, AckOn, Cancel, Answer, InDialog, Challenge, Deny, Send, Register, response_verdict}
use Rattle.model_steps.specs.verdict_model.Verdict.{responding, next_address, within_at, within, ack_verdict, is_full, found_for_cancel, cancel_verdict, policy_verdict}
use Rattle.model_steps.specs.verdict_model.Verdict.{is_outside, core_verdict, checked_verdict, new_verdict, by_open, by_key, by_start, message_verdict, message_in}
use Rattle.sip_model.specs.Access.{IsNewRequest}

-- whether a verdict is one that policy gives
abbrev pub is_by_policy : Verdict → Bool
is_by_policy (Challenge q) = true
is_by_policy (Deny q id) = true
is_by_policy (Send q id targets) = true
is_by_policy (Register q id outcome) = true
is_by_policy Drop = false
is_by_policy (Respond r b status) = false
is_by_policy (Copy r) = false
is_by_policy (AckOn address id) = false
is_by_policy (Cancel found) = false
is_by_policy (Answer status extras) = false
is_by_policy (InDialog address id) = false

-- ---- one verdict of two

-- where the second of two verdicts isn't policy's and the chosen one is, the first was chosen
first_by_policy : (b : Bool) (left right : Verdict) → is_by_policy right ≡ false → is_by_policy (cond b left right) ≡ true → (b ≡ true) × (is_by_policy left ≡ true)
first_by_policy true left right other h = (refl, h)
first_by_policy false left right other h = cc

-- where the first of two verdicts isn't policy's and the chosen one is, the second was chosen
second_by_policy : (b : Bool) (left right : Verdict) → is_by_policy left ≡ false → is_by_policy (cond b left right) ≡ true → (b ≡ false) × (is_by_policy right ≡ true)
second_by_policy true left right other h = cc
second_by_policy false left right other h = (refl, h)

-- where neither of two verdicts is policy's, what is chosen isn't
neither_by_policy : (b : Bool) (left right : Verdict) → is_by_policy left ≡ false → is_by_policy right ≡ false → is_by_policy (cond b left right) ≡ false
neither_by_policy true left right h k = h
neither_by_policy false left right h k = k

-- ---- what policy isn't asked about

-- a response
response_not_by_policy : (fields : List Field) (status : ℕ) (found : Option (OpenRequest × Branch)) → is_by_policy (response_verdict fields status found) ≡ false
response_not_by_policy fields status None = refl
response_not_by_policy fields status (Some x) = neither_by_policy _ (Respond x.0 x.1 status) Drop refl refl

-- an ACK that is looked for in a dialog
ack_within_not_by_policy : (state : ProxyState) (now : ℕ) (id : Option DialogId) (address : Option Addr)
    → is_by_policy (within_at state now AckOn Drop id address) ≡ false
ack_within_not_by_policy state now None address = refl
ack_within_not_by_policy state now (Some id) None = refl
ack_within_not_by_policy state now (Some id) (Some address) = neither_by_policy (is_in_dialog now state.dialogs id address) (AckOn address id) Drop refl refl

-- any ACK
ack_not_by_policy : (server : Server) (state : ProxyState) (now : ℕ) (m : Message) (short : Bool) → is_by_policy (ack_verdict server state now m short) ≡ false
ack_not_by_policy server state now m short =
    neither_by_policy _ Drop (within server state now m AckOn Drop) refl (ack_within_not_by_policy state now (dialog_of m) (next_address server m))

-- a request within a dialog
within_not_by_policy : (state : ProxyState) (now : ℕ) (id : Option DialogId) (address : Option Addr)
    → is_by_policy (within_at state now InDialog (Answer 481 []) id address) ≡ false
within_not_by_policy state now None address = refl
within_not_by_policy state now (Some id) None = refl
within_not_by_policy state now (Some id) (Some address) = neither_by_policy (is_in_dialog now state.dialogs id address) (InDialog address id) (Answer 481 []) refl refl

-- a CANCEL
cancel_not_by_policy : (server : Server) (state : ProxyState) (a : Arrival) (m : Message) (short : Bool) (key : TransactionKey)
    → is_by_policy (cancel_verdict server state a m short key) ≡ false
cancel_not_by_policy server state a m short key =
    neither_by_policy (is_bad_request server.config.own m short) (Answer 400 []) _ refl
    (neither_by_policy (is_full state) (Answer 503 []) (Cancel (found_for_cancel state key a.from)) refl refl)

-- a request whose key is open
copy_not_by_policy : (server : Server) (state : ProxyState) (a : Arrival) (m : Message) (short : Bool) (method : List ℕ) (key : TransactionKey) (r : OpenRequest)
    → is_by_policy (by_open server state a m short method key (Some r)) ≡ false
copy_not_by_policy server state a m short method key r =
    neither_by_policy (bytes_eq method (codes "ACK") && is_accepted r) (ack_verdict server state a.now m short) (Copy r) (ack_not_by_policy server state a.now m short)
    refl

-- ---- what is known where policy is asked

-- the request's core fields were read, and it is outside a dialog
core_by_policy : (server : Server) (state : ProxyState) (now : ℕ) (m : Message) (method : List ℕ) (found : Option CoreFields)
    → is_by_policy (core_verdict server state now m method found) ≡ true → (core : CoreFields) × (found ≡ Some core) × (is_outside method core ≡ true)
core_by_policy server state now m method None h = cc
core_by_policy server state now m method (Some core) h =
    let k = first_by_policy (is_outside method core) (policy_verdict server state now m method core) (within server state now m InDialog (Answer 481 []))
    (within_not_by_policy state now (dialog_of m) (next_address server m)) h in
    (core, refl, k.0)

-- it passed every check, and there is room for it
checked_by_policy : (server : Server) (state : ProxyState) (now : ℕ) (m : Message) (method : List ℕ) (refused : Option (ℕ × List ℕ))
    → is_by_policy (checked_verdict server state now m method refused) ≡ true
    → (refused ≡ None) × (is_full state ≡ false) × (is_by_policy (core_verdict server state now m method (result_ok (core_of m))) ≡ true)
checked_by_policy server state now m method (Some x) h = cc
checked_by_policy server state now m method None h =
    let k = second_by_policy (is_full state) (Answer 503 []) (core_verdict server state now m method (result_ok (core_of m))) refl h in (refl, k.0, k.1)

-- it is neither ACK nor CANCEL
new_by_policy : (server : Server) (state : ProxyState) (a : Arrival) (m : Message) (short : Bool) (method : List ℕ) (key : TransactionKey)
    → is_by_policy (new_verdict server state a m short method key) ≡ true
    → (bytes_eq method (codes "ACK") ≡ false) × (bytes_eq method (codes "CANCEL") ≡ false)
    × (is_by_policy (checked_verdict server state a.now m method (refusal_of server.config.own m short)) ≡ true)
new_by_policy server state a m short method key h =
    let checked : Verdict = checked_verdict server state a.now m method (refusal_of server.config.own m short) in
    let others : Verdict = cond (bytes_eq method (codes "CANCEL")) (cancel_verdict server state a m short key) checked in
    let k = second_by_policy (bytes_eq method (codes "ACK")) (ack_verdict server state a.now m short) others (ack_not_by_policy server state a.now m short) h in
    let l = second_by_policy (bytes_eq method (codes "CANCEL")) (cancel_verdict server state a m short key) checked (cancel_not_by_policy server state a m short key) k.1
    in
    (k.0, l.0, l.1)

-- its key isn't open
open_by_policy : (server : Server) (state : ProxyState) (a : Arrival) (m : Message) (short : Bool) (method : List ℕ) (key : TransactionKey) (found : Option OpenRequest)
    → is_by_policy (by_open server state a m short method key found) ≡ true → (found ≡ None) × (is_by_policy (new_verdict server state a m short method key) ≡ true)
open_by_policy server state a m short method key None h = (refl, h)
open_by_policy server state a m short method key (Some r) h = cc (copy_not_by_policy server state a m short method key r)

-- it has a key
key_by_policy : (server : Server) (state : ProxyState) (a : Arrival) (m : Message) (short : Bool) (method : List ℕ) (read : Option TransactionKey)
    → is_by_policy (by_key server state a m short method read) ≡ true
    → (key : TransactionKey) × (read ≡ Some key) × (is_by_policy (by_open server state a m short method key (find (has_key key) state.requests)) ≡ true)
key_by_policy server state a m short method None h = cc
key_by_policy server state a m short method (Some key) h = (key, refl, h)

-- a response isn't one, with a short body or without
status_not_by_policy : (server : Server) (state : ProxyState) (a : Arrival) (m : Message) (short : Bool) (code : ℕ) (reason : List ℕ)
    → is_by_policy (by_start server state a m short (Begins.Status code reason)) ≡ false
status_not_by_policy server state a m short code reason =
    neither_by_policy short Drop (response_verdict m.fields code (responding server state.requests m.fields)) refl
    (response_not_by_policy m.fields code (responding server state.requests m.fields))

-- it is a request
start_by_policy : (server : Server) (state : ProxyState) (a : Arrival) (m : Message) (short : Bool) (start : Start)
    → is_by_policy (by_start server state a m short start) ≡ true
    → (method uri version : List ℕ) × (start ≡ Begins.Request method uri version) × (is_by_policy (by_key server state a m short method (key_of m)) ≡ true)
start_by_policy server state a m short (Begins.Status code reason) h = cc (status_not_by_policy server state a m short code reason)
start_by_policy server state a m short (Begins.Request method uri version) h = (method, uri, version, refl, h)

-- ---- the body isn't short

-- a request with a short body is refused
short_refused : (own : Own) (m : Message) (method uri version : List ℕ) → m.start ≡ Begins.Request method uri version → refusal_of own m true ≡ Some (400, [])
short_refused own m method uri version h = ap (λ start. option_map_or refusal (unchecked_by own m.fields true start) None) h

-- where a request isn't refused its body isn't short
not_short : (own : Own) (m : Message) (short : Bool) (method uri version : List ℕ) → m.start ≡ Begins.Request method uri version → refusal_of own m short ≡ None
    → short ≡ false
not_short own m true method uri version h passed = let k : refusal_of own m true ≡ Some (400, []) = short_refused own m method uri version h in cc
not_short own m false method uri version h passed = refl

-- where a reading gives a value, it is that value
ok_of : {A E : Type 0} (read : Result A E) (x : A) → result_ok read ≡ Some x → read ≡ Ok x
ok_of (Ok y) x h = cc
ok_of (Err e) x h = cc

-- ---- the verdict on a valid new request outside a dialog

-- a request that is checked and new gets policy's verdict
checked_verdict_is : (server : Server) (state : ProxyState) (bytes : List ℕ) (m : Message) (method : List ℕ) (core : CoreFields)
    → IsNewRequest server state bytes m method core → (now : ℕ)
    → checked_verdict server state now m method (refusal_of server.config.own m false) ≡ policy_verdict server state now m method core
checked_verdict_is server state bytes m method core h now =
    ap (checked_verdict server state now m method) h.is_valid
    ∙ ap (λ b. cond b (Answer 503 []) (core_verdict server state now m method (result_ok (core_of m)))) h.has_room
    ∙ ap (λ c. core_verdict server state now m method (result_ok c)) h.core_is
    ∙ ap (λ b. cond b (policy_verdict server state now m method core) (within server state now m InDialog (Answer 481 []))) h.is_outside_dialog

-- a valid new request outside a dialog gets policy's verdict
pub verdict_is : (server : Server) (state : ProxyState) (bytes : List ℕ) (m : Message) (method : List ℕ) (core : CoreFields)
    → IsNewRequest server state bytes m method core → (a : Arrival)
    → message_verdict server state a m false ≡ policy_verdict server state a.now m method core
verdict_is server state bytes m method core h a =
    ap (by_start server state a m false) h.is_request
    ∙ ap (by_key server state a m false method) h.key_is
    ∙ ap (by_open server state a m false method h.key) h.is_new
    ∙ ap (λ b. cond b (ack_verdict server state a.now m false)
    (cond (bytes_eq method (codes "CANCEL")) (cancel_verdict server state a m false h.key)
    (checked_verdict server state a.now m method (refusal_of server.config.own m false)))) h.is_no_ack
    ∙ ap (λ b. cond b (cancel_verdict server state a m false h.key) (checked_verdict server state a.now m method (refusal_of server.config.own m false))) h.is_no_cancel
    ∙ checked_verdict_is server state bytes m method core h a.now

-- ---- the whole

-- Whatever policy is asked about is a valid new request outside a dialog, whose body isn't short
pub judged : (server : Server) (state : ProxyState) (a : Arrival) (bytes : List ℕ) (m : Message) (short : Bool) → message_in (reading_of bytes) ≡ Some (m, short)
    → is_by_policy (message_verdict server state a m short) ≡ true → (method : List ℕ) × (core : CoreFields) × (short ≡ false)
    × IsNewRequest server state bytes m method core
judged server state a bytes m short said h =
    let started = start_by_policy server state a m short m.start h in
    let method : List ℕ = started.0 in
    let keyed = key_by_policy server state a m short method (key_of m) started.4 in
    let key : TransactionKey = keyed.0 in
    let fresh = open_by_policy server state a m short method key (find (has_key key) state.requests) keyed.2 in
    let other = new_by_policy server state a m short method key fresh.1 in
    let checked = checked_by_policy server state a.now m method (refusal_of server.config.own m short) other.2 in
    let read = core_by_policy server state a.now m method (result_ok (core_of m)) checked.2 in
    let whole : short ≡ false = not_short server.config.own m short method started.1 started.2 started.3 checked.0 in (
      method,
      read.0,
      whole,
      record {
        uri = started.1;
        version = started.2;
        key = key;
        says = said ∙ ap (λ s. Some (m, s)) whole;
        is_request = started.3;
        key_is = keyed.1;
        is_new = fresh.0;
        is_no_ack = other.0;
        is_no_cancel = other.1;
        is_valid = ap (refusal_of server.config.own m) (sym whole) ∙ checked.0;
        has_room = checked.1;
        core_is = ok_of (core_of m) read.0 read.1;
        is_outside_dialog = read.2;
      },
    )

-- A message that was judged so gets policy's verdict
pub judged_verdict : (server : Server) (state : ProxyState) (a : Arrival) (bytes : List ℕ) (m : Message) (short : Bool) (method : List ℕ) (core : CoreFields)
    → short ≡ false
    → IsNewRequest server state bytes m method core → message_verdict server state a m short ≡ policy_verdict server state a.now m method core
judged_verdict server state a bytes m short method core whole h = ap (message_verdict server state a m) whole ∙ verdict_is server state bytes m method core h a
