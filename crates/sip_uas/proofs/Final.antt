-- Each answer that a verdict gives at once is final.
use Rattle.std.proofs.Common.{ℕ, Bool, true, false, cond, ◌&&◌, List, [], ◌∷◌, Option, Result, Some, None, Ok, Err, refl, find, is_some, option_map, bytes_eq, codes}
use Rattle.std.specs.List.{AllByRecursion}
use Rattle.std.specs.Option.{option_map_or}
use Rattle.std.specs.Result.{result_ok}
use Rattle.sip_dialog.specs.declared.dialog.DialogId.{DialogId}
use Rattle.sip_dialog.specs.Dialogs.{is_in_dialog}
use Rattle.sip_message_form.specs.declared.message.Message.{Message}
use Rattle.sip_header.specs.CoreFields.{core_of}
use Rattle.sip_header.specs.declared.core_fields.CoreFields.{CoreFields}
use Rattle.sip_uri.specs.declared.addr.Addr.{Addr}
use Rattle.sip_transaction_table.specs.declared.key.TransactionKey.{TransactionKey}
use Rattle.sip_policy.specs.declared.decision.Decision.{Decision}
use Rattle.sip_policy.specs.User.{is_users_address}
use Rattle.sip_dialog_updates.specs.state.Arrival.{Arrival}
use Rattle.sip_dialog_updates.specs.state.Dialogs.{dialog_of}
use Rattle.sip_dialog_updates.specs.state.declared.proxy_state.ProxyState.{ProxyState}
use Rattle.sip_dialog_updates.specs.state.declared.server.Server.{Server}
use Rattle.sip_validate.specs.UncheckedRequest.{UncheckedRequest}
use Rattle.sip_validate.specs.Refusal as Checks
use Rattle.sip_verdict.specs.verdict_model.declared.question.Question.{Question}
use Rattle.sip_verdict.specs.verdict_model.Verdict.{Refused, Verdict, Drop, AckOn, Cancel, Answer, InDialog, Send, Register, refused_by, registered_by, registration_by}
use Rattle.sip_verdict.specs.verdict_model.Verdict.{is_own_uri, within_at, within, next_address, ack_verdict, cancel_verdict, decided, let_through, answer_of}
use Rattle.sip_verdict.specs.verdict_model.Verdict.{question_of}
use Rattle.sip_verdict.specs.verdict_model.Verdict.{policy_verdict, is_outside, is_register, core_verdict, checked_verdict, new_verdict, request_targets, is_full}
use Rattle.sip_verdict.specs.verdict_model.Verdict.{found_for_cancel}
use Rattle.sip_route.specs.Way.{request_uri_of}
use Rattle.sip_location.specs.declared.binding.Binding.{Binding}
use Rattle.sip_location.specs.declared.error.LocationError.{LocationError}
use Rattle.sip_location.specs.declared.error.LocationError.TheVariants.{NoMemory, BadStar, TooBrief, OldCSeq, TooMany}
use Rattle.sip_location.specs.Registering.{to_aor, registration_of}
use Rattle.sip_location.specs.Registration.{registered}
use Rattle.model_transactions.specs.Fits.{IsFinalAnswer}
use Rattle.sip_uas.specs.Asking.{RefusesFinally, AnswersFinally}

-- ---- by a test

either : (b : Bool) (x y : Verdict) → AnswersFinally x → AnswersFinally y → AnswersFinally (cond b x y)
either true x y p q = p
either false x y p q = q

-- ---- the checks

-- a refusal by the checks is final
abbrev IsFinalRefusal : Option (ℕ × List ℕ) → Type 0
IsFinalRefusal None = Unit {0}
IsFinalRefusal (Some refusal) = IsFinalAnswer refusal.0

-- that of a row, or of a later one
abbrev said : UncheckedRequest → Option Checks.Row → Option (ℕ × List ℕ)
said r row = option_map (λ (x : Checks.Row). (x.status, x.extra r)) row

row_or_later : (r : UncheckedRequest) (row : Checks.Row) (later : Option Checks.Row) (b : Bool) → IsFinalAnswer row.status → IsFinalRefusal (said r later)
    → IsFinalRefusal (said r (cond b (Some row) later))
row_or_later r row later true p q = p
row_or_later r row later false p q = q

first_row : (r : UncheckedRequest) (rows : List Checks.Row) → AllByRecursion (λ (row : Checks.Row). IsFinalAnswer row.status) rows
    → IsFinalRefusal (said r (find (λ row. row.applies r) rows))
first_row r [] all = tt
first_row r (row ∷ rows) all = row_or_later r row (find (λ x. x.applies r) rows) (row.applies r) all.0 (first_row r rows all.1)

refusal_final : (r : UncheckedRequest) → IsFinalRefusal (Checks.refusal r)
refusal_final r = first_row r Checks.rows (refl, (refl, (refl, (refl, (refl, (refl, (refl, tt)))))))

candidate_final : (candidate : Option UncheckedRequest) → IsFinalRefusal (option_map_or Checks.refusal candidate None)
candidate_final None = tt
candidate_final (Some r) = refusal_final r

-- ---- registration

refused_final : (e : LocationError) → RefusesFinally (refused_by e)
refused_final NoMemory = refl
refused_final BadStar = refl
refused_final TooBrief = refl
refused_final OldCSeq = refl
refused_final TooMany = refl

registered_final : (outcome : Result (List Binding) LocationError) → RefusesFinally (registered_by outcome)
registered_final (Ok rows) = tt
registered_final (Err e) = refused_final e

registration_final : (b : Bool) (outcome : Result (List Binding) LocationError) → RefusesFinally (cond b (registered_by outcome) (Refused 404 []))
registration_final true outcome = registered_final outcome
registration_final false outcome = refl

-- ---- policy

let_through_final : (server : Server) (state : ProxyState) (now : ℕ) (m : Message) (method : List ℕ) (core : CoreFields) (q : Question) (id : ℕ) (decision : Decision)
    → AnswersFinally (let_through server state now m method core q id decision)
let_through_final server state now m method core q id decision =
    either (is_register method) (Register q id (registration_by server state.bindings now m core)) (Send q id (request_targets server state.bindings now m q decision))
    (registration_final (is_own_uri server (request_uri_of server.config.own m) && is_users_address server.config.users server.config.own.domains (to_aor core))
    (registered state.bindings (registration_of core m.fields) now)) tt

decided_final : (server : Server) (state : ProxyState) (now : ℕ) (m : Message) (method : List ℕ) (core : CoreFields) (q : Question) (decision : Decision)
    → AnswersFinally (decided server state now m method core q decision)
decided_final server state now m method core q Decision.Challenge = tt
decided_final server state now m method core q (Decision.Deny id) = tt
decided_final server state now m method core q (Decision.Allow id) = let_through_final server state now m method core q id (Decision.Allow id)
decided_final server state now m method core q (Decision.Via id hop) = let_through_final server state now m method core q id (Decision.Via id hop)

-- ---- in a dialog

within_final : (state : ProxyState) (now : ℕ) (on : Addr → DialogId → Verdict) (none : Verdict) → ((address : Addr) (id : DialogId) → AnswersFinally (on address id))
    → AnswersFinally none
    → (id : Option DialogId) (address : Option Addr) → AnswersFinally (within_at state now on none id address)
within_final state now on none p q None address = q
within_final state now on none p q (Some id) None = q
within_final state now on none p q (Some id) (Some address) = either (is_in_dialog now state.dialogs id address) (on address id) none (p address id) q

-- ---- a request

core_final : (server : Server) (state : ProxyState) (now : ℕ) (m : Message) (method : List ℕ) (core : Option CoreFields)
    → AnswersFinally (core_verdict server state now m method core)
core_final server state now m method None = tt
core_final server state now m method (Some core) =
    let q : Question = question_of server state.nonces now m method core in
    either (is_outside method core) (policy_verdict server state now m method core) (within server state now m InDialog (Answer 481 []))
    (decided_final server state now m method core q (answer_of server q))
    (within_final state now InDialog (Answer 481 []) (λ address id. tt) refl (dialog_of m) (next_address server m))

checked_final : (server : Server) (state : ProxyState) (now : ℕ) (m : Message) (method : List ℕ) (refusal : Option (ℕ × List ℕ)) → IsFinalRefusal refusal
    → AnswersFinally (checked_verdict server state now m method refusal)
checked_final server state now m method (Some refusal) h = h
checked_final server state now m method None h =
    either (is_full state) (Answer 503 []) (core_verdict server state now m method (result_ok (core_of m))) refl
    (core_final server state now m method (result_ok (core_of m)))

ack_final : (server : Server) (state : ProxyState) (now : ℕ) (m : Message) (short : Bool) → AnswersFinally (ack_verdict server state now m short)
ack_final server state now m short =
    either (is_some (Checks.refusal_of server.config.own m short)) Drop (within server state now m AckOn Drop) tt
    (within_final state now AckOn Drop (λ address id. tt) tt (dialog_of m) (next_address server m))

cancel_final : (server : Server) (state : ProxyState) (a : Arrival) (m : Message) (short : Bool) (key : TransactionKey)
    → AnswersFinally (cancel_verdict server state a m short key)
cancel_final server state a m short key =
    let found : Verdict = Cancel (found_for_cancel state key a.from) in
    either (Checks.is_bad_request server.config.own m short) (Answer 400 []) (cond (is_full state) (Answer 503 []) found) refl
    (either (is_full state) (Answer 503 []) found refl tt)

pub new_final : (server : Server) (state : ProxyState) (a : Arrival) (m : Message) (short : Bool) (method : List ℕ) (key : TransactionKey)
    → AnswersFinally (new_verdict server state a m short method key)
new_final server state a m short method key =
    let refusal : Option (ℕ × List ℕ) = Checks.refusal_of server.config.own m short in
    let ack : Verdict = ack_verdict server state a.now m short in
    let cancel : Verdict = cancel_verdict server state a m short key in
    let checked : Verdict = checked_verdict server state a.now m method refusal in
    either (bytes_eq method (codes "ACK")) ack (cond (bytes_eq method (codes "CANCEL")) cancel checked) (ack_final server state a.now m short)
    (either (bytes_eq method (codes "CANCEL")) cancel checked (cancel_final server state a m short key)
    (checked_final server state a.now m method refusal (candidate_final (Checks.unchecked_of server.config.own m short))))
