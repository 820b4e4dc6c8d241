-- How verdicts follow from those on their parts.
use Rattle.std.proofs.Common.{◌≡◌, ◌∙◌, ℕ, Bool, true, false, cond, is_some, List, [], Option, Some, None, Ok, Err, ap, sym, subst}
use Rattle.std.specs.Prelude.{Result, IfOk, OnOk, codes}
use Rattle.std.specs.Result.{result_ok}
use Rattle.std.specs.Str.{bytes_eq}
use Rattle.std.specs.declared.alloc.AllocError.{AllocError}
use Rattle.sip_dialog.specs.declared.dialog.Dialog.{Dialog}
use Rattle.sip_message_form.specs.declared.message.Message.{Message}
use Rattle.sip_header.specs.declared.core_fields.CoreFields.{CoreFields}
use Rattle.sip_header.specs.CoreFields.{core_of}
use Rattle.sip_transaction_table.specs.declared.key.TransactionKey.{TransactionKey}
use Rattle.sip_location.specs.declared.binding.Binding.{Binding}
use Rattle.sip_digest.specs.declared.nonces.Nonce.{Nonce}
use Rattle.sip_policy.specs.declared.decision.Decision.{Decision}
use Rattle.model_verdict.specs.state.Arrival.{Arrival}
use Rattle.model_verdict.specs.state.declared.open_request.OpenRequest.{OpenRequest}
use Rattle.model_verdict.specs.state.declared.proxy_state.ProxyState.{ProxyState}
use Rattle.model_verdict.specs.state.declared.server.Server.{Server}
use Rattle.sip_validate.specs.Refusal.{refusal_of}
use Rattle.sip_route.specs.declared.own.Own.{Own}
use Rattle.model_verdict.specs.declared.question.Question.{Question}
use Rattle.model_verdict.specs.Verdict as Definition
use Rattle.sip_verdict.specs.declared.verdict.Verdict.{Verdict}
use Rattle.sip_verdict.specs.declared.verdict.Verdict.TheVariants as Made
use Rattle.sip_verdict.specs.declared.verdict.Judged.{Judged}
use Rattle.sip_verdict.specs.declared.verdict.PolicyOutcome.{PolicyOutcome}
use Rattle.sip_verdict.specs.Verdict.{Knows, IsOutcome, Is}

-- ---- policy

-- what is decided about what policy is asked is what policy says
pub asked : (result : Result Judged AllocError) (server : Server) (rows : List Binding) (nonces : List Nonce) (now : ℕ) (m : Message) (method : List ℕ)
    (core : CoreFields) (question : Question)
    → question ≡ Definition.question_of server nonces now m method core → IfOk result (λ (j : Judged). j.question ≡ question)
    → IfOk result (λ (j : Judged). (state : ProxyState) → state.bindings ≡ rows
    → IsOutcome rows now j.question (Definition.decided server state now m method core j.question (Definition.answer_of server j.question)) j.outcome)
    → IfOk result (λ (j : Judged). (state : ProxyState) → state.bindings ≡ rows → state.nonces ≡ nonces
    → IsOutcome rows now j.question (Definition.policy_verdict server state now m method core) j.outcome)
asked (Ok j) server rows nonces now m method core question is same h =
    λ state bound issued.
    subst (λ (q : Question). IsOutcome rows now j.question (Definition.decided server state now m method core q (Definition.answer_of server q)) j.outcome)
    (same ∙ is ∙ ap (λ (ns : List Nonce). Definition.question_of server ns now m method core) (sym issued)) (h state bound)
asked (Err e) server rows nonces now m method core question is same h = tt

-- ---- a request that passed the checks

pub outside : (server : Server) (rows : List Binding) (nonces : List Nonce) (dialogs : List Dialog) (now : ℕ) (m : Message) (method : List ℕ) (core : CoreFields)
    (judged : Judged)
    → Definition.is_outside method core ≡ true → judged.minute ≡ Definition.minute_on server judged.question
    → ((state : ProxyState) → state.bindings ≡ rows → state.nonces ≡ nonces → IsOutcome rows now judged.question
    (Definition.policy_verdict server state now m method core) judged.outcome)
    → (state : ProxyState) (is_full : Bool) → Knows state rows nonces dialogs is_full → (named : Option OpenRequest)
    → Is server rows now named (Definition.core_verdict server state now m method (Some core)) (Made.Judged judged)
outside server rows nonces dialogs now m method core judged is minute h state is_full knows named = (
  minute,
  subst (λ (b : Bool). IsOutcome rows now judged.question (cond b (Definition.policy_verdict server state now m method core)
      (Definition.within server state now m Definition.InDialog (Definition.Answer 481 []))) judged.outcome) (sym is) (h state knows.bindings_are knows.nonces_are),
)

pub with_room : (result : Result Verdict AllocError) (server : Server) (rows : List Binding) (nonces : List Nonce) (dialogs : List Dialog) (is_full : Bool) (now : ℕ)
    (m : Message) (method : List ℕ) (core : CoreFields)
    → is_full ≡ false → result_ok (core_of m) ≡ Some core
    → IfOk result (λ (v : Verdict). (state : ProxyState) (is_full : Bool) → Knows state rows nonces dialogs is_full → (named : Option OpenRequest)
    → Is server rows now named (Definition.core_verdict server state now m method (Some core)) v)
    → IfOk result (λ (v : Verdict). (state : ProxyState) → Knows state rows nonces dialogs is_full → (named : Option OpenRequest)
    → Is server rows now named (Definition.checked_verdict server state now m method None) v)
with_room (Ok v) server rows nonces dialogs is_full now m method core is is_core h =
    λ state knows named.
    subst (λ (b : Bool). Is server rows now named (cond b (Definition.Answer 503 []) (Definition.core_verdict server state now m method (result_ok (core_of m)))) v)
    (sym (knows.fullness_is ∙ is))
    (subst (λ (c : Option CoreFields). Is server rows now named (Definition.core_verdict server state now m method c) v) (sym is_core) (h state is_full knows named))
with_room (Err e) server rows nonces dialogs is_full now m method core is is_core h = tt

-- ---- the checks

pub by_checks : (result : Result Verdict AllocError) (server : Server) (rows : List Binding) (nonces : List Nonce) (dialogs : List Dialog) (is_full : Bool) (now : ℕ)
    (m : Message) (method : List ℕ)
    (refusal read : Option (ℕ × List ℕ)) → refusal ≡ read
    → IfOk result (λ (v : Verdict). (state : ProxyState) → Knows state rows nonces dialogs is_full → (named : Option OpenRequest)
    → Is server rows now named (Definition.checked_verdict server state now m method read) v)
    → IfOk result (λ (v : Verdict). (state : ProxyState) → Knows state rows nonces dialogs is_full → (named : Option OpenRequest)
    → Is server rows now named (Definition.checked_verdict server state now m method refusal) v)
by_checks (Ok v) server rows nonces dialogs is_full now m method refusal read is h =
    λ state knows named.
    subst (λ (r : Option (ℕ × List ℕ)). Is server rows now named (Definition.checked_verdict server state now m method r) v) (sym is) (h state knows named)
by_checks (Err e) server rows nonces dialogs is_full now m method refusal read is h = tt

pub by_refusal : (result : Result Verdict AllocError) (server : Server) (rows : List Binding) (nonces : List Nonce) (dialogs : List Dialog) (is_full : Bool) (now : ℕ)
    (m : Message) (method : List ℕ)
    (refusal : Option (ℕ × List ℕ)) (status : ℕ) (items : List ℕ) → refusal ≡ Some (status, items)
    → IfOk result (λ (v : Verdict). (server : Server) (state : ProxyState) (now : ℕ) (m : Message) (method : List ℕ) (rows : List Binding) (named : Option OpenRequest)
    → Is server rows now named (Definition.checked_verdict server state now m method (Some (status, items))) v)
    → IfOk result (λ (v : Verdict). (state : ProxyState) → Knows state rows nonces dialogs is_full → (named : Option OpenRequest)
    → Is server rows now named (Definition.checked_verdict server state now m method refusal) v)
by_refusal (Ok v) server rows nonces dialogs is_full now m method refusal status items is h =
    λ state knows named.
    subst (λ (r : Option (ℕ × List ℕ)). Is server rows now named (Definition.checked_verdict server state now m method r) v) (sym is)
    (h server state now m method rows named)
by_refusal (Err e) server rows nonces dialogs is_full now m method refusal status items is h = tt

pub by_unread : (result : Result Verdict AllocError) (server : Server) (rows : List Binding) (nonces : List Nonce) (dialogs : List Dialog) (is_full : Bool) (now : ℕ)
    (m : Message) (method : List ℕ)
    (refusal : Option (ℕ × List ℕ)) (lacked : Type 0) → (lacked → refusal ≡ Some (400, [])) → OnOk result lacked
    → IfOk result (λ (v : Verdict). (server : Server) (state : ProxyState) (now : ℕ) (m : Message) (method : List ℕ) (rows : List Binding) (named : Option OpenRequest)
    → Is server rows now named (Definition.checked_verdict server state now m method (Some (400, []))) v)
    → IfOk result (λ (v : Verdict). (state : ProxyState) → Knows state rows nonces dialogs is_full → (named : Option OpenRequest)
    → Is server rows now named (Definition.checked_verdict server state now m method refusal) v)
by_unread (Ok v) server rows nonces dialogs is_full now m method refusal lacked is not h =
    by_refusal (Ok v) server rows nonces dialogs is_full now m method refusal 400 [] (is not) h
by_unread (Err e) server rows nonces dialogs is_full now m method refusal lacked is not h = tt

-- ---- by its method

pub on_ack : (result : Result Verdict AllocError) (server : Server) (rows : List Binding) (nonces : List Nonce) (dialogs : List Dialog) (is_full : Bool) (now : ℕ)
    (m : Message) (short : Bool) (method : List ℕ)
    → bytes_eq method (codes "ACK") ≡ true
    → IfOk result (λ (v : Verdict). (state : ProxyState) → state.dialogs ≡ dialogs → (rows : List Binding) (named : Option OpenRequest)
    → Is server rows now named (Definition.ack_verdict server state now m short) v)
    → IfOk result (λ (v : Verdict). (state : ProxyState) → Knows state rows nonces dialogs is_full → (a : Arrival) (key : TransactionKey) → a.now ≡ now
    → Is server rows now (Definition.found_for_cancel state key a.from) (Definition.new_verdict server state a m short method key) v)
on_ack (Ok v) server rows nonces dialogs is_full now m short method is h =
    λ state knows a key at.
    subst (λ (b : Bool). Is server rows now (Definition.found_for_cancel state key a.from)
    (cond b (Definition.ack_verdict server state a.now m short) (cond (bytes_eq method (codes "CANCEL")) (Definition.cancel_verdict server state a m short key)
    (Definition.checked_verdict server state a.now m method (refusal_of server.config.own m short)))) v) (sym is)
    (subst (λ (t : ℕ). Is server rows now (Definition.found_for_cancel state key a.from) (Definition.ack_verdict server state t m short) v) (sym at)
    (h state knows.dialogs_are rows (Definition.found_for_cancel state key a.from)))
on_ack (Err e) server rows nonces dialogs is_full now m short method is h = tt

pub on_cancel : (result : Result Verdict AllocError) (server : Server) (rows : List Binding) (nonces : List Nonce) (dialogs : List Dialog) (is_full : Bool) (now : ℕ)
    (m : Message) (short : Bool) (method : List ℕ) (own : Own)
    → bytes_eq method (codes "ACK") ≡ false → bytes_eq method (codes "CANCEL") ≡ true → server.config.own ≡ own
    → IfOk result (λ (v : Verdict). (server : Server) (state : ProxyState) (a : Arrival) (key : TransactionKey) (rows : List Binding) (now : ℕ) → server.config.own ≡ own
    → Definition.is_full state ≡ is_full
    → Is server rows now (Definition.found_for_cancel state key a.from) (Definition.cancel_verdict server state a m short key) v)
    → IfOk result (λ (v : Verdict). (state : ProxyState) → Knows state rows nonces dialogs is_full → (a : Arrival) (key : TransactionKey) → a.now ≡ now
    → Is server rows now (Definition.found_for_cancel state key a.from) (Definition.new_verdict server state a m short method key) v)
on_cancel (Ok v) server rows nonces dialogs is_full now m short method own not is own_is h =
    λ state knows a key at.
    subst (λ (b : Bool). Is server rows now (Definition.found_for_cancel state key a.from)
    (cond b (Definition.ack_verdict server state a.now m short) (cond (bytes_eq method (codes "CANCEL")) (Definition.cancel_verdict server state a m short key)
    (Definition.checked_verdict server state a.now m method (refusal_of server.config.own m short)))) v) (sym not)
    (subst (λ (b : Bool). Is server rows now (Definition.found_for_cancel state key a.from)
    (cond b (Definition.cancel_verdict server state a m short key) (Definition.checked_verdict server state a.now m method (refusal_of server.config.own m short))) v)
    (sym is) (h server state a key rows now own_is knows.fullness_is))
on_cancel (Err e) server rows nonces dialogs is_full now m short method own not is own_is h = tt

pub on_other : (result : Result Verdict AllocError) (server : Server) (rows : List Binding) (nonces : List Nonce) (dialogs : List Dialog) (is_full : Bool) (now : ℕ)
    (m : Message) (short : Bool) (method : List ℕ)
    → bytes_eq method (codes "ACK") ≡ false → bytes_eq method (codes "CANCEL") ≡ false
    → IfOk result (λ (v : Verdict). (state : ProxyState) → Knows state rows nonces dialogs is_full → (named : Option OpenRequest)
    → Is server rows now named (Definition.checked_verdict server state now m method (refusal_of server.config.own m short)) v)
    → IfOk result (λ (v : Verdict). (state : ProxyState) → Knows state rows nonces dialogs is_full → (a : Arrival) (key : TransactionKey) → a.now ≡ now
    → Is server rows now (Definition.found_for_cancel state key a.from) (Definition.new_verdict server state a m short method key) v)
on_other (Ok v) server rows nonces dialogs is_full now m short method not_ack not_cancel h =
    λ state knows a key at.
    subst (λ (b : Bool). Is server rows now (Definition.found_for_cancel state key a.from)
    (cond b (Definition.ack_verdict server state a.now m short) (cond (bytes_eq method (codes "CANCEL")) (Definition.cancel_verdict server state a m short key)
    (Definition.checked_verdict server state a.now m method (refusal_of server.config.own m short)))) v) (sym not_ack)
    (subst (λ (b : Bool). Is server rows now (Definition.found_for_cancel state key a.from)
    (cond b (Definition.cancel_verdict server state a m short key) (Definition.checked_verdict server state a.now m method (refusal_of server.config.own m short))) v)
    (sym not_cancel)
    (subst (λ (t : ℕ). Is server rows now (Definition.found_for_cancel state key a.from)
    (Definition.checked_verdict server state t m method (refusal_of server.config.own m short)) v) (sym at)
    (h state knows (Definition.found_for_cancel state key a.from))))
on_other (Err e) server rows nonces dialogs is_full now m short method not_ack not_cancel h = tt

-- ---- ACK

pub ack_passes : (result : Result Verdict AllocError) (server : Server) (dialogs : List Dialog) (now : ℕ) (m : Message) (short : Bool)
    → refusal_of server.config.own m short ≡ None
    → IfOk result (λ (v : Verdict). (state : ProxyState) → state.dialogs ≡ dialogs → (rows : List Binding) (named : Option OpenRequest)
    → Is server rows now named (Definition.within server state now m Definition.AckOn Definition.Drop) v)
    → IfOk result (λ (v : Verdict). (state : ProxyState) → state.dialogs ≡ dialogs → (rows : List Binding) (named : Option OpenRequest)
    → Is server rows now named (Definition.ack_verdict server state now m short) v)
ack_passes (Ok v) server dialogs now m short is h =
    λ state same rows named.
    subst (λ (r : Option (ℕ × List ℕ)). Is server rows now named (cond (is_some r) Definition.Drop
    (Definition.within server state now m Definition.AckOn Definition.Drop)) v) (sym is) (h state same rows named)
ack_passes (Err e) server dialogs now m short is h = tt

pub ack_dropped : (server : Server) (now : ℕ) (m : Message) (short : Bool) (status : ℕ) (items : List ℕ) → refusal_of server.config.own m short ≡ Some (status, items)
    → (state : ProxyState)
    → Definition.ack_verdict server state now m short ≡ Definition.Drop
ack_dropped server now m short status items is state =
    ap (λ (r : Option (ℕ × List ℕ)). cond (is_some r) Definition.Drop (Definition.within server state now m Definition.AckOn Definition.Drop)) is

pub ack_unread : (result : Result Verdict AllocError) (server : Server) (dialogs : List Dialog) (now : ℕ) (m : Message) (short : Bool) (lacked : Type 0)
    → (lacked → refusal_of server.config.own m short ≡ Some (400, [])) → OnOk result lacked → IfOk result (λ (v : Verdict). v ≡ Made.Dropped)
    → IfOk result (λ (v : Verdict). (state : ProxyState) → state.dialogs ≡ dialogs → (rows : List Binding) (named : Option OpenRequest)
    → Is server rows now named (Definition.ack_verdict server state now m short) v)
ack_unread (Ok v) server dialogs now m short lacked is not dropped =
    λ state same rows named.
    subst (λ (w : Verdict). Is server rows now named (Definition.ack_verdict server state now m short) w) (sym dropped)
    (ack_dropped server now m short 400 [] (is not) state)
ack_unread (Err e) server dialogs now m short lacked is not dropped = tt

-- ---- a decision that lets through

pub allowed : (result : Result PolicyOutcome AllocError) (server : Server) (rows : List Binding) (now : ℕ) (m : Message) (method : List ℕ) (core : CoreFields)
    (q : Question)
    (id : ℕ) (decision : Decision)
    → decision ≡ Decision.Allow id
    → IfOk result (λ (o : PolicyOutcome). (state : ProxyState) → state.bindings ≡ rows → IsOutcome rows now q
    (Definition.let_through server state now m method core q id decision) o)
    → IfOk result (λ (o : PolicyOutcome). (state : ProxyState) → state.bindings ≡ rows
    → IsOutcome rows now q (Definition.decided server state now m method core q decision) o)
allowed result server rows now m method core q id decision is h =
    subst (λ (d : Decision). IfOk result (λ (o : PolicyOutcome). (state : ProxyState) → state.bindings ≡ rows
    → IsOutcome rows now q (Definition.decided server state now m method core q d) o)) (sym is)
    (subst (λ (d : Decision). IfOk result (λ (o : PolicyOutcome). (state : ProxyState) → state.bindings ≡ rows
    → IsOutcome rows now q (Definition.let_through server state now m method core q id d) o)) is h)

pub by_hop : (result : Result PolicyOutcome AllocError) (server : Server) (rows : List Binding) (now : ℕ) (m : Message) (method : List ℕ) (core : CoreFields)
    (q : Question)
    (id hop : ℕ) (decision : Decision)
    → decision ≡ Decision.Via id hop
    → IfOk result (λ (o : PolicyOutcome). (state : ProxyState) → state.bindings ≡ rows → IsOutcome rows now q
    (Definition.let_through server state now m method core q id decision) o)
    → IfOk result (λ (o : PolicyOutcome). (state : ProxyState) → state.bindings ≡ rows
    → IsOutcome rows now q (Definition.decided server state now m method core q decision) o)
by_hop result server rows now m method core q id hop decision is h =
    subst (λ (d : Decision). IfOk result (λ (o : PolicyOutcome). (state : ProxyState) → state.bindings ≡ rows
    → IsOutcome rows now q (Definition.decided server state now m method core q d) o)) (sym is)
    (subst (λ (d : Decision). IfOk result (λ (o : PolicyOutcome). (state : ProxyState) → state.bindings ≡ rows
    → IsOutcome rows now q (Definition.let_through server state now m method core q id d) o)) is h)
