-- What was drafted of a request that is answered here, as the step of the definitions that does it.
use Rattle.std.proofs.Common.{◌≡◌, ◌∙◌, ℕ, ◌+◌, Bool, true, false, cond, List, [], ◌∷◌, ◌++◌, length, nat_le, position, Option, Result, Some, None, Ok, Err, IfOk, IfSome}
use Rattle.std.proofs.Common.{OnOk, refl, sym, ap, subst, arith, length-append}
use Rattle.std.specs.declared.alloc.AllocError.{AllocError}
use Rattle.sip_event.specs.declared.event.StepOut.{StepOut}
use Rattle.sip_proxy.specs.Proxy.{Becomes, with_bindings, with_nonces}
use Rattle.sip_audit.specs.declared.record.Record.{Record}
use Rattle.sip_proxy.specs.verdict.context_model.Opening.{closing}
use Rattle.sip_dialog.specs.Sameness.{SameDialogs}
use Rattle.sip_dialog.specs.declared.dialog.Dialog.{Dialog}
use Rattle.sip_message_fields.specs.declared.field.Field.{Field}
use Rattle.sip_message_form.specs.declared.message.Message.{Message}
use Rattle.sip_transaction_table.specs.declared.key.TransactionKey.{TransactionKey}
use Rattle.sip_location.specs.Binding.{live}
use Rattle.sip_location.specs.Locations.{Planned}
use Rattle.sip_location.specs.Sameness.{SameBindings}
use Rattle.sip_location.specs.declared.binding.Binding.{Binding}
use Rattle.sip_proxy.specs.steps_model.Effect.{Effect, counted, replied}
use Rattle.sip_proxy.specs.steps_model.Step.{Does, originals, retransmissions}
use Rattle.sip_digest.specs.declared.nonces.Nonce.{Nonce}
use Rattle.sip_uas.specs.forwarding.Arrivals.{arrival_of}
use Rattle.sip_uas.specs.forwarding.declared.arrival.Arrival.{Arrival}
use Rattle.sip_dialog_updates.specs.state.State.{has_key, with_one_more}
use Rattle.sip_dialog_updates.specs.state.declared.open_request.OpenRequest.{OpenRequest}
use Rattle.sip_dialog_updates.specs.state.declared.proxy_state.ProxyState.{ProxyState}
use Rattle.sip_dialog_updates.specs.state.declared.server.Server.{Server}
use Rattle.sip_proxy.specs.verdict.verdict_model.Verdict.{is_full}
use Rattle.sip_uas.specs.Drafts as Drafts
use Rattle.sip_uas.specs.Drafts.{IsOpenable, with_opened}
use Rattle.sip_uas.specs.declared.answer_draft.AnswerDraft.{AnswerDraft}
use Rattle.sip_engine_request.specs.Admitting.{IsOpenableIn}
use Rattle.sip_uas.proofs.Replying.{text_by}

-- ---- answers

-- the open requests with one more, while there is room
abbrev pub with_room : OpenRequest → List OpenRequest → List OpenRequest
with_room r requests = cond (nat_le 1024 (length requests)) requests (with_one_more r requests)

-- over these open requests and dialogs an effect is that of an answer: nothing goes again, a request is opened where there is room, and the dialogs stay
pub record Replies (requests : List OpenRequest) (dialogs : List Dialog) (effect : Effect) : Type 0 where
  pub request : OpenRequest
  pub once : originals effect.originals ≡ effect.originals
  pub none_again : retransmissions effect.originals ≡ []
  pub requests_are : effect.state.requests ≡ with_room request requests
  pub dialogs_are : effect.state.dialogs ≡ dialogs

pub reply_replies : (server : Server) (a : Arrival) (m : Message) (status : ℕ) (extras : List Field) (records : List Record) (state : ProxyState)
    → Replies state.requests state.dialogs (replied server (arrival_of a) m status extras records state)
reply_replies server a m status extras records state =
    record { request = closing (arrival_of a) m status (text_by server a m status extras); once = refl; none_again = refl; requests_are = refl; dialogs_are = refl }

-- ---- what is opened

no_longer : (r : OpenRequest) (requests : List OpenRequest) → requests ≡ requests ++ r ∷ [] → ⊥
no_longer r requests e =
    let longer : length requests ≡ length (requests ++ r ∷ []) = ap (λ (rs : List OpenRequest). length rs) e in
    let by : length (requests ++ r ∷ []) ≡ length requests + 1 = length-append requests (r ∷ []) in
    omega (arith, longer, by)

-- a request is opened only where there is room
room_by : (t : Bool) (o : Option OpenRequest) (r : OpenRequest) (requests : List OpenRequest) → cond t requests (with_one_more r requests) ≡ with_opened o requests
    → IfSome o (λ x. t ≡ false)
room_by true None r requests e = tt
room_by false None r requests e = tt
room_by true (Some x) r requests e = absurd (no_longer x requests e)
room_by false (Some x) r requests e = refl

openable : (state : ProxyState) (a : Arrival) (key : TransactionKey) (o : Option OpenRequest) → position (has_key key) state.requests ≡ None
    → IfSome o (λ x. is_full state ≡ false)
    → IfSome o (IsOpenable a key)
    → IfSome o (IsOpenableIn state a)
openable state a key None alone space can = tt
openable state a key (Some r) alone space can =
    record {
      space = space;
      alone = subst (λ (k : TransactionKey). position (has_key k) state.requests ≡ None) (sym can.key_is) alone;
      number_is = can.number_is;
      fits = can.fits;
      within = can.within;
      branched = can.branched;
    }

-- what was drafted can be opened in the state in which its request comes
pub opened_in : (a : Arrival) (key : TransactionKey) (old : ProxyState) (draft : AnswerDraft) (nonces : List Nonce) (plan : Option Planned) (effect : Effect)
    → position (has_key key) old.requests ≡ None
    → Drafts.Does a.now draft nonces plan (counted (arrival_of a) old) effect → Replies old.requests old.dialogs effect → IfSome draft.opened (IsOpenable a key)
    → IfSome draft.opened (IsOpenableIn old a)
opened_in a key old draft nonces plan effect alone does is can =
    openable old a key draft.opened alone (room_by (is_full old) draft.opened is.request old.requests (sym is.requests_are ∙ does.requests_are)) can

-- ---- the step

-- what was drafted is done, once the request is opened, and then nonces and bindings are as they are to be
pub step_done : (server : Server) (a : Arrival) (old mid new : ProxyState) (draft : AnswerDraft) (nonces : List Nonce) (plan : Option Planned) (effect : Effect)
    (out : StepOut)
    → Drafts.Does a.now draft nonces plan (counted (arrival_of a) old) effect → Replies old.requests old.dialogs effect
    → out ≡ record { at = a.now; packets = draft.packets; records = draft.records }
    → Becomes a.now (with_opened draft.opened old.requests) [] (counted (arrival_of a) old) mid
    → new ≡ with_nonces nonces (with_bindings new.bindings mid) → SameBindings a.now new.bindings effect.state.bindings
    → Does server old a.now effect out new
step_done server a old mid new draft nonces plan effect out does is put became left bound =
    let at : new.moment ≡ a.now = ap (λ (s : ProxyState). s.moment) left ∙ became.moment_is in
    let known : SameDialogs a.now new.dialogs old.dialogs =
    subst (λ (dialogs : List Dialog). SameDialogs a.now dialogs old.dialogs) (sym (ap (λ (s : ProxyState). s.dialogs) left)) became.dialogs_are in
    record {
      at_moment = ap (λ (o : StepOut). o.at) put;
      sends = ap (λ (o : StepOut). originals o.packets) put ∙ ap originals (sym does.originals_are) ∙ is.once;
      repeats = ap (λ (o : StepOut). retransmissions o.packets) put ∙ ap retransmissions (sym does.originals_are) ∙ is.none_again ∙ sym does.again_are;
      records = ap (λ (o : StepOut). o.records) put ∙ sym does.records_are;
      leaves =
          record {
            moment = at ∙ sym does.moment_is;
            next = ap (λ (s : ProxyState). s.next) left ∙ became.next_is ∙ sym does.next_is;
            bindings = subst (λ (n : ℕ). SameBindings n new.bindings effect.state.bindings) (sym at) bound;
            nonces = ap (λ (s : ProxyState). s.nonces) left ∙ sym does.nonces_are;
            requests = ap (λ (s : ProxyState). s.requests) left ∙ became.requests_are ∙ sym does.requests_are;
            dialogs = subst (λ (n : ℕ). SameDialogs n new.dialogs effect.state.dialogs) (sym at) (subst (SameDialogs a.now new.dialogs) (sym is.dialogs_are) known);
          };
    }

-- the same where nonces and bindings stay
pub answer_done : (server : Server) (a : Arrival) (old new : ProxyState) (draft : AnswerDraft) (effect : Effect) (result : Result StepOut AllocError)
    → Drafts.Does a.now draft old.nonces None (counted (arrival_of a) old) effect → Replies old.requests old.dialogs effect
    → IfOk result (λ out. out ≡ record { at = a.now; packets = draft.packets; records = draft.records })
    → OnOk result (Becomes a.now (with_opened draft.opened old.requests) [] (counted (arrival_of a) old) new)
    → IfOk result (λ out. Does server old a.now effect out new)
answer_done server a old new draft effect (Ok out) does is put became =
    step_done server a old new new draft old.nonces None effect out does is put became (ap (λ (nonces : List Nonce). with_nonces nonces new) became.nonces_are)
    (λ aor later late. ap (λ (rows : List Binding). live aor later rows) (became.bindings_are ∙ sym does.bindings_are))
answer_done server a old new draft effect (Err e) does is put became = tt
