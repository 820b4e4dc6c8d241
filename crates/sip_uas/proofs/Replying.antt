-- What a final answer does, as it is drafted.
use Rattle.std.proofs.Common.{◌≡◌, ◌∙◌, ℕ, Bool, true, false, cond, List, [], ◌∷◌, Option, Result, Some, None, Ok, Err, IfSome, IfOk, refl, sym, ap, subst, unwrap_or}
use Rattle.std.specs.declared.alloc.AllocError.{AllocError}
use Rattle.sip_forwarding.specs.declared.arrival.Arrival.{Arrival}
use Rattle.sip_forwarding.specs.Arrivals.{arrival_of, arrived}
use Rattle.sip_audit.specs.declared.record.Record.{Record}
use Rattle.sip_verdict.specs.context_model.Opening.{closing}
use Rattle.sip_verdict.specs.context_model.Sending.{answer_packet, made_answer}
use Rattle.sip_event.specs.declared.packet.Packet.{Packet}
use Rattle.sip_message_fields.specs.declared.field.Field.{Field}
use Rattle.sip_message_form.specs.declared.message.Message.{Message}
use Rattle.sip_message_form.specs.Text.{text_of}
use Rattle.sip_uri.specs.declared.addr.Addr.{Addr}
use Rattle.sip_transaction_table.specs.declared.key.TransactionKey.{TransactionKey}
use Rattle.sip_transaction_table.specs.Key.{key_of}
use Rattle.sip_forwarding.specs.steps_model.Effect as Effects
use Rattle.sip_dialog_updates.specs.state.KeptRequest.{KeptRequest}
use Rattle.sip_dialog_updates.specs.state.declared.open_request.OpenRequest.{OpenRequest}
use Rattle.sip_dialog_updates.specs.state.declared.server.Server.{Server}
use Rattle.sip_dialog_updates.specs.state.State.{with_one_more}
use Rattle.model_transactions.specs.Fits.{Fits}
use Rattle.model_transactions.specs.Matching.{NoBranch}
use Rattle.model_transactions.specs.Near.{IsWithin}
use Rattle.sip_uas.specs.declared.answer_draft.AnswerDraft.{AnswerDraft}
use Rattle.sip_uas.specs.Drafts.{with_opened, Drafts, IsOpenable}

-- the draft of an answer, with the request unless there is no room
abbrev pub draft_of : Packet → OpenRequest → List Record → Bool → AnswerDraft
draft_of packet r records full = record { packets = packet ∷ []; records = records; opened = cond full None (Some r); updates = [] }

-- the open requests, with room or without
opens : (r : OpenRequest) (requests : List OpenRequest) (full : Bool) → cond full requests (with_one_more r requests) ≡ with_opened (cond full None (Some r)) requests
opens r requests true = refl
opens r requests false = refl

-- the text of an answer
abbrev pub text_by : Server → Arrival → Message → ℕ → List Field → List ℕ
text_by server a m status extras = text_of (made_answer server a.number m a.from status extras)

reply_does : (server : Server) (a : Arrival) (m : Message) (status : ℕ) (extras : List Field) (records : List Record) (full : Bool)
    → Drafts full a.now (draft_of (answer_packet false a.number m a.from (text_by server a m status extras))
    (closing (arrival_of a) m status (text_by server a m status extras)) records full)
    (λ nonces. nonces) None (Effects.replied server (arrival_of a) m status extras records)
reply_does server a m status extras records full = λ state is.
    let r : OpenRequest = closing (arrival_of a) m status (text_by server a m status extras) in
    record {
      originals_are = refl;
      again_are = refl;
      records_are = refl;
      moment_is = refl;
      next_is = refl;
      requests_are = ap (λ (b : Bool). cond b state.requests (with_one_more r state.requests)) is ∙ opens r state.requests full;
      dialogs_are = refl;
      nonces_are = refl;
      bindings_are = refl;
    }

-- what is drafted of a reply does it
pub replied_does : (result : Result AnswerDraft AllocError) (server : Server) (a : Arrival) (m : Message) (status : ℕ) (extras : List Field) (records : List Record)
    (full : Bool) (packet : Packet) (r : OpenRequest)
    → packet ≡ answer_packet false a.number m a.from (text_by server a m status extras) → r ≡ closing (arrival_of a) m status (text_by server a m status extras)
    → IfOk result (λ draft. draft ≡ draft_of packet r records full)
    → IfOk result (λ draft. Drafts full a.now draft (λ nonces. nonces) None (Effects.replied server (arrival_of a) m status extras records))
replied_does (Ok draft) server a m status extras records full packet r packet_is r_is is =
    let same : draft_of (answer_packet false a.number m a.from (text_by server a m status extras)) (closing (arrival_of a) m status (text_by server a m status extras))
    records full ≡ draft =
    sym (is ∙ ap (λ (p : Packet). draft_of p r records full) packet_is ∙ ap (λ (x : OpenRequest).
    draft_of (answer_packet false a.number m a.from (text_by server a m status extras)) x records full) r_is) in
    subst (λ (d : AnswerDraft). Drafts full a.now d (λ nonces. nonces) None (Effects.replied server (arrival_of a) m status extras records)) same
    (reply_does server a m status extras records full)
replied_does (Err e) server a m status extras records full packet r packet_is r_is is = tt

-- a request that is opened, if it is, has what holds of it
opened_has : (P : OpenRequest → Type 0) (r : OpenRequest) (full : Bool) → P r → IfSome (cond full None (Some r)) P
opened_has P r true h = tt
opened_has P r false h = h

closing_openable : (a : Arrival) (key : TransactionKey) (m : Message) (status : ℕ) (text : List ℕ) → key_of m ≡ Some key → Fits (closing (arrival_of a) m status text)
    → IsWithin a.now (closing (arrival_of a) m status text)
    → IsOpenable a key (closing (arrival_of a) m status text)
closing_openable a key m status text is fits within =
    record {
      fits = fits;
      within = within;
      branched = NoBranch;
      number_is = refl;
      key_is =
          ap (λ (o : Option TransactionKey). unwrap_or o (record { branch = []; host = []; port = 0; method = [] })) is;
    }

-- so what is drafted of a reply can be opened
pub replied_opens : (result : Result AnswerDraft AllocError) (a : Arrival) (key : TransactionKey) (m : Message) (status : ℕ) (text : List ℕ) (records : List Record)
    (full : Bool)
    (packet : Packet) (r : OpenRequest)
    → key_of m ≡ Some key → r ≡ closing (arrival_of a) m status text → IsWithin a.now (closing (arrival_of a) m status text)
    → IfOk result (λ draft. draft ≡ draft_of packet r records full)
    → (Final : Type 0) → (Final → Fits (closing (arrival_of a) m status text))
    → IfOk result (λ draft. Final → IfSome draft.opened (IsOpenable a key))
replied_opens (Ok draft) a key m status text records full packet r is r_is within drafted Final fits = λ final.
    subst (λ (o : Option OpenRequest). IfSome o (IsOpenable a key)) (sym (ap (λ (d : AnswerDraft). d.opened) drafted))
    (opened_has (IsOpenable a key) r full (subst (IsOpenable a key) (sym r_is) (closing_openable a key m status text is (fits final) within)))
replied_opens (Err e) a key m status text records full packet r is r_is within drafted Final fits = tt

-- ---- as it is made for the request that is kept, which came from where its datagram did

pub packet_from : (server : Server) (a : Arrival) (k : KeptRequest) (status : ℕ) (extras : List Field) (packet : Packet) → k.source ≡ a.from
    → packet ≡ answer_packet false a.number k.message k.source (text_of (made_answer server a.number k.message k.source status extras))
    → packet ≡ answer_packet false a.number k.message a.from (text_by server a k.message status extras)
packet_from server a k status extras packet same is =
    is ∙ ap (λ (from : Addr). answer_packet false a.number k.message from (text_of (made_answer server a.number k.message from status extras))) same

pub closing_from : (server : Server) (a : Arrival) (k : KeptRequest) (status : ℕ) (extras : List Field) (r : OpenRequest) → k.source ≡ a.from
    → r ≡ closing (arrived a k) k.message status (text_of (made_answer server a.number k.message k.source status extras))
    → r ≡ closing (arrival_of a) k.message status (text_by server a k.message status extras)
closing_from server a k status extras r same is =
    is ∙ ap (λ (from : Addr). closing (record (arrival_of a) { from = from }) k.message status (text_of (made_answer server a.number k.message from status extras)))
    same
