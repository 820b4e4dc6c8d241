-- What the draft of an answer to a received request does.
use Rattle.std.specs.Prelude.{◌≡◌, List, None}
use Rattle.sip_auth.specs.Proof.{used}
use Rattle.sip_digest.specs.declared.nonces.Nonce.{Nonce}
use Rattle.sip_message_form.specs.declared.message.Message.{Message}
use Rattle.sip_dialog_updates.specs.state.Arrival.{Arrival}
use Rattle.sip_dialog_updates.specs.state.declared.proxy_state.ProxyState.{ProxyState}
use Rattle.sip_dialog_updates.specs.state.declared.server.Server.{Server}
use Rattle.sip_forwarding.specs.Arrivals.{arrival_of}
use Rattle.sip_forwarding.specs.steps_model.Effect.{Effect}
use Rattle.sip_verdict.specs.verdict_model.declared.question.Question.{Question}
use Rattle.sip_verdict.specs.verdict_model.Verdict.{minute_on}
use Rattle.sip_uas.specs.declared.answer_draft.AnswerDraft.{AnswerDraft}
use Rattle.sip_uas.specs.declared.judged_request.JudgedRequest.{JudgedRequest}
use Rattle.sip_uas.specs.Drafts.{Drafts}

-- the nonces after it: a right credential is used up, whatever was decided (RFC 2617 3.2.2: nonce-count)
abbrev pub after_use : JudgedRequest → List Nonce → List Nonce
after_use r nonces = used nonces r.request.arrival.now r.judged.now.question.proof

-- A draft has an effect of the request, with what becomes of the nonces, where the minute that was judged is that of the ruling on it.
abbrev pub DraftsAnswer : JudgedRequest → (List Nonce → List Nonce) → (Server → Arrival → Message → Question → ProxyState → Effect) → AnswerDraft → Type 0
DraftsAnswer r nonces effect draft = r.judged.now.minute ≡ minute_on r.server.now r.judged.now.question
    → Drafts r.is_full r.request.arrival.now draft nonces None (effect r.server.now (arrival_of r.request.arrival) r.request.request.message r.judged.now.question)
