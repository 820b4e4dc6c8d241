use Rattle.std.proofs.Common.{◌≡◌, List, ℕ, ap, ◌∙◌}
use Rattle.std.proofs.lemmas.Result.{IfOk-weaker}
use Rattle.sip_message_form.specs.Text.{text_of}
use Rattle.sip_edit.specs.declared.branch_id.BranchId.{BranchId}
use Rattle.sip_edit.specs.OwnVia.{branch_text, own_via}
use Rattle.sip_edit.specs.OwnRequests.{cancel_of}
use Rattle.sip_edit.specs.OwnRequestText.{IsCancelText}
use Rattle.sip_context_branches.specs.context_model.Sending.{request_of}
use Rattle.sip_context.proofs.SentPackets.{cancel_is}
use Rattle.sip_context.proofs.target_packets.cancel_bytes.Goals as goal

pub returns : goal.returns
returns c =
    let server = c.args.server.now in
    let via : BranchId → List ℕ = λ id. own_via server.config.own (branch_text server.word id.number id.target) in
    IfOk-weaker c.cancel_text.result
    (λ (text : List ℕ). IsCancelText c.as_slice.result.now (via c.branch_id-id.result) c.in_ok-routes.routes c.message.result.now text)
    (λ (text : List ℕ). text ≡ text_of (cancel_of (request_of c.args.server.now c.args.request.now c.args.branch.now)))
    (λ text is. cancel_is c.args.server.now c.args.request.now c.args.branch.now c.get-heard.result.now c.message.result.now c.in_ok-routes.routes c.as_slice.result.now
    (via c.branch_id-id.result) text
    c.get-heard.ensures c.message.ensures c.in_ok-routes.ensures (c.as_slice.ensures ∙ c.get-uri.ensures) (ap via c.branch_id-id.ensures) is)
    c.cancel_text.ensures
