use Rattle.std.proofs.Common.{◌≡◌, IfOk, List, ℕ, refl, ap, subst, ◌∙◌}
use Rattle.sip_message_form.specs.declared.message.Message.{Message}
use Rattle.sip_message_form.specs.Text.{text_of}
use Rattle.sip_edit.specs.declared.branch_id.BranchId.{BranchId}
use Rattle.sip_edit.specs.OwnVia.{branch_text, own_via}
use Rattle.sip_context.proofs.SentPackets.{request_is}
use Rattle.sip_context.proofs.target_packets.request_text.Goals as goal

pub returns : goal.returns
returns c =
    let server = c.args.server.now in
    let via : BranchId → List ℕ = λ id. own_via server.config.own (branch_text server.word id.number id.target) in
    subst (λ (m : Message). IfOk c.text_to.result (λ text. text ≡ text_of m))
    (request_is server c.args.request.now c.args.branch.now c.get-heard.result.now server.config.realm c.args.begins_dialog c.as_slice.result.now
    (via c.branch_id-id.result)
    c.get-heard.ensures refl c.requires (c.as_slice.ensures ∙ c.get-uri.ensures) (ap via c.branch_id-id.ensures))
    c.text_to.ensures
