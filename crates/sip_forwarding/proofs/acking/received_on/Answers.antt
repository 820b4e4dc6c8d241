use Rattle.std.proofs.Common.{◌≡◌, IfOk, ℕ, List, ◌∙◌, ap, subst, false}
use Rattle.sip_message_fields.specs.declared.field.Field.{Field}
use Rattle.sip_message_fields.specs.declared.field_name.FieldName.TheVariants as Name
use Rattle.sip_message_fields.specs.Values.{with_first}
use Rattle.sip_message_form.specs.declared.message.Message.{Message}
use Rattle.sip_message_form.specs.Text.{text_of}
use Rattle.sip_edit.specs.OwnVia.{branch_text, own_via}
use Rattle.sip_edit.specs.Onward.{onward_base, to_target}
use Rattle.sip_edit.specs.ReceivedRequest.{received}
use Rattle.sip_forwarding.proofs.acking.received_on.Goals as goal

pub returns : goal.returns
returns c =
    let own = c.args.server.now.config.own in
    let request = c.args.request.now in
    let uri = c.args.uri.now in
    let via : List ℕ = own_via own (branch_text c.args.server.now.word c.args.arrival.number 1) in
    subst (λ (m : Message). IfOk c.text_onward.result (λ text. text ≡ text_of m)) (
    ap (λ (w : List Field). to_target uri via (onward_base own c.as_slice.result.now false (record request { fields = w })))
    (ap (λ (w : List ℕ). with_first Name.Via w request.fields) c.as_slice-2.ensures ∙ c.in_ok-via.ensures)
    ∙ ap (λ (realm : List ℕ). to_target uri via (onward_base own realm false (received request c.args.arrival.from))) c.as_slice.ensures
    ) c.text_onward.ensures
