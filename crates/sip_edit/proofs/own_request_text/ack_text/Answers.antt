use Rattle.std.proofs.Common.{◌≡◌, List, ℕ, ◌∙◌, ap, option_map}
use Rattle.std.specs.Prelude.{codes}
use Rattle.std.specs.Option.{option_to_list}
use Rattle.std.proofs.lemmas.Result.{IfOk-weaker}
use Rattle.sip_message_fields.specs.declared.field.Field.{Field}
use Rattle.sip_message_form.specs.Text.{text_of}
use Rattle.sip_edit.specs.OwnVia.{branch_text, own_via}
use Rattle.sip_edit.specs.OwnRequestText.{beside, IsAckText}
use Rattle.sip_edit.proofs.Beside.{ack_is}
use Rattle.sip_edit.proofs.own_request_text.ack_text.Goals as goal

pub returns : goal.returns
returns c =
    let via : List ℕ = own_via c.args.own.now (branch_text c.args.boot c.args.branch.number c.args.branch.target) in
    IfOk-weaker c.text_beside.result
    (λ (text : List ℕ). text ≡ text_of (beside (codes "ACK") (option_to_list (option_map (λ f. f.now) c.as_ref.result)) c.args.uri.now via c.args.routes c.args.came.now))
    (λ (text : List ℕ). IsAckText (option_map (λ v. v.now) c.args.to) c.args.uri.now via c.args.routes c.args.came.now text)
    (λ text is. ack_is text (option_map (λ v. v.now) c.args.to) c.args.uri.now via c.args.routes c.args.came.now
    (is ∙ ap (λ (w : List Field). text_of (beside (codes "ACK") w c.args.uri.now via c.args.routes c.args.came.now))
    (ap option_to_list c.as_ref.ensures.value ∙ c.to_field-to.ensures)))
    c.text_beside.ensures
