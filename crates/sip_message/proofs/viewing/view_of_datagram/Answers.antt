use Rattle.std.proofs.Common.{Result, subst}
use Rattle.std.proofs.lemmas.Result.{err_from_is_err_and}
use Rattle.sip_message_form.specs.declared.message.Message.{Message}
use Rattle.sip_message_form.specs.declared.error.ReadError.{ReadError}
use Rattle.sip_message.specs.Reading.{Gives}
use Rattle.sip_message.proofs.ViewLaws.{view_is, view_fault}
use Rattle.sip_message.proofs.viewing.view_of_datagram.Goals as goal

pub returns-in_err-filling : goal.returns-in_err-filling
returns-in_err-filling c =
    let p = err_from_is_err_and c.from_residual-in_err-filling.result c.from_residual-in_err-filling.ensures.1 in
    rw (p.1, p.2)
    (view_fault c.args.bytes.now c.without_blank_lines.result.now c.in-Some.line.now c.in-Some.head.now _ c.in_err-filling.field-0.0 c.without_blank_lines.ensures.rest
    c.in-Some.ensures.line c.in_ok-start.ensures c.in_err-filling.ensures.said)

pub returns : goal.returns
returns c =
    subst (λ (r : Result Message ReadError). Gives (λ (m : Message). m) c.within_limits.result r)
    (view_is c.args.bytes.now c.without_blank_lines.result.now c.in-Some.line.now c.in-Some.head.now _ _ c.is_cut_short.result c.of_lines-view.result
    c.body_part.result.now c.without_blank_lines.ensures.rest c.in-Some.ensures.line
    c.in_ok-start.ensures c.in_ok-filling.ensures.said c.is_cut_short.ensures c.body_part.ensures.body c.of_lines-view.ensures) c.within_limits.ensures
