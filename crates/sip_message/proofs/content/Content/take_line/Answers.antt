use Rattle.std.proofs.Common.{sym, ◌∙◌, inr, ap, Some}
use Rattle.std.proofs.lemmas.Result.{err_from_is_err_and}
use Rattle.sip_message_fields.specs.declared.field_name.FieldName.{FieldName}
use Rattle.sip_message.proofs.LineSteps.{bad_here, fault_here, taken_here, part_cut}
use Rattle.sip_message.proofs.content.Content.take_line.Goals as goal

pub returns-in_default : goal.returns-in_default
returns-in_default c = inr (bad_here c.args.self.now.length c.args.line c.args.after (sym c.is_fold_line.ensures ∙ c.if-is_fold_line.false)
    (sym c.in_default.ensures.field))

pub returns : goal.returns
returns c =
    taken_here c.args.self.now c.take_part.new.self c.args.line c.args.after _ (sym c.is_fold_line.ensures ∙ c.if-is_fold_line.false)
    (sym c.in-Some.ensures.field ∙ ap (λ (n : FieldName). Some (record { name = n; value = c.in-Some.value.now })) (sym c.of_part.ensures))
    (part_cut c.args.line c.in-Some.value c.in-Some.ensures.cut) c.in_ok-take_part.ensures

pub returns-in_err-take_part : goal.returns-in_err-take_part
returns-in_err-take_part c =
    let p = err_from_is_err_and c.from_residual.result c.from_residual.ensures.1 in
    rw (p.1, p.2)
    (fault_here c.args.self.now.length c.args.line c.args.after _ c.in_err-take_part.field-0.0 (sym c.is_fold_line.ensures ∙ c.if-is_fold_line.false)
    (sym c.in-Some.ensures.field ∙ ap (λ (n : FieldName). Some (record { name = n; value = c.in-Some.value.now })) (sym c.of_part.ensures)) c.in_err-take_part.ensures)
