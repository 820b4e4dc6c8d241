use Rattle.std.proofs.Common.{sym, ◌∙◌, refl}
use Rattle.std.proofs.lemmas.Result.{err_from_is_err_and}
use Rattle.sip_message.proofs.LineSteps.{fault_here}
use Rattle.sip_message.proofs.FieldLaws.{named_field}
use Rattle.sip_message.proofs.NamedLines.{field_line}
use Rattle.sip_message.proofs.HeadFills.{line_taken, field_same}
use Rattle.sip_message.proofs.StandingLines.{taken_as}
use Rattle.sip_message.proofs.filling.Filling.take_named.Goals as goal

pub take_field-requires-clause-line : goal.take_field-requires-clause-line
take_field-requires-clause-line c =
    field_line c.args.next.text.now c.args.next.line.now c.args.next.name.now c.args.next.value.now c.in-Some.value.now _ c.requires.named c.requires.whole
    c.in-Some.ensures.space c.of_written-name.ensures.name
    (sym c.of_written-name.ensures.full ∙ c.if-not-is_full.false)

pub returns-clause-filled : goal.returns-clause-filled
returns-clause-filled c =
    line_taken c.args.self.now c.take_field.new.self c.args.next.line c.args.next.after _ (sym c.is_fold_line.ensures ∙ c.if-is_fold_line.false)
    (named_field c.args.next.line.now c.args.next.name.now c.args.next.value.now c.requires.named c.requires.text
    ∙ field_same _ _ _ _ (sym c.of_written-name.ensures.name) (sym c.in-Some.ensures.value)) c.in_ok-stands.ensures.filled

pub returns-clause-stands : goal.returns-clause-stands
returns-clause-stands c = taken_as c.in_ok-stands.stands c.args.next.text.now c.args.next.after.now c.args.self.now.fields c.take_field.new.self.fields
    c.in_ok-stands.ensures.stands

pub returns-in_err-stands-clause-filled : goal.returns-in_err-stands-clause-filled
returns-in_err-stands-clause-filled c =
    let p = err_from_is_err_and c.from_residual-in_err-stands.result c.from_residual-in_err-stands.ensures.1 in
    rw (p.1, p.2)
    (fault_here c.args.self.now.length c.args.next.line c.args.next.after _ c.in_err-stands.field-0.0 (sym c.is_fold_line.ensures ∙ c.if-is_fold_line.false)
    (named_field c.args.next.line.now c.args.next.name.now c.args.next.value.now c.requires.named c.requires.text
    ∙ field_same _ _ _ _ (sym c.of_written-name.ensures.name) (sym c.in-Some.ensures.value)) c.in_err-stands.ensures.filled)

pub returns-then-not-is_one_field-clause-filled : goal.returns-then-not-is_one_field-clause-filled
returns-then-not-is_one_field-clause-filled c =
    rw c.apart-then-not-is_one_field.ensures
    (line_taken c.args.self.now c.take_parts.new.self c.args.next.line c.args.next.after _ (sym c.is_fold_line.ensures ∙ c.if-is_fold_line.false)
    (named_field c.args.next.line.now c.args.next.name.now c.args.next.value.now c.requires.named c.requires.text ∙ field_same _ _ _ _ refl (sym c.in-Some.ensures.value))
    c.in_ok-take_parts.ensures)

pub returns-in_err-take_parts-clause-filled : goal.returns-in_err-take_parts-clause-filled
returns-in_err-take_parts-clause-filled c =
    let p = err_from_is_err_and c.from_residual-in_err-take_parts.result c.from_residual-in_err-take_parts.ensures.1 in
    rw (p.1, p.2)
    (fault_here c.args.self.now.length c.args.next.line c.args.next.after _ c.in_err-take_parts.field-0.0 (sym c.is_fold_line.ensures ∙ c.if-is_fold_line.false)
    (named_field c.args.next.line.now c.args.next.name.now c.args.next.value.now c.requires.named c.requires.text ∙ field_same _ _ _ _ refl (sym c.in-Some.ensures.value))
    c.in_err-take_parts.ensures)

pub returns-then-not-is_full-clause-filled : goal.returns-then-not-is_full-clause-filled
returns-then-not-is_full-clause-filled c =
    rw c.apart-then-not-is_full.ensures
    (line_taken c.args.self.now c.take_seen.new.self c.args.next.line c.args.next.after _ (sym c.is_fold_line.ensures ∙ c.if-is_fold_line.false)
    (named_field c.args.next.line.now c.args.next.name.now c.args.next.value.now c.requires.named c.requires.text ∙ field_same _ _ _ _ refl (sym c.in-Some.ensures.value))
    c.in_ok-take_seen.ensures)

pub returns-in_err-take_seen-clause-filled : goal.returns-in_err-take_seen-clause-filled
returns-in_err-take_seen-clause-filled c =
    let p = err_from_is_err_and c.from_residual-in_err-take_seen.result c.from_residual-in_err-take_seen.ensures.1 in
    rw (p.1, p.2)
    (fault_here c.args.self.now.length c.args.next.line c.args.next.after _ c.in_err-take_seen.field-0.0 (sym c.is_fold_line.ensures ∙ c.if-is_fold_line.false)
    (named_field c.args.next.line.now c.args.next.name.now c.args.next.value.now c.requires.named c.requires.text ∙ field_same _ _ _ _ refl (sym c.in-Some.ensures.value))
    c.in_err-take_seen.ensures)
