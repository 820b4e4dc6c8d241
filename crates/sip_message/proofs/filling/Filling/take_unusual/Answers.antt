use Rattle.std.proofs.Common.{sym, ◌∙◌, refl}
use Rattle.std.proofs.lemmas.Result.{err_from_is_err_and}
use Rattle.sip_message.proofs.LineSteps.{fault_here}
use Rattle.sip_message.proofs.FieldLaws.{named_field}
use Rattle.sip_message.proofs.HeadFills.{line_taken, field_same}
use Rattle.sip_message.proofs.filling.Filling.take_unusual.Goals as goal

pub returns : goal.returns
returns c =
    line_taken c.args.self.now c.take_seen.new.self c.args.next.line c.args.next.after _ c.requires.no_fold
    (named_field c.args.next.line.now c.args.next.name.now c.args.next.value.now c.requires.named c.requires.text
    ∙ field_same _ _ _ _ refl (sym c.trimmed_slice.ensures.value)) c.in_ok-take_seen.ensures

pub returns-in_err-take_seen : goal.returns-in_err-take_seen
returns-in_err-take_seen c =
    let p = err_from_is_err_and c.from_residual.result c.from_residual.ensures.1 in
    rw (p.1, p.2)
    (fault_here c.args.self.now.length c.args.next.line c.args.next.after _ c.in_err-take_seen.field-0.0 c.requires.no_fold
    (named_field c.args.next.line.now c.args.next.name.now c.args.next.value.now c.requires.named c.requires.text
    ∙ field_same _ _ _ _ refl (sym c.trimmed_slice.ensures.value)) c.in_err-take_seen.ensures)
