use Rattle.std.proofs.Common.{refl, sym, ◌∙◌}
use Rattle.std.proofs.lemmas.Result.{err_from_is_err_and}
use Rattle.sip_message.proofs.LineSteps.{no_field, not_taken}
use Rattle.sip_message.proofs.HeadFills.{folded_taken, field_same}
use Rattle.sip_message.proofs.filling.Filling.take_folded.Goals as goal

pub returns-in_err-name : goal.returns-in_err-name
returns-in_err-name c =
    let p = err_from_is_err_and c.from_residual-in_err-name.result c.from_residual-in_err-name.ensures.1 in
    rw (p.1, p.2) (no_field c.args.self.now.length c.args.line c.args.after _ _ c.in_err-name.field-0.0 c.in_ok-whole.ensures c.in_err-name.ensures.field)

pub returns-in_err-take_any : goal.returns-in_err-take_any
returns-in_err-take_any c =
    let p = err_from_is_err_and c.from_residual-in_err-take_any.result c.from_residual-in_err-take_any.ensures.1 in
    rw (p.1, p.2)
    (not_taken c.args.self.now.length c.args.line c.args.after _ _ _ c.in_err-take_any.field-0.0 c.in_ok-whole.ensures
    (c.in_ok-name.ensures.field ∙ field_same _ _ _ _ refl (sym c.of_piece.ensures)) c.in_err-take_any.ensures)

pub returns : goal.returns
returns c =
    folded_taken c.args.self.now c.take_any.new.self c.args.line c.args.after _ _ _ c.in_ok-whole.ensures
    (c.in_ok-name.ensures.field ∙ field_same _ _ _ _ refl (sym c.of_piece.ensures)) c.in_ok-take_any.ensures
