use Rattle.std.proofs.lemmas.Result.{err_from_is_err_and}
use Rattle.sip_message.proofs.LineSteps.{no_field, not_taken, taken}
use Rattle.sip_message.proofs.content.Content.take_folded.Goals as goal

pub returns-in_err-field : goal.returns-in_err-field
returns-in_err-field c =
    let p = err_from_is_err_and c.from_residual-in_err-field.result c.from_residual-in_err-field.ensures.1 in
    rw (p.1, p.2) (no_field c.args.self.now.length c.args.line c.args.after _ _ c.in_err-field.field-0.0 c.in_ok-whole.ensures c.in_err-field.ensures.field)

pub returns-in_err-take : goal.returns-in_err-take
returns-in_err-take c =
    let p = err_from_is_err_and c.from_residual-in_err-take.result c.from_residual-in_err-take.ensures.1 in
    rw (p.1, p.2) (not_taken c.args.self.now.length c.args.line c.args.after _ _ _ c.in_err-take.field-0.0 c.in_ok-whole.ensures c.in_ok-field.ensures.field
    c.in_err-take.ensures)

pub returns : goal.returns
returns c = taken c.args.self.now c.take.new.self c.args.line c.args.after _ _ _ c.in_ok-whole.ensures c.in_ok-field.ensures.field c.in_ok-field.ensures.cut
    c.in_ok-take.ensures
