use Rattle.std.proofs.Common.{sym, ◌∙◌}
use Rattle.std.proofs.lemmas.Result.{err_from_is_err_and}
use Rattle.sip_message.proofs.LineSteps.{fault_here}
use Rattle.sip_message.proofs.HeadFills.{line_taken}
use Rattle.sip_message.proofs.filling.Filling.take_line.Goals as goal

pub returns : goal.returns
returns c = line_taken c.args.self.now c.take_parts.new.self c.args.next.line c.args.next.after _ (sym c.is_fold_line.ensures ∙ c.if-is_fold_line.false)
    (sym c.in-Some.ensures) c.in_ok-take_parts.ensures

pub returns-in_err-take_parts : goal.returns-in_err-take_parts
returns-in_err-take_parts c =
    let p = err_from_is_err_and c.from_residual.result c.from_residual.ensures.1 in
    rw (p.1, p.2) (fault_here c.args.self.now.length c.args.next.line c.args.next.after _ c.in_err-take_parts.field-0.0
    (sym c.is_fold_line.ensures ∙ c.if-is_fold_line.false) (sym c.in-Some.ensures) c.in_err-take_parts.ensures)
