use Rattle.std.proofs.Common.{refl}
use Rattle.std.proofs.lemmas.Result.{err_from_is_err_and}
use Rattle.sip_message.proofs.Standing.{content_is, head_fault, parts_are}
use Rattle.sip_message.proofs.parting.parts_of_datagram.Goals as goal

pub returns-in_err-fields-clause-parts : goal.returns-in_err-fields-clause-parts
returns-in_err-fields-clause-parts c =
    let p = err_from_is_err_and c.from_residual-in_err-fields.result c.from_residual-in_err-fields.ensures.1 in
    rw (p.1, p.2)
    (head_fault c.args.bytes.now c.in-Some.head.now _ c.in_err-fields.field-0.0 (content_is c.args.bytes.now c.without_blank_lines.result.now c.in-Some.line.now
    c.in-Some.head.now _ c.without_blank_lines.ensures.rest c.in-Some.ensures.line c.in_ok-start.ensures)
    c.in_err-fields.ensures.said)

pub returns-clause-parts : goal.returns-clause-parts
returns-clause-parts c =
    let whole = content_is c.args.bytes.now c.without_blank_lines.result.now c.in-Some.line.now c.in-Some.head.now _ c.without_blank_lines.ensures.rest
    c.in-Some.ensures.line c.in_ok-start.ensures in
    rw (whole, c.in_ok-fields.ensures.said, c.body_part.ensures.body, c.is_cut_short.ensures) refl

pub returns-clause-cut : goal.returns-clause-cut
returns-clause-cut c =
    parts_are c.args.bytes c.without_blank_lines.result c.in-Some.line c.in-Some.head c.in_ok-fields.rest c.in_ok-fields.field-0-0 _ c.without_blank_lines.ensures.rest
    c.without_blank_lines.ensures.cut c.in-Some.ensures.line c.in-Some.ensures.cut.1
    c.in_ok-fields.ensures.cut refl c.body_part.ensures.cut
