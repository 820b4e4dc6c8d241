use Rattle.std.proofs.Common.{ap, drop, ◌∙◌, sym}
use Rattle.sip_message.proofs.UsualStarts.{request_line}
use Rattle.sip_message.proofs.start_line.plain_request.Goals as goal

pub returns : goal.returns
returns c =
    request_line c.args.line.now c.split_at.result.0.now c.split_at-2.result.1.now c.split_at-3.result.0.now c.split_at-3.result.1.now c.of_part.result
    c.in_ok-name_end.field-0 c.visible_length.result
    c.in_ok-name_end.ensures.within.0 c.in_ok-name_end.ensures.within.1 c.in_ok-name_end.ensures.token c.in_ok-name_end.ensures.mark c.split_at.ensures.front
    (c.split_at-2.ensures.back ∙ ap (drop 1) c.split_at.ensures.back)
    c.visible_length.ensures.visible c.split_at-3.ensures.front (sym c.is_empty.ensures ∙ c.if-is_empty.false) c.split_at-3.ensures.back
    (c.same_bytes.ensures.equal.0 c.if-not-same_bytes.false) (c.of_part.ensures ∙ c.split_at-4.ensures.back)
