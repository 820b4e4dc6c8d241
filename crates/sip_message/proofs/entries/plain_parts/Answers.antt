use Rattle.std.proofs.Common.{sym, ◌∙◌, ap, Some}
use Rattle.sip_message.specs.Seen.{seen_field}
use Rattle.sip_message.proofs.FieldLaws.{named_field}
use Rattle.sip_message.proofs.TextRuns.{value_text}
use Rattle.sip_message.proofs.entries.plain_parts.Goals as goal

pub returns : goal.returns
returns c =
    ap (λ w. Some (seen_field c.in-Some.name.now w)) c.trimmed_slice.ensures.value
    ∙ sym (named_field c.args.line.now c.in-Some.name.now c.in-Some.value.now c.in-Some.ensures.halves
    (value_text c.args.line.now c.in-Some.name.now c.in-Some.value.now c.in-Some.ensures.halves c.requires.text))
