use Rattle.std.proofs.Common.{sym, ◌∙◌, ap, Some}
use Rattle.sip_message.specs.Seen.{seen_field}
use Rattle.sip_message.proofs.FieldLaws.{named_field, named_bad, named_front}
use Rattle.sip_message.proofs.entries.parts_of_line.Goals as goal

pub returns-then-not-is_text_value-clause-field : goal.returns-then-not-is_text_value-clause-field
returns-then-not-is_text_value-clause-field c = sym (named_bad c.args.line.now c.in-Some.name.now c.in-Some.value.now c.in-Some.ensures.halves
    (sym c.is_text_value.ensures ∙ c.if-not-is_text_value.true))

pub returns-clause-field : goal.returns-clause-field
returns-clause-field c =
    ap (λ w. Some (seen_field c.in-Some.name.now w)) c.trimmed_slice.ensures.value ∙ sym
    (named_field c.args.line.now c.in-Some.name.now c.in-Some.value.now c.in-Some.ensures.halves (sym c.is_text_value.ensures ∙ c.if-not-is_text_value.false))

pub returns-clause-name : goal.returns-clause-name
returns-clause-name c = (c.in-Some.ensures.halves.is_token, named_front c.args.line.now c.in-Some.name.now c.in-Some.value.now c.in-Some.ensures.halves)
