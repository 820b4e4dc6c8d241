use Rattle.std.proofs.Common.{refl, sym, ◌∙◌}
use Rattle.sip_message_fields.proofs.Spelled.{three}
use Rattle.sip_message_fields.proofs.known_names.name_of_three.Goals as goal

pub returns-then-is_spelled : goal.returns-then-is_spelled
returns-then-is_spelled c = sym (three c.args.name.now ∙ rw (sym c.is_spelled.ensures ∙ c.if-is_spelled.true) refl)

pub returns-else-is_spelled : goal.returns-else-is_spelled
returns-else-is_spelled c = three c.args.name.now ∙ rw (sym c.is_spelled.ensures ∙ c.if-is_spelled.false) refl
