use Rattle.std.proofs.Common.{refl, sym, ◌∙◌}
use Rattle.sip_message_fields.specs.Spellings.{name_of_length}
use Rattle.sip_message_fields.proofs.known_names.name_of_two.Goals as goal

pub returns-then-is_spelled : goal.returns-then-is_spelled
unfolding name_of_length
returns-then-is_spelled c = rw (sym c.is_spelled.ensures ∙ c.if-is_spelled.true) refl

pub returns-else-is_spelled : goal.returns-else-is_spelled
unfolding name_of_length
returns-else-is_spelled c = rw (sym c.is_spelled.ensures ∙ c.if-is_spelled.false) refl
