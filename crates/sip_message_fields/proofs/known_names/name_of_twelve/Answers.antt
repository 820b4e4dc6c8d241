use Rattle.std.proofs.Common.{refl, sym, ◌∙◌}
use Rattle.sip_message_fields.proofs.Spelled.{twelve}
use Rattle.sip_message_fields.proofs.known_names.name_of_twelve.Goals as goal

pub returns-then-is_spelled : goal.returns-then-is_spelled
returns-then-is_spelled c = sym (twelve c.args.name.now ∙ rw (sym c.is_spelled.ensures ∙ c.if-is_spelled.true) refl)

pub returns-then-is_spelled-2 : goal.returns-then-is_spelled-2
returns-then-is_spelled-2 c = sym (twelve c.args.name.now ∙ rw (
  sym c.is_spelled.ensures ∙ c.if-is_spelled.false,
  sym c.is_spelled-else-is_spelled.ensures
      ∙ c.if-is_spelled-2.true,
) refl)

pub returns-then-is_spelled-3 : goal.returns-then-is_spelled-3
returns-then-is_spelled-3 c = sym (twelve c.args.name.now ∙ rw (
  sym c.is_spelled.ensures ∙ c.if-is_spelled.false,
  sym c.is_spelled-else-is_spelled.ensures
      ∙ c.if-is_spelled-2.false,
  sym c.is_spelled-else-is_spelled-2.ensures ∙ c.if-is_spelled-3.true,
) refl)

pub returns-else-is_spelled-3 : goal.returns-else-is_spelled-3
returns-else-is_spelled-3 c = twelve c.args.name.now ∙ rw (
  sym c.is_spelled.ensures ∙ c.if-is_spelled.false,
  sym c.is_spelled-else-is_spelled.ensures
      ∙ c.if-is_spelled-2.false,
  sym c.is_spelled-else-is_spelled-2.ensures ∙ c.if-is_spelled-3.false,
) refl
