use Rattle.std.proofs.Common.{◌≡◌, refl, subst, rules}
use Rattle.sip_message_fields.specs.declared.field_name.FieldName.{FieldName}
use Rattle.sip_message_fields.specs.FieldName.{spelling}
use Rattle.sip_message_fields.specs.KnownName.{name_seen}
use Rattle.sip_message_fields.proofs.Keeping.{line_is}
use Rattle.sip_message_fields.proofs.lines.line_at.Goals as goal

pub returns : goal.returns
returns c =
    let name : name_seen c.known.result (spelling c.args.field.now.name) ≡ c.args.field.now.name
    = subst (λ (w : FieldName). name_seen c.known.result (spelling w) ≡ w) c.name-name.ensures c.known.ensures in
    line_is c.args.start c.args.field.now _ c.in_ok-end.end name refl (search rules) (search rules) (search rules) (search rules)
