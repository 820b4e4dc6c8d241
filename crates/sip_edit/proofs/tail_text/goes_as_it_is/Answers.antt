use Rattle.std.proofs.Common.{◌≡◌, false, ap, sym, ◌∙◌}
use Rattle.sip_message_fields.specs.declared.field_name.FieldName.{FieldName}
use Rattle.sip_message_fields.specs.declared.known_names.KnownName.{KnownName}
use Rattle.sip_message_fields.specs.declared.known_names.KnownName.TheVariants as Known
use Rattle.sip_message_fields.specs.FieldName.{is_same_name}
use Rattle.sip_message_fields.specs.KnownName.{field_name_of}
use Rattle.sip_edit.proofs.AsTheyAre.{unknown_goes}
use Rattle.sip_edit.proofs.tail_text.goes_as_it_is.Goals as goal

pub returns-then-not-may_be_known : goal.returns-then-not-may_be_known
returns-then-not-may_be_known c =
    let other : (known : KnownName) → is_same_name c.args.field.now.name (field_name_of known) ≡ false
    = λ known. ap (λ (n : FieldName). is_same_name n (field_name_of known)) (sym c.name-name.ensures) ∙ c.may_be_known.ensures known c.if-not-may_be_known.true in
    unknown_goes c.args.field.now (other Known.Route) (other Known.ProxyAuthorization) (other Known.MaxForwards)
