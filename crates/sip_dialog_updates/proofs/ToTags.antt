-- The tag of the one To of some fields, by a list of them.
use Rattle.std.proofs.Common.{◌≡◌, ℕ, ◌<◌, ◌≤◌, List, Option, Some, None, ap, sym, ◌∙◌}
use Rattle.std.specs.Prelude.{count_by}
use Rattle.std.specs.Option.{option_and_then}
use Rattle.std.specs.Result.{result_ok}
use Rattle.sip_message_fields.specs.FieldName.{is_same_name}
use Rattle.sip_message_fields.specs.declared.field_name.FieldName.TheVariants as Name
use Rattle.sip_message_fields.specs.declared.field.Field.{Field}
use Rattle.sip_message_fields.specs.Values.{first_value}
use Rattle.sip_header.specs.declared.name_addr.NameAddr.{NameAddr}
use Rattle.sip_header.specs.NameAddr.{name_addr_of}
use Rattle.sip_header.specs.CoreFields.{name_addr_in}
use Rattle.sip_header.specs.Parameters.{tag_of}
use Rattle.sip_dialog_updates.proofs.OneTo

-- the tag of an address
abbrev tag_in : Option NameAddr → Option (List ℕ)
tag_in to = option_and_then (λ (to : NameAddr). tag_of to.parameters) to

pub none_there : (list fields : List Field) → list ≡ fields → None ≡ first_value Name.To list
    → None ≡ option_and_then (λ (to : NameAddr). tag_of to.parameters) (result_ok (name_addr_in Name.To fields))
none_there list fields same e = sym (ap tag_in (OneTo.none_there Name.To list fields same e))

pub several_there : (list fields : List Field) → list ≡ fields → 1 < count_by (λ field. is_same_name field.name Name.To) list
    → None ≡ option_and_then (λ (to : NameAddr). tag_of to.parameters) (result_ok (name_addr_in Name.To fields))
several_there list fields same lt = sym (ap tag_in (OneTo.several_there Name.To list fields same lt))

pub one_there : (value : List ℕ) (tag : Option (List ℕ)) (list fields : List Field) → list ≡ fields → Some value ≡ first_value Name.To list
    → count_by (λ field. is_same_name field.name Name.To) list ≤ 1
    → tag ≡ option_and_then (λ (to : NameAddr). tag_of to.parameters) (name_addr_of value)
    → tag ≡ option_and_then (λ (to : NameAddr). tag_of to.parameters) (result_ok (name_addr_in Name.To fields))
one_there value tag list fields same e le is = is ∙ sym (ap tag_in (OneTo.one_there Name.To value list fields same e le))
