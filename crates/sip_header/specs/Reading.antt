-- What a reader of a field returns.
use Rattle.std.specs.Prelude.{◌≡◌, ◌⊎◌, ℕ, Result, Ok, Err, Option, Some, None}
use Rattle.sip_message_form.specs.fields.declared.field_name.FieldName.{FieldName}
use Rattle.sip_header.specs.declared.error.HeaderError.{HeaderError}
use Rattle.sip_header.specs.declared.error.HeaderError.TheVariants.{NoMemory, Missing, Malformed}

-- the numbers of the refusals
abbrev pub number_of : HeaderError → ℕ
number_of NoMemory = 1
number_of (Missing name) = 2
number_of (Malformed name) = 3

-- The meaning that the value has; Malformed, naming the field, exactly where it has none; or memory ran out.
abbrev pub Reads : {X : Type 0} → FieldName → Result X HeaderError → Option X → Type 0
Reads name (Ok x) meaning = meaning ≡ Some x
Reads name (Err e) meaning = (e ≡ NoMemory) ⊎ ((e ≡ Malformed name) × (meaning ≡ None))
