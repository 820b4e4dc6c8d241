-- Max-Forwards (RFC 3261 20.22).
use Rattle.std.specs.Prelude.{ℕ, nat_le, if◌then◌else◌, List, [], ◌∷◌, Option, Some, None}
use Rattle.sip_text.specs.Words.{decimal_of}
use Rattle.sip_message_form.specs.fields.declared.field.Field.{Field}
use Rattle.sip_message_form.specs.fields.declared.field_name.FieldName.TheVariants as Name
use Rattle.sip_header.specs.declared.max_forwards.MaxForwards.{MaxForwards}
use Rattle.sip_header.specs.declared.max_forwards.MaxForwards.TheVariants.{Absent, Hops, Malformed}
use Rattle.sip_message_form.specs.fields.Values.{values_of}

-- a number of at most 255
abbrev pub hops_from : Option ℕ → MaxForwards
hops_from None = Malformed
hops_from (Some n) = if nat_le n 255 then Hops n else Malformed

-- one value at most
abbrev pub hops_in : List (List ℕ) → MaxForwards
hops_in [] = Absent
hops_in (value ∷ []) = hops_from (decimal_of value)
hops_in (value ∷ next ∷ others) = Malformed

-- what the Max-Forwards of a message says
abbrev pub max_forwards_of : List Field → MaxForwards
max_forwards_of fields = hops_in (values_of Name.MaxForwards fields)
