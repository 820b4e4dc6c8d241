-- How long something is to last (RFC 3261 20.19, and `expires` in 20.10).
use Rattle.std.specs.Prelude.{ℕ, List, [], ◌∷◌, codes, Option, Some, None}
use Rattle.std.specs.Option.{option_and_then}
use Rattle.sip_text.specs.Words.{decimal_of}
use Rattle.sip_message_form.specs.fields.declared.field.Field.{Field}
use Rattle.sip_message_form.specs.fields.declared.field_name.FieldName.TheVariants as Name
use Rattle.sip_header.specs.declared.parameters.HeaderParameter.{HeaderParameter}
use Rattle.sip_header.specs.declared.contact_item.ContactItem.{ContactItem}
use Rattle.sip_header.specs.declared.contact_item.ContactItem.TheVariants.{Star, Address}
use Rattle.sip_header.specs.declared.expires.Expires.{Expires}
use Rattle.sip_header.specs.declared.expires.Expires.TheVariants.{Absent, Seconds, Malformed}
use Rattle.sip_message_form.specs.fields.Values.{values_of}
use Rattle.sip_header.specs.Parameters.{parameter_of}

-- a number of seconds: all digits, below 2 ^ 64 (RFC 3261 25.1, delta-seconds; the limit is this project's profile)
abbrev pub seconds_of : List ℕ → Option ℕ
seconds_of text = decimal_of text

-- a number of seconds, or what is none
abbrev pub expires_from : Option ℕ → Expires
expires_from None = Malformed
expires_from (Some n) = Seconds n

-- one value at most
abbrev pub expires_in : List (List ℕ) → Expires
expires_in [] = Absent
expires_in (value ∷ []) = expires_from (seconds_of value)
expires_in (value ∷ next ∷ others) = Malformed

-- what the Expires of a message says (RFC 3261 20.19)
abbrev pub expires_of : List Field → Expires
expires_of fields = expires_in (values_of Name.Expires fields)

-- what an `expires` parameter says, if there is one
abbrev pub parameter_expires : Option HeaderParameter → Expires
parameter_expires None = Absent
parameter_expires (Some parameter) = expires_from (option_and_then seconds_of parameter.value)

-- what the `expires` among the parameters of a contact says
abbrev pub parameters_expires : List HeaderParameter → Expires
parameters_expires parameters = parameter_expires (parameter_of (codes "expires") parameters)

-- What the `expires` of a contact says (RFC 3261 20.10); without a value, or quoted, it is malformed.
abbrev pub contact_expires : ContactItem → Expires
contact_expires Star = Absent
contact_expires (Address address) = parameters_expires address.parameters
