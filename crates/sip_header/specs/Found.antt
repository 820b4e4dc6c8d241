-- Of a field that stands once, its value is what it says (RFC 3261 8.1.1).
use Rattle.std.specs.Prelude.{ℕ, List, [], ◌∷◌, Result, Ok, Err}
use Rattle.std.specs.Option.{ok_or}
use Rattle.sip_message_form.specs.fields.declared.field_name.FieldName.{FieldName}
use Rattle.sip_message_form.specs.fields.declared.field_name.FieldName.TheVariants as Name
use Rattle.sip_header.specs.declared.error.HeaderError.{HeaderError}
use Rattle.sip_header.specs.declared.error.HeaderError.TheVariants.{Missing, Malformed}
use Rattle.sip_header.specs.declared.core_values.Found.{Found}
use Rattle.sip_header.specs.declared.core_values.Found.TheVariants.{Nowhere, Once, Again}
use Rattle.sip_header.specs.declared.cseq.CSeq.{CSeq}
use Rattle.sip_header.specs.declared.name_addr.NameAddr.{NameAddr}
use Rattle.sip_header.specs.NameAddr.{name_addr_of}
use Rattle.sip_header.specs.CSeq.{cseq_of}
use Rattle.sip_header.specs.CoreFields.{◌>>=◌, call_id_from}

-- the one of some values, if there is one
abbrev pub found_of : List (List ℕ) → Found
found_of [] = Nowhere
found_of (value ∷ []) = Once value
found_of (value ∷ next ∷ others) = Again

-- the same with one more value behind them
abbrev pub and_value : Found → List ℕ → Found
and_value Nowhere value = Once value
and_value (Once first) value = Again
and_value Again value = Again

-- the value that was found: none is Missing, several are Malformed
abbrev pub value_in : FieldName → Found → Result (List ℕ) HeaderError
value_in name Nowhere = Err (Missing name)
value_in name (Once value) = Ok value
value_in name Again = Err (Malformed name)

-- the address that it says
abbrev pub address_in : FieldName → Found → Result NameAddr HeaderError
address_in name found = value_in name found >>= λ value. ok_or (name_addr_of value) (Malformed name)

-- the Call-ID that it says
abbrev pub call_id_found : Found → Result (List ℕ) HeaderError
call_id_found found = value_in Name.CallId found >>= call_id_from

-- the CSeq that it says
abbrev pub cseq_found : Found → Result CSeq HeaderError
cseq_found found = value_in Name.CSeq found >>= λ value. ok_or (cseq_of value) (Malformed Name.CSeq)
