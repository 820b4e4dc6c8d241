-- The fields that every message needs: From, To, Call-ID and CSeq (RFC 3261 8.1.1).
use Rattle.std.specs.Prelude.{◌≡◌, ◌⊎◌, ℕ, if◌then◌else◌, List, [], ◌∷◌, Result, Ok, Err}
use Rattle.std.specs.Option.{ok_or}
use Rattle.sip_text.specs.Lists.{is_nil}
use Rattle.sip_message_form.specs.fields.declared.field.Field.{Field}
use Rattle.sip_message_form.specs.fields.declared.field_name.FieldName.{FieldName}
use Rattle.sip_message_form.specs.fields.declared.field_name.FieldName.TheVariants as Name
use Rattle.sip_message_form.specs.declared.message.Message.{Message}
use Rattle.sip_header.specs.declared.error.HeaderError.{HeaderError}
use Rattle.sip_header.specs.declared.error.HeaderError.TheVariants.{NoMemory, Missing, Malformed}
use Rattle.sip_header.specs.declared.cseq.CSeq.{CSeq}
use Rattle.sip_header.specs.declared.name_addr.NameAddr.{NameAddr}
use Rattle.sip_header.specs.declared.core_fields.CoreFields.{CoreFields}
use Rattle.sip_message_form.specs.fields.Values.{values_of}
use Rattle.sip_header.specs.NameAddr.{name_addr_of}
use Rattle.sip_header.specs.CSeq.{cseq_of}

infixl 10 ◌>>=◌
abbrev pub ◌>>=◌ : {A B : Type 0} → Result A HeaderError → (A → Result B HeaderError) → Result B HeaderError
(Ok x) >>= f = f x
(Err e) >>= f = Err e

-- What a function returned, seen by view, is what the reading gives, unless memory ran out.
abbrev pub Gives : {X Y : Type 0} → (X → Y) → Result X HeaderError → Result Y HeaderError → Type 0
Gives view (Ok x) reading = reading ≡ Ok (view x)
Gives view (Err e) reading = (e ≡ NoMemory) ⊎ (reading ≡ Err e)

-- the one of some values
abbrev pub the_one : FieldName → List (List ℕ) → Result (List ℕ) HeaderError
the_one name [] = Err (Missing name)
the_one name (value ∷ []) = Ok value
the_one name (value ∷ next ∷ others) = Err (Malformed name)

-- the one value of a field: none is Missing, several are Malformed
abbrev pub only_value : FieldName → List Field → Result (List ℕ) HeaderError
only_value name fields = the_one name (values_of name fields)

-- the one address that a field of a name says
abbrev pub name_addr_in : FieldName → List Field → Result NameAddr HeaderError
name_addr_in name fields = only_value name fields >>= λ value. ok_or (name_addr_of value) (Malformed name)

-- a Call-ID isn't empty
abbrev pub call_id_from : List ℕ → Result (List ℕ) HeaderError
call_id_from value = if is_nil value then Err (Malformed Name.CallId) else Ok value

-- the one Call-ID (RFC 3261 20.8)
abbrev pub call_id_in : List Field → Result (List ℕ) HeaderError
call_id_in fields = only_value Name.CallId fields >>= call_id_from

-- the one CSeq (RFC 3261 20.16)
abbrev pub cseq_in : List Field → Result CSeq HeaderError
cseq_in fields = only_value Name.CSeq fields >>= λ value. ok_or (cseq_of value) (Malformed Name.CSeq)

-- the core fields of some fields; the first of From, To, Call-ID and CSeq that has a fault names the refusal
unfoldable pub core_in : List Field → Result CoreFields HeaderError
core_in fields = do
  from ← name_addr_in Name.From fields
  to ← name_addr_in Name.To fields
  call_id ← call_id_in fields
  cseq ← cseq_in fields
  Ok (record { from = from; to = to; call_id = call_id; cseq = cseq })

-- the core fields of a message
abbrev pub core_of : Message → Result CoreFields HeaderError
core_of m = core_in m.fields
