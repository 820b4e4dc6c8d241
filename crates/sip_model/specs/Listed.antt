-- What a 200 to a REGISTER lists.
use Rattle.std.specs.Prelude.{◌≡◌, ◌<◌, ◌≤◌, ◌+◌, ◌*◌, ℕ, List, Contains}
use Rattle.sip_uri.specs.declared.aor.Aor.{Aor}
use Rattle.sip_uri.specs.Uri as UriText
use Rattle.sip_message_fields.specs.declared.field.Field.{Field}
use Rattle.sip_message_fields.specs.declared.field_name.FieldName.TheVariants as Name
use Rattle.sip_edit_response.specs.Contacts.{contact_value}
use Rattle.sip_location.specs.declared.binding.Binding.{Binding}

-- A field lists a binding of an address of record: one of these rows that hasn't expired, as a Contact with its URI and the seconds
-- that it has left, a part of one counting as one
-- (RFC 3261 10.3 step 8).
pub record IsListed (now : ℕ) (aor : Aor) (rows : List Binding) (f : Field) : Type 0 where
  pub binding : Binding
  pub is_known : Contains rows binding
  pub is_of_address : binding.aor ≡ aor
  pub is_live : now < binding.expires_at
  pub seconds : ℕ
  pub are_enough : binding.expires_at ≤ now + 1000 * seconds
  pub are_no_more : now + 1000 * seconds < binding.expires_at + 1000
  pub is_contact : f ≡ record { name = Name.Contact; value = contact_value (UriText.text_of binding.uri) seconds }
