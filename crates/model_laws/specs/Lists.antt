-- What a 200 to a REGISTER lists, as a whole (RFC 3261 10.3 step 8).
use Rattle.std.specs.Prelude.{◌≡◌, ◌<◌, ◌≤◌, ◌+◌, ◌*◌, ℕ, List, [], ◌∷◌, ◌++◌, codes, decimal}
use Rattle.sip_uri.specs.declared.aor.Aor.{Aor}
use Rattle.sip_uri.specs.Uri.{text_of}
use Rattle.sip_message_fields.specs.declared.field.Field.{Field}
use Rattle.sip_message_fields.specs.declared.field_name.FieldName.TheVariants as Name
use Rattle.sip_location.specs.declared.binding.Binding.{Binding}

-- a binding of an address of record that hasn't expired
pub record IsLiveOf (now : ℕ) (aor : Aor) (b : Binding) : Type 0 where
  pub is_its : b.aor ≡ aor
  pub lives : now < b.expires_at

-- a field says a binding: it is a Contact with the binding's URI in brackets, and the seconds that the binding has left, a part of
-- one counting as one
pub record SaysBinding (now : ℕ) (b : Binding) (f : Field) : Type 0 where
  pub seconds : ℕ
  pub are_enough : b.expires_at ≤ now + 1000 * seconds
  pub are_no_more : now + 1000 * seconds < b.expires_at + 1000
  pub is_contact : f ≡ record { name = Name.Contact; value = codes "<" ++ text_of b.uri ++ codes ">;expires=" ++ decimal seconds }

-- Fields list the live bindings of an address of record among some bindings, in their order: there is one field for each of them,
-- and none for any other.
pub data ListsInOrder (now : ℕ) (aor : Aor) : List Binding → List Field → Type 0 where
  NoMore : ListsInOrder now aor [] []
  Lists : (b : Binding) (f : Field) (rows : List Binding) (fields : List Field) → IsLiveOf now aor b
      → SaysBinding now b f → ListsInOrder now aor rows fields
      → ListsInOrder now aor (b ∷ rows) (f ∷ fields)
  LeavesOut : (b : Binding) (rows : List Binding) (fields : List Field) → (IsLiveOf now aor b → ⊥) → ListsInOrder now aor rows fields
      → ListsInOrder now aor (b ∷ rows) fields
