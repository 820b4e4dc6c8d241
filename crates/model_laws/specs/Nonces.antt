-- What a challenge tells of its nonce (RFC 2617 3.2.1).
use Rattle.std.specs.Prelude.{◌≡◌, ℕ, List, ◌++◌, codes}
use Rattle.sip_message_fields.specs.declared.field.Field.{Field}

-- a field tells a nonce: in its value stands `nonce="`, the text of the nonce, and `"`
pub record TellsNonce (text : List ℕ) (f : Field) : Type 0 where
  pub front : List ℕ
  pub back : List ℕ
  pub is_value : f.value ≡ front ++ codes "nonce=\"" ++ text ++ codes "\"" ++ back
