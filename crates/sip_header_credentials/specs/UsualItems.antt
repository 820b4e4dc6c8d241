-- Items of credentials in their usual form, which are read in one pass from the left.
use Rattle.std.specs.Prelude.{◌≡◌, ◌≤◌, ℕ, true, List, [], ◌∷◌, ◌++◌, length, Option, Some, None, option_map}
use Rattle.std.specs.Str.{byte}
use Rattle.sip_text.specs.Words.{is_token_text}
use Rattle.sip_text.specs.Lists.{trimmed}
use Rattle.sip_text.specs.Cuts.{parts_at, parts_behind}
use Rattle.sip_header_credentials.specs.declared.credentials.Item.{Item}
use Rattle.sip_header_credentials.specs.declared.credentials.Credentials.{Credentials}
use Rattle.sip_header_credentials.specs.Credentials.{items_in, item_value, credentials_from}

-- nothing, or a comma and what follows it
abbrev pub comma_and : Option (List ℕ) → List ℕ
comma_and None = []
comma_and (Some rest) = byte "," ∷ rest

-- A text begins with a name, blanks before it, and `=`, and this follows.
pub record IsNameFirst (text name right : List ℕ) : Type 0 where
  pub left : List ℕ
  pub whole : text ≡ left ++ byte "=" ∷ right
  pub is_name : trimmed left ≡ name
  pub is_token : is_token_text name ≡ true

-- A text begins with a value, which says this, and goes on so behind a comma: behind a name and `=` they are its first item and what follows it.
pub record IsValueFirst (text said : List ℕ) (rest : Option (List ℕ)) : Type 0 where
  pub items : (left : List ℕ) → is_token_text (trimmed left) ≡ true
      → items_in (parts_at (byte ",") (left ++ byte "=" ∷ text))
      ≡ option_map (λ (others : List Item). record { name = trimmed left; value = said } ∷ others) (items_in (parts_behind (byte ",") rest))
  pub shorter : length (comma_and rest) ≤ length text

-- An item that says this stands behind others, none of which has its name, and they all say these.
pub record IsPlaced (items : List Item) (name said : List ℕ) (places : Credentials) : Type 0 where
  pub first : item_value name items ≡ None
  pub placed : places ≡ credentials_from (items ++ record { name = name; value = said } ∷ [])
