-- Digest credentials (RFC 2617 3.2.2, RFC 3261 20.7 and 20.28).
use Rattle.std.specs.Prelude.{◌≡◌, ◌++◌, ℕ, Bool, true, false, is_some, if◌then◌else◌, List, [], ◌∷◌, codes, Option, Some, None, option_map}
use Rattle.std.specs.Option.{option_and_then}
use Rattle.std.specs.List.{AllZip}
use Rattle.std.specs.Str.{byte, bytes_eq}
use Rattle.sip_text.specs.Words.{is_token_text, is_same_text}
use Rattle.sip_text.specs.Lists.{trimmed}
use Rattle.sip_text.specs.Escapes.{unquoted}
use Rattle.sip_text.specs.Cuts.{split_outside, parts_at, IsParted, word_at, behind_word, IsWordAndRest}
use Rattle.sip_header_credentials.specs.declared.credentials.Item.{Item}
use Rattle.sip_header_credentials.specs.declared.credentials.Credentials.{Credentials}

-- a token, or what quoted text says
abbrev pub value_said : List ℕ → Option (List ℕ)
value_said text = if is_token_text text then Some text else unquoted text

-- a text writes an item: a token, `=`, and a token or quoted text that says its value, blanks round both
pub record IsItem (text : List ℕ) (item : Item) : Type 0 where
  pub left : List ℕ
  pub right : List ℕ
  pub whole : text ≡ left ++ byte "=" ∷ right
  pub is_name : trimmed left ≡ item.name
  pub is_token : is_token_text item.name ≡ true
  pub is_value : value_said (trimmed right) ≡ Some item.value

-- a token and what a value says
abbrev pub item_from : List ℕ → List ℕ → Option Item
item_from name text = if is_token_text name then option_map (λ value. record { name = name; value = value }) (value_said text) else None

-- the same of two parts, blanks round them taken off
abbrev pub item_by : Option (List ℕ × List ℕ) → Option Item
item_by None = None
item_by (Some x) = item_from (trimmed x.0) (trimmed x.1)

-- a name and, behind `=`, a value
abbrev pub item_in : List ℕ → Option Item
item_in text = item_by (split_outside (byte "=") text)

-- the items that texts write, if each writes one
abbrev pub items_in : List (List ℕ) → Option (List Item)
items_in [] = Some []
items_in (text ∷ texts) = option_and_then (λ item. option_map (λ others. item ∷ others) (items_in texts)) (item_in text)

-- the value of the first item of a name, without case
abbrev pub item_value : List ℕ → List Item → Option (List ℕ)
item_value name [] = None
item_value name (item ∷ others) = if is_same_text item.name name then Some item.value else item_value name others

-- no name stands twice, whatever its case
abbrev pub names_differ : List Item → Bool
names_differ [] = true
names_differ (item ∷ others) = if is_some (item_value item.name others) then false else names_differ others

-- what the names that count say
abbrev pub credentials_from : List Item → Credentials
credentials_from items =
    record {
      username = item_value (codes "username") items;
      realm = item_value (codes "realm") items;
      nonce = item_value (codes "nonce") items;
      uri = item_value (codes "uri") items;
      response = item_value (codes "response") items;
      algorithm = item_value (codes "algorithm") items;
      qop = item_value (codes "qop") items;
      nc = item_value (codes "nc") items;
      cnonce = item_value (codes "cnonce") items;
    }

-- the credentials that items make, if no name stands twice
abbrev pub from_items : List Item → Option Credentials
from_items items = if names_differ items then Some (credentials_from items) else None

-- `Digest`, one or more blanks, and items between commas; what other names say is ignored
abbrev pub credentials_of : List ℕ → Option Credentials
credentials_of value =
    if is_same_text (word_at value) (codes "Digest") then option_and_then from_items (items_in (parts_at (byte ",") (behind_word value)))
    else None

-- whether a realm was named, and is this one
abbrev pub is_realm : List ℕ → Option (List ℕ) → Bool
is_realm realm None = false
is_realm realm (Some said) = bytes_eq said realm

-- A value writes credentials: `Digest` in any case, one or more blanks, and parts at `,`, each of which writes an item, no two of one name.
pub record IsCredentials (value : List ℕ) (credentials : Credentials) : Type 0 where
  pub scheme : List ℕ
  pub rest : List ℕ
  pub texts : List (List ℕ)
  pub items : List Item
  pub is_cut : IsWordAndRest value scheme rest
  pub is_digest : is_same_text scheme (codes "Digest") ≡ true
  pub parted : IsParted (byte ",") rest texts
  pub are_items : AllZip IsItem texts items
  pub differ : names_differ items ≡ true
  pub are_said : credentials_from items ≡ credentials
