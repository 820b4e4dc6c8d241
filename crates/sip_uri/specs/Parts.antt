-- The texts that a URI is made of.
use Rattle.std.specs.Prelude.{ℕ, Bool, true, false, not, ◌||◌, ◌&&◌, ◌==◌, List, [], ◌∷◌, codes, if◌then◌else◌}
use Rattle.std.specs.List.{list_any}
use Rattle.std.specs.Str.{byte}
use Rattle.std.specs.Char.{is_ascii_alphanumeric, is_ascii_hexdigit}
use Rattle.sip_text.specs.Lists.{is_nil}
use Rattle.sip_uri.specs.declared.escape_classes.Class.{Class}
use Rattle.sip_uri.specs.declared.escape_classes.Class.TheVariants.{User, Password, Parameter, Header}

-- whether each byte of a text is of a class or begins an escape `%HH` (RFC 3261 25.1: escaped)
abbrev pub are_escaped : (ℕ → Bool) → List ℕ → Bool
are_escaped class [] = true
are_escaped class (b ∷ h ∷ l ∷ rest) =
    if class b then are_escaped class (h ∷ l ∷ rest)
    else if b == byte "%" then is_ascii_hexdigit h && is_ascii_hexdigit l && are_escaped class rest
    else false
are_escaped class (b ∷ rest) = class b && are_escaped class rest

-- the same of a text that isn't empty
abbrev pub is_escaped : (ℕ → Bool) → List ℕ → Bool
is_escaped class text = if is_nil text then false else are_escaped class text

-- letters, digits and marks (RFC 3261 25.1: unreserved)
abbrev pub is_unreserved : ℕ → Bool
is_unreserved b = is_ascii_alphanumeric b || list_any (λ c. b == c) (codes "-_.!~*'()")

-- RFC 3261 25.1: user-unreserved
abbrev pub is_user_byte : ℕ → Bool
is_user_byte b = is_unreserved b || list_any (λ c. b == c) (codes "&=+$,;?/")

-- RFC 3261 25.1: user
abbrev pub is_user : List ℕ → Bool
is_user text = is_escaped is_user_byte text

-- a byte of a password that needs no escape (RFC 3261 25.1: password)
abbrev pub is_password_byte : ℕ → Bool
is_password_byte b = is_unreserved b || list_any (λ c. b == c) (codes "&=+$,")

-- RFC 3261 25.1: password, which may be empty
abbrev pub is_password : List ℕ → Bool
is_password text = are_escaped is_password_byte text

-- RFC 3261 25.1: paramchar
abbrev pub is_parameter_byte : ℕ → Bool
is_parameter_byte b = is_unreserved b || list_any (λ c. b == c) (codes "[]/:&+$")

-- RFC 3261 25.1: pname and pvalue
abbrev pub is_parameter_part : List ℕ → Bool
is_parameter_part text = is_escaped is_parameter_byte text

-- RFC 3261 25.1: hname and hvalue
abbrev pub is_header_byte : ℕ → Bool
is_header_byte b = is_unreserved b || list_any (λ c. b == c) (codes "[]/?:+$")

-- a header's name
abbrev pub is_header_name : List ℕ → Bool
is_header_name text = is_escaped is_header_byte text

-- a header's value, which may be empty
abbrev pub is_header_value : List ℕ → Bool
is_header_value text = are_escaped is_header_byte text

-- the bytes of a class
abbrev pub is_of : Class → ℕ → Bool
is_of User = is_user_byte
is_of Password = is_password_byte
is_of Parameter = is_parameter_byte
is_of Header = is_header_byte

-- a byte that ends no address and begins no quoted text: neither a blank nor `"`, `<` or `>`
abbrev pub is_unmarked : ℕ → Bool
is_unmarked b = not (list_any (λ c. b == c) (codes "\"<> \t"))
