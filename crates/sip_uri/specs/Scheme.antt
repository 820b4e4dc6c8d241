-- Schemes.
use Rattle.std.specs.Prelude.{ℕ, Bool, false, ◌||◌, ◌&&◌, ◌==◌, List, [], ◌∷◌, codes, Result, Ok, Err, if◌then◌else◌}
use Rattle.std.specs.List.{list_all, list_any}
use Rattle.std.specs.Char.{is_ascii_alphabetic, is_ascii_alphanumeric}
use Rattle.sip_text.specs.Words.{is_same_text}
use Rattle.sip_uri.specs.declared.scheme.Scheme.{Scheme}
use Rattle.sip_uri.specs.declared.scheme.Scheme.TheVariants.{Sip, Sips}
use Rattle.sip_uri.specs.declared.error.UriError.{UriError}

-- a scheme as it is written, in lower case (RFC 3261 19.1.1)
abbrev pub scheme_text : Scheme → List ℕ
scheme_text Sip = codes "sip"
scheme_text Sips = codes "sips"

-- a byte of a scheme's name behind its first letter
abbrev pub is_scheme_byte : ℕ → Bool
is_scheme_byte b = is_ascii_alphanumeric b || list_any (λ c. b == c) (codes "+-.")

-- a letter, then letters, digits and `+-.` (RFC 3261 25.1: scheme)
abbrev pub is_scheme_name : List ℕ → Bool
is_scheme_name [] = false
is_scheme_name (b ∷ bs) = is_ascii_alphabetic b && list_all is_scheme_byte bs

-- the scheme of a name, in any case; another scheme is refused as such (RFC 3261 19.1.1 and 21.4.14)
abbrev pub scheme_of : List ℕ → Result Scheme UriError
scheme_of name =
    if is_same_text name (codes "sip") then Ok Sip
    else if is_same_text name (codes "sips") then Ok Sips
    else if is_scheme_name name then Err UriError.Scheme
    else Err UriError.Syntax
