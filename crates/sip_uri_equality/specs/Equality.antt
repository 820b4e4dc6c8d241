-- Whether two URIs are equal: this project's profile of RFC 3261 19.1.4.
use Rattle.std.specs.Prelude.{ℕ, ◌+◌, ◌*◌, Bool, true, false, ◌&&◌, ◌||◌, ◌==◌, not, List, [], ◌∷◌, codes, map, Option, Some, None, if◌then◌else◌}
use Rattle.std.specs.List.{list_all, list_any, count_by}
use Rattle.std.specs.Str.{byte}
use Rattle.std.specs.Char.{is_ascii_hexdigit, digit_value, to_ascii_lowercase}
use Rattle.std.specs.Cmp.Lexicographic.{pointwise}
use Rattle.sip_uri.specs.declared.scheme.Scheme.{Scheme}
use Rattle.sip_uri.specs.declared.scheme.Scheme.TheVariants.{Sip, Sips}
use Rattle.sip_uri.specs.declared.user.UserInfo.{UserInfo}
use Rattle.sip_uri.specs.declared.parameters.UriParameter.{UriParameter}
use Rattle.sip_uri.specs.declared.headers.UriHeader.{UriHeader}
use Rattle.sip_uri.specs.declared.uri.Uri.{Uri}
use Rattle.sip_uri_equality.specs.declared.symbols.Symbol.{Symbol}
use Rattle.sip_uri_equality.specs.declared.symbols.Symbol.TheVariants.{Plain, EscapedReserved}

-- ---- texts

-- RFC 3261 25.1: reserved
abbrev pub is_reserved : ℕ → Bool
is_reserved b = list_any (λ c. b == c) (codes ";/?:@&=+$,")

-- An escaped character is the character itself, but for a reserved one (RFC 3261 19.1.4).
abbrev pub escaped_symbol : ℕ → Symbol
escaped_symbol b = if is_reserved b then EscapedReserved b else Plain b

-- what a text says, character by character; a `%` that begins no escape stands for itself
abbrev pub symbols : List ℕ → List Symbol
symbols [] = []
symbols (b ∷ h ∷ l ∷ rest) =
    if b == byte "%" && is_ascii_hexdigit h && is_ascii_hexdigit l then escaped_symbol (16 * digit_value h + digit_value l) ∷ symbols rest
    else Plain b ∷ symbols (h ∷ l ∷ rest)
symbols (b ∷ rest) = Plain b ∷ symbols rest

-- a byte with a capital letter as a small one
abbrev pub small : Symbol → Symbol
small (Plain b) = Plain (to_ascii_lowercase b)
small (EscapedReserved b) = EscapedReserved b

-- whether two bytes are the same, both escaped reserved ones or neither
abbrev pub is_same_symbol : Symbol → Symbol → Bool
is_same_symbol (Plain a) (Plain b) = a == b
is_same_symbol (Plain a) (EscapedReserved b) = false
is_same_symbol (EscapedReserved a) (Plain b) = false
is_same_symbol (EscapedReserved a) (EscapedReserved b) = a == b

-- whether two texts say the same
abbrev pub says_same : List ℕ → List ℕ → Bool
says_same left right = pointwise is_same_symbol (symbols left) (symbols right)

-- whether two texts say the same without case
abbrev pub says_same_no_case : List ℕ → List ℕ → Bool
says_same_no_case left right = pointwise is_same_symbol (map small (symbols left)) (map small (symbols right))

-- both absent, or both present and the same
abbrev pub both_or_none : (List ℕ → List ℕ → Bool) → Option (List ℕ) → Option (List ℕ) → Bool
both_or_none is_same None None = true
both_or_none is_same (Some left) (Some right) = is_same left right
both_or_none is_same None (Some right) = false
both_or_none is_same (Some left) None = false

-- ---- the parts of a URI

-- whether two schemes are the same
abbrev pub is_same_scheme : Scheme → Scheme → Bool
is_same_scheme Sip Sip = true
is_same_scheme Sips Sips = true
is_same_scheme Sip Sips = false
is_same_scheme Sips Sip = false

-- user and password are compared with case, and one that is absent matches none that is present
abbrev pub is_same_userinfo : Option UserInfo → Option UserInfo → Bool
is_same_userinfo None None = true
is_same_userinfo (Some left) (Some right) = says_same left.user right.user && both_or_none says_same left.password right.password
is_same_userinfo None (Some right) = false
is_same_userinfo (Some left) None = false

-- parameters of one name have one value, or none
abbrev pub agrees : UriParameter → UriParameter → Bool
agrees p q = if says_same_no_case p.name q.name then both_or_none says_same_no_case p.value q.value else true

-- parameters that aren't ignored where only one URI has them (RFC 3261 19.1.4; `transport` is this project's)
abbrev pub is_never_ignored : List ℕ → Bool
is_never_ignored name = list_any (λ known. says_same_no_case name known)
    (codes "user" ∷ codes "ttl" ∷ codes "method" ∷ codes "maddr" ∷ codes "transport" ∷ [])

-- a parameter may be ignored, or its name stands among others
abbrev pub is_answered : List UriParameter → UriParameter → Bool
is_answered others p = not (is_never_ignored p.name) || list_any (λ q. says_same_no_case p.name q.name) others

-- each pair of one name agrees, and none that counts stands in only one
abbrev pub are_same_parameters : List UriParameter → List UriParameter → Bool
are_same_parameters ps qs = list_all (λ p. list_all (λ q. agrees p q) qs) ps && (list_all (is_answered qs) ps && list_all (is_answered ps) qs)

-- whether two headers are the same without case
abbrev pub is_same_header : UriHeader → UriHeader → Bool
is_same_header h g = says_same_no_case h.name g.name && says_same_no_case h.value g.value

-- a header stands as often in one list as in another
abbrev pub stands_as_often : List UriHeader → List UriHeader → UriHeader → Bool
stands_as_often hs gs h = count_by (is_same_header h) hs == count_by (is_same_header h) gs

-- the same headers, in any order
abbrev pub are_same_headers : List UriHeader → List UriHeader → Bool
are_same_headers hs gs = list_all (stands_as_often hs gs) hs && list_all (stands_as_often hs gs) gs

-- ---- the whole

-- whether two URIs are equal: scheme, user with password, host, port, parameters and headers match (RFC 3261 19.1.4)
abbrev pub same : Uri → Uri → Bool
same u v =
    is_same_scheme u.scheme v.scheme
    && is_same_userinfo u.userinfo v.userinfo
    && says_same_no_case u.host v.host
    && both_or_none says_same_no_case u.port v.port
    && are_same_parameters u.parameters v.parameters
    && are_same_headers u.headers v.headers

-- no two parameters have one name once escapes are resolved
abbrev pub names_say_different : List UriParameter → Bool
names_say_different [] = true
names_say_different (p ∷ ps) = not (list_any (λ q. says_same_no_case p.name q.name) ps) && names_say_different ps
