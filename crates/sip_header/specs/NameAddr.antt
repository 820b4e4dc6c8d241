-- Name-addr and addr-spec with header parameters, as From, To, Contact and Route have them (RFC 3261 20.10 and 25.1).
use Rattle.std.specs.Prelude.{◌≡◌, ◌≢◌, ◌⊎◌, ℕ, Bool, true, false, not, ◌&&◌, ◌||◌, ◌==◌, nat_le, is_some, if◌then◌else◌, List, [], ◌∷◌}
use Rattle.std.specs.Prelude.{◌++◌, codes, Option, Some, None, option_map, Result, Ok, Err}
use Rattle.std.specs.Option.{option_and_then}
use Rattle.std.specs.List.{AllByRecursion, AllZip, list_all, list_any}
use Rattle.std.specs.Str.{byte}
use Rattle.sip_text.specs.Words.{is_token_byte, is_same_text}
use Rattle.sip_text.specs.Lists.{is_blank, is_nil, trimmed}
use Rattle.sip_text.specs.Escapes.{unquoted}
use Rattle.sip_uri.specs.declared.uri.Uri.{Uri}
use Rattle.sip_uri.specs.declared.error.UriError.{UriError}
use Rattle.sip_uri.specs.declared.error.UriError.TheVariants as Refusal
use Rattle.sip_uri.specs.Scheme.{is_scheme_name}
use Rattle.sip_uri.specs.Uri.{IsWritten}
use Rattle.sip_uri.specs.Reading.{reading_of}
use Rattle.sip_text.specs.Cuts.{split_outside, parts_at, IsCutAt, IsParted}
use Rattle.sip_header.specs.Parameters.{parameters_in, IsParameter}
use Rattle.sip_header.specs.declared.parameters.HeaderParameter.{HeaderParameter}
use Rattle.sip_header.specs.declared.name_addr.AnyUri.{AnyUri}
use Rattle.sip_header.specs.declared.name_addr.AnyUri.TheVariants.{Sip, Other}
use Rattle.sip_header.specs.declared.name_addr.NameAddr.{NameAddr}

-- ---- the URI

-- a byte from `!` to `~` other than `"`, `<` and `>`
abbrev pub is_opaque_byte : ℕ → Bool
is_opaque_byte b = nat_le 33 b && nat_le b 126 && not (list_any (λ c. b == c) (codes "\"<>"))

-- whether something stands behind the `:`, of such bytes alone
abbrev pub is_opaque : Option (List ℕ × List ℕ) → Bool
is_opaque None = false
is_opaque (Some x) = if is_nil x.1 then false else list_all is_opaque_byte x.1

-- a URI of another scheme is kept as it is (RFC 3261 25.1: absoluteURI): one or more bytes behind its `:`
abbrev pub other_of : List ℕ → Option AnyUri
other_of text = if is_opaque (split_outside (byte ":") text) then Some (Other text) else None

-- a SIP or SIPS URI, or one of another scheme
abbrev pub uri_by : List ℕ → Result Uri UriError → Option AnyUri
uri_by text (Ok uri) = Some (Sip uri)
uri_by text (Err Refusal.NoMemory) = None
uri_by text (Err Refusal.Scheme) = other_of text
uri_by text (Err Refusal.Syntax) = None

-- a URI of any scheme
abbrev pub any_uri_of : List ℕ → Option AnyUri
any_uri_of text = uri_by text (reading_of text)

-- the SIP or SIPS URI that a URI of any scheme is, if it is one
abbrev pub sip_uri : AnyUri → Option Uri
sip_uri (Sip uri) = Some uri
sip_uri (Other text) = None

-- ---- the whole

-- a URI and its header parameters
abbrev pub with_parameters : Option (List HeaderParameter) → Option AnyUri → Option NameAddr
with_parameters parameters uri = option_and_then (λ u. option_map (λ p. record { uri = u; parameters = p }) parameters) uri

-- a byte that may stand without brackets
abbrev pub is_bare_byte : ℕ → Bool
is_bare_byte b = not (b == byte "?" || b == byte ",")

-- a URI without brackets, which ends before the first `;`
abbrev pub bare_in : List (List ℕ) → Option NameAddr
bare_in [] = None
bare_in (uri ∷ parameters) =
    if list_all is_bare_byte uri then with_parameters (parameters_in parameters) (any_uri_of (trimmed uri)) else None

-- a byte of tokens and the blanks between them
abbrev pub is_word_byte : ℕ → Bool
is_word_byte b = is_token_byte b || is_blank b

-- tokens, quoted text or nothing (RFC 3261 25.1: display-name)
abbrev pub is_display : List ℕ → Bool
is_display text = if list_all is_word_byte text then true else is_some (unquoted (trimmed text))

-- parameters behind the `>`
abbrev pub behind_bracket : List (List ℕ) → Option (List HeaderParameter)
behind_bracket [] = None
behind_bracket (gap ∷ parameters) = if is_nil (trimmed gap) then parameters_in parameters else None

-- the URI before the `>`, and the parameters behind it
abbrev pub bracketed_by : Option (List ℕ × List ℕ) → Option NameAddr
bracketed_by None = None
bracketed_by (Some x) = with_parameters (behind_bracket (parts_at (byte ";") x.1)) (any_uri_of (trimmed x.0))

-- an address with brackets, or without
abbrev pub name_addr_by : List ℕ → Option (List ℕ × List ℕ) → Option NameAddr
name_addr_by text None = bare_in (parts_at (byte ";") text)
name_addr_by text (Some x) = if is_display x.0 then bracketed_by (split_outside (byte ">") x.1) else None

-- a display name, which isn't kept, `<`, a URI, `>` and parameters; or a URI without brackets and parameters
abbrev pub name_addr_of : List ℕ → Option NameAddr
name_addr_of value = name_addr_by value (split_outside (byte "<") value)

-- ---- what a value writes

-- A text is a URI of another scheme: the name of a scheme other than `sip` and `sips` in any case, `:`, and one or more bytes that a
-- URI may have (RFC 3261 25.1: absoluteURI).
pub record IsOtherUri (text : List ℕ) : Type 0 where
  pub scheme : List ℕ
  pub rest : List ℕ
  pub whole : text ≡ scheme ++ byte ":" ∷ rest
  pub is_name : is_scheme_name scheme ≡ true
  pub not_sip : is_same_text scheme (codes "sip") ≡ false
  pub not_sips : is_same_text scheme (codes "sips") ≡ false
  pub more : rest ≢ []
  pub are_opaque : AllByRecursion (λ b. is_opaque_byte b ≡ true) rest

-- A text writes a URI of any scheme: one of SIP by its grammar, another as it is (RFC 3261 25.1: addr-spec).
abbrev pub IsAnyUri : List ℕ → AnyUri → Type 0
IsAnyUri text (Sip uri) = IsWritten text uri
IsAnyUri text (Other kept) = IsOtherUri text × (kept ≡ text)

-- A value writes an address in brackets (RFC 3261 20.10 and 25.1: name-addr): a display name, `<`, a URI and `>`, both cut outside quoted text,
-- and behind them parts at `;`, of which the first is blank and each other writes a parameter. Blanks round the URI are read, too
-- (this project's profile).
pub record IsBracketed (value : List ℕ) (address : NameAddr) : Type 0 where
  pub display : List ℕ
  pub rest : List ℕ
  pub inner : List ℕ
  pub behind : List ℕ
  pub gap : List ℕ
  pub texts : List (List ℕ)
  pub begins : IsCutAt (byte "<") value display rest
  pub is_display_name : is_display display ≡ true
  pub ends : IsCutAt (byte ">") rest inner behind
  pub is_uri : IsAnyUri (trimmed inner) address.uri
  pub parted : IsParted (byte ";") behind (gap ∷ texts)
  pub blank : AllByRecursion (λ b. is_blank b ≡ true) gap
  pub are_parameters : AllZip IsParameter texts address.parameters

-- A value writes an address without brackets (RFC 3261 20.10 and 25.1: addr-spec): it has no `<` outside quoted text, and parts at `;`,
-- of which the first is a URI without `?` and `,`, blanks round it, and each other writes a parameter.
pub record IsBare (value : List ℕ) (address : NameAddr) : Type 0 where
  pub first : List ℕ
  pub texts : List (List ℕ)
  pub no_bracket : split_outside (byte "<") value ≡ None
  pub parted : IsParted (byte ";") value (first ∷ texts)
  pub plain : AllByRecursion (λ b. (b ≢ byte "?") × (b ≢ byte ",")) first
  pub is_uri : IsAnyUri (trimmed first) address.uri
  pub are_parameters : AllZip IsParameter texts address.parameters

-- A value writes an address, in brackets or without (RFC 3261 20.10 and 25.1: name-addr, addr-spec).
abbrev pub IsNameAddr : List ℕ → NameAddr → Type 0
IsNameAddr value address = IsBracketed value address ⊎ IsBare value address
