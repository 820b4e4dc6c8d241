-- Addresses whose URI is lent.
use Rattle.std.specs.Prelude.{◌≡◌, ℕ, true, List, Option, Some}
use Rattle.std.specs.Str.{byte}
use Rattle.sip_text.specs.Cuts.{split_outside, parts_behind}
use Rattle.sip_uri.specs.declared.uri.Uri.{Uri}
use Rattle.sip_header.specs.declared.parameters.HeaderParameter.{HeaderParameter}
use Rattle.sip_header.specs.declared.name_addr.AnyUri.{AnyUri}
use Rattle.sip_header.specs.declared.name_addr.AnyUri.TheVariants as Uris
use Rattle.sip_header.specs.declared.written_uri.WrittenUri.{WrittenUri}
use Rattle.sip_header.specs.declared.written_uri.WrittenUri.TheVariants.{Sip, Other}
use Rattle.sip_header.specs.Parameters.{parameters_in}
use Rattle.sip_header.specs.NameAddr.{is_display, name_addr_of}

-- the URI that is lent so
abbrev pub uri_kept : WrittenUri → AnyUri
uri_kept (Sip uri) = Uris.Sip uri
uri_kept (Other text) = Uris.Other text

-- A value begins with a display name, or with none, and a `<`; this follows it (RFC 3261 25.1: name-addr).
pub record IsOpened (value text : List ℕ) : Type 0 where
  pub display : List ℕ
  pub is_name : is_display display ≡ true
  pub cut : split_outside (byte "<") value ≡ Some (display, text)

-- a value writes the address of this URI with the parameters that stand behind it
abbrev pub IsAddressBy : List ℕ → Uri → Option (List ℕ) → Type 0
IsAddressBy value uri behind = (parameters : List HeaderParameter) → parameters_in (parts_behind (byte ";") behind) ≡ Some parameters
    → name_addr_of value ≡ Some (record { uri = Uris.Sip uri; parameters = parameters })
