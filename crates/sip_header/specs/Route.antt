-- Route and Record-Route (RFC 3261 20.30, 20.34).
use Rattle.std.specs.Prelude.{ℕ, is_some, if◌then◌else◌, List, Option, None}
use Rattle.std.specs.Str.{byte}
use Rattle.sip_uri.specs.Uri.{text_of}
use Rattle.sip_header.specs.declared.name_addr.AnyUri.{AnyUri}
use Rattle.sip_header.specs.declared.name_addr.AnyUri.TheVariants.{Sip, Other}
use Rattle.sip_header.specs.declared.name_addr.NameAddr.{NameAddr}
use Rattle.sip_text.specs.Cuts.{split_outside}
use Rattle.sip_header.specs.NameAddr.{name_addr_of, IsBracketed}

-- an item of Route or Record-Route: an address in brackets (RFC 3261 25.1, name-addr)
abbrev pub route_of : List ℕ → Option NameAddr
route_of value = if is_some (split_outside (byte "<") value) then name_addr_of value else None

-- A value writes an item of Route or Record-Route: an address in brackets (RFC 3261 20.30, 20.34 and 25.1: route-param, rec-route).
abbrev pub IsRoute : List ℕ → NameAddr → Type 0
IsRoute value address = IsBracketed value address

-- the text of a URI of any scheme
abbrev pub uri_text : AnyUri → List ℕ
uri_text (Sip uri) = text_of uri
uri_text (Other text) = text
