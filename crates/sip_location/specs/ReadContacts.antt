-- Contacts as they are read: their URIs are of the grammar (RFC 3261 19.1.1, 20.10).
use Rattle.std.specs.Prelude.{⊤, List}
use Rattle.std.specs.List.{AllByRecursion}
use Rattle.sip_uri.specs.Uri.{IsValid}
use Rattle.sip_header.specs.declared.name_addr.AnyUri.{AnyUri}
use Rattle.sip_header.specs.declared.name_addr.AnyUri.TheVariants.{Sip, Other}
use Rattle.sip_header.specs.declared.contact_item.ContactItem.{ContactItem}
use Rattle.sip_header.specs.declared.contact_item.ContactItem.TheVariants.{Star, Address}

-- a URI of the grammar, or one of another scheme
abbrev pub IsValidUri : AnyUri → Type 0
IsValidUri (Sip uri) = IsValid uri
IsValidUri (Other text) = ⊤

-- so is that of a contact, unless it is `*`
abbrev pub IsValidContact : ContactItem → Type 0
IsValidContact Star = ⊤
IsValidContact (Address address) = IsValidUri address.uri

-- so are those of all contacts
abbrev pub AreValidContacts : List ContactItem → Type 0
AreValidContacts contacts = AllByRecursion IsValidContact contacts
