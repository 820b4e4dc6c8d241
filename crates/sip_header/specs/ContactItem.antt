-- Contact items (RFC 3261 20.10).
use Rattle.std.specs.Prelude.{◌≡◌, ℕ, List, codes, if◌then◌else◌, Option, Some, option_map}
use Rattle.std.specs.Str.{bytes_eq}
use Rattle.sip_header.specs.declared.contact_item.ContactItem.{ContactItem}
use Rattle.sip_header.specs.declared.contact_item.ContactItem.TheVariants.{Star, Address}
use Rattle.sip_header.specs.NameAddr.{name_addr_of, IsNameAddr}

-- just `*`, or an address (RFC 3261 20.10)
abbrev pub contact_of : List ℕ → Option ContactItem
contact_of value = if bytes_eq value (codes "*") then Some Star else option_map (λ address. Address address) (name_addr_of value)

-- A value writes an item of Contact: just `*`, or an address (RFC 3261 20.10 and 25.1: Contact).
abbrev pub IsContact : List ℕ → ContactItem → Type 0
IsContact value Star = value ≡ codes "*"
IsContact value (Address address) = IsNameAddr value address
