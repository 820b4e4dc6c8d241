-- What a REGISTER makes of the bindings (RFC 3261 10.3 steps 6 to 8).
use Rattle.std.specs.Prelude.{ℕ, ◌+◌, ◌*◌, Bool, true, false, ◌&&◌, ◌==◌, not, nat_lt, nat_le, is_some, List, [], ◌∷◌, ◌++◌, length, Result}
use Rattle.std.specs.Prelude.{Ok, Err, if◌then◌else◌}
use Rattle.std.specs.Option.{option_map_or}
use Rattle.std.specs.List.{list_any}
use Rattle.std.specs.Str.{bytes_eq}
use Rattle.sip_uri.specs.declared.uri.Uri.{Uri}
use Rattle.sip_uri_equality.specs.Equality.{same}
use Rattle.sip_header.specs.declared.expires.Expires.{Expires}
use Rattle.sip_header.specs.declared.contact_item.ContactItem.{ContactItem}
use Rattle.sip_header.specs.declared.contact_item.ContactItem.TheVariants.{Star, Address}
use Rattle.sip_header.specs.NameAddr.{sip_uri}
use Rattle.sip_header.specs.Expires.{contact_expires}
use Rattle.sip_location.specs.declared.binding.Binding.{Binding}
use Rattle.sip_location.specs.declared.error.LocationError.{LocationError}
use Rattle.sip_location.specs.declared.error.LocationError.TheVariants.{BadStar, TooBrief, OldCSeq, TooMany}
use Rattle.sip_location.specs.declared.registration.Registration.{Registration}
use Rattle.sip_location.specs.Binding.{live, of_others, without_contact, put}
use Rattle.sip_location.specs.Interval.{own_or, granted, is_brief, is_zero}

-- ---- the refusals, in their order

-- whether a Contact is `*`
abbrev pub is_star : ContactItem → Bool
is_star Star = true
is_star (Address address) = false

-- whether there is one Contact alone
abbrev pub is_alone : List ContactItem → Bool
is_alone [] = false
is_alone (contact ∷ []) = true
is_alone (contact ∷ next ∷ others) = false

-- a `*` beside another Contact, or without an Expires of 0 (RFC 3261 10.3 step 6)
abbrev pub has_bad_star : Registration → Bool
has_bad_star r = list_any is_star r.contacts && not (is_alone r.contacts && is_zero r.expires)

-- the seconds for which a contact is bound: by its own `expires`, else by the request's Expires
abbrev pub seconds_for : ContactItem → Expires → ℕ
seconds_for contact expires = granted (own_or (contact_expires contact) expires)

-- Whether a contact asks for less than a minute, and for no removal. One of another scheme than `sip` and `sips` asks for nothing.
abbrev pub asks_briefly : Expires → ContactItem → Bool
asks_briefly expires Star = false
asks_briefly expires (Address address) = is_some (sip_uri address.uri) && is_brief (seconds_for (Address address) expires)

-- some contact asks for less than a minute (RFC 3261 10.3 step 7)
abbrev pub is_too_brief : Registration → Bool
is_too_brief r = list_any (asks_briefly r.expires) r.contacts

-- whether a contact speaks of a binding: `*` of each, another one of those whose contact is equal (RFC 3261 19.1.4)
abbrev pub speaks_of : Binding → ContactItem → Bool
speaks_of b Star = true
speaks_of b (Address address) = option_map_or (same b.uri) (sip_uri address.uri) false

-- a binding that was made in the same Call-ID, by a CSeq not below the request's, and of which a contact speaks
abbrev pub is_newer : Registration → Binding → Bool
is_newer r b = bytes_eq b.call_id r.call_id && nat_le r.cseq b.cseq && list_any (speaks_of b) r.contacts

-- a live binding from before the request is newer than it (RFC 3261 10.3 steps 6 and 7)
abbrev pub has_old_cseq : Registration → List Binding → Bool
has_old_cseq r bindings = list_any (is_newer r) bindings

-- ---- the update

-- a binding as it is asked for
abbrev pub bound : Registration → ℕ → Uri → ℕ → Binding
bound r now uri seconds = record { aor = r.aor; uri = uri; call_id = r.call_id; cseq = r.cseq; expires_at = now + 1000 * seconds }

-- the live bindings of an address of record after a URI is bound to it for some seconds, or the equal ones are removed by 0 (RFC 3261 10.3 step 7)
abbrev pub after_uri : Registration → ℕ → ℕ → List Binding → Uri → List Binding
after_uri r now seconds bindings uri = if seconds == 0 then without_contact uri bindings else put (bound r now uri seconds) bindings

-- after one contact: `*` removes all (RFC 3261 10.3 step 6), and one of another scheme leaves them as they are
abbrev pub after_contact : Registration → ℕ → ContactItem → List Binding → List Binding
after_contact r now Star bindings = []
after_contact r now (Address address) bindings =
    option_map_or (after_uri r now (seconds_for (Address address) r.expires) bindings) (sip_uri address.uri) bindings

-- after all contacts, in their order
abbrev pub after_contacts : Registration → ℕ → List ContactItem → List Binding → List Binding
after_contacts r now [] bindings = bindings
after_contacts r now (contact ∷ others) bindings = after_contacts r now others (after_contact r now contact bindings)

-- the live bindings of the address of record after the request
abbrev pub edited : List Binding → Registration → ℕ → List Binding
edited rows r now = after_contacts r now r.contacts (live r.aor now rows)

-- All updates are made, or none. At most 16 bindings are kept (this project's profile).
abbrev pub updated : List Binding → Registration → ℕ → Result (List Binding) LocationError
updated rows r now =
    if has_bad_star r then Err BadStar
    else if is_too_brief r then Err TooBrief
    else if has_old_cseq r (live r.aor now rows) then Err OldCSeq
    else if nat_lt 16 (length (edited rows r now)) then Err TooMany
    else Ok (of_others r.aor rows ++ edited rows r now)

-- whether there is no Contact: a query (RFC 3261 10.2.3)
abbrev pub asks_nothing : List ContactItem → Bool
asks_nothing [] = true
asks_nothing (contact ∷ others) = false

-- The rows after a REGISTER whose address of record is served here: as they are after a query; else those in which this address has
-- its edited list and every other its own;
-- or the first refusal that applies (RFC 3261 10.3).
abbrev pub registered : List Binding → Registration → ℕ → Result (List Binding) LocationError
registered rows r now = if asks_nothing r.contacts then Ok rows else updated rows r now
