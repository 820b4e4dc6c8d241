-- What makes a request a bad one: 400 Bad Request (RFC 3261 16.3 step 1, 21.4.1).
use Rattle.std.specs.Prelude.{ℕ, Bool, true, false, ◌&&◌, not, nat_lt, List, [], ◌∷◌, length, codes, is_some, is_ok, Option, Some, None}
use Rattle.std.specs.Option.{option_map_or}
use Rattle.std.specs.List.{list_all, list_any}
use Rattle.std.specs.Str.{byte, bytes_eq}
use Rattle.sip_text.specs.Words.{is_same_text}
use Rattle.sip_uri.specs.Uri.{text_of}
use Rattle.sip_uri.specs.Reading.{reading_of}
use Rattle.sip_text.specs.Splits.{split_at_byte}
use Rattle.sip_message_fields.specs.declared.field_name.FieldName.TheVariants as Name
use Rattle.sip_header.specs.declared.name_addr.AnyUri.{AnyUri}
use Rattle.sip_header.specs.declared.name_addr.AnyUri.TheVariants.{Sip, Other}
use Rattle.sip_header.specs.declared.contact_item.ContactItem.{ContactItem}
use Rattle.sip_header.specs.declared.contact_item.ContactItem.TheVariants.{Star, Address}
use Rattle.sip_header.specs.declared.max_forwards.MaxForwards.{MaxForwards}
use Rattle.sip_header.specs.declared.max_forwards.MaxForwards.TheVariants.{Absent, Hops, Malformed}
use Rattle.sip_message_fields.specs.Values.{values_of}
use Rattle.sip_header.specs.Via.{via_of}
use Rattle.sip_header.specs.Route.{route_of}
use Rattle.sip_header.specs.ContactItem.{contact_of}
use Rattle.sip_header.specs.MaxForwards.{max_forwards_of}
use Rattle.sip_validate.specs.UncheckedRequest.{UncheckedRequest, is_register}

-- fewer bytes of the body came than Content-Length says (RFC 3261 18.3)
abbrev pub has_short_body : UncheckedRequest → Bool
has_short_body r = r.short

-- From, To, Call-ID or CSeq is missing, repeated or malformed; a CSeq of 2 ^ 31 or more is malformed (RFC 3261 8.1.1, 20.16)
abbrev pub lacks_core_field : UncheckedRequest → Bool
lacks_core_field r = not (is_some r.core)

-- the method of CSeq is another than the request's (RFC 3261 8.1.1.5)
abbrev pub has_other_cseq_method : UncheckedRequest → Bool
has_other_cseq_method r = option_map_or (λ c. not (bytes_eq c.cseq.method r.method)) r.core false

-- whether a Max-Forwards is malformed
abbrev pub is_malformed : MaxForwards → Bool
is_malformed Absent = false
is_malformed (Hops n) = false
is_malformed Malformed = true

-- Max-Forwards is repeated, or isn't 0 to 255; a request without one is no bad one (RFC 3261 16.3 step 3, 20.22)
abbrev pub has_bad_max_forwards : UncheckedRequest → Bool
has_bad_max_forwards r = is_malformed (max_forwards_of r.fields)

-- whether what stands before the first `:` is `sip`, in any case
abbrev pub has_sip_scheme : List ℕ → Bool
has_sip_scheme uri = option_map_or (λ x. is_same_text x.0 (codes "sip")) (split_at_byte (byte ":") uri) false

-- the Request-URI, as it came, begins with `sip:` and isn't a SIP URI (RFC 3261 16.3 step 1, 19.1.1)
abbrev pub has_bad_uri : UncheckedRequest → Bool
has_bad_uri r = has_sip_scheme r.uri && not (is_ok (reading_of r.uri))

-- an item of Via, Route, Record-Route or Contact is malformed (RFC 3261 20.42, 20.34, 20.30, 20.10)
abbrev pub has_bad_item : UncheckedRequest → Bool
has_bad_item r =
    not
    (list_all (λ value. is_some (via_of value)) (values_of Name.Via r.fields)
    && list_all (λ value. is_some (route_of value)) (values_of Name.Route r.fields)
    && list_all (λ value. is_some (route_of value)) (values_of Name.RecordRoute r.fields)
    && list_all (λ value. is_some (contact_of value)) (values_of Name.Contact r.fields))

-- whether a URI is a SIP or SIPS URI
abbrev pub is_sip : AnyUri → Bool
is_sip (Sip uri) = true
is_sip (Other text) = false

-- in a REGISTER, To is neither a SIP nor a SIPS URI (RFC 3261 10.2, 10.3 step 5)
abbrev pub registers_other_scheme : UncheckedRequest → Bool
registers_other_scheme r = is_register r && option_map_or (λ c. not (is_sip c.to.uri)) r.core false

-- a SIP or SIPS URI of at most 512 bytes (the limit is this project's profile)
abbrev pub may_be_bound : AnyUri → Bool
may_be_bound (Sip uri) = not (nat_lt 512 (length (text_of uri)))
may_be_bound (Other text) = false

-- a malformed item is a fault of its own
abbrev pub is_bindable : Option ContactItem → Bool
is_bindable None = true
is_bindable (Some Star) = true
is_bindable (Some (Address address)) = may_be_bound address.uri

-- in a REGISTER, a Contact is neither `*` nor a SIP or SIPS URI, or is longer than 512 bytes (RFC 3261 10.2.1, 10.3 step 6, in this
-- project's profile)
abbrev pub binds_other_contact : UncheckedRequest → Bool
binds_other_contact r = is_register r && not (list_all (λ value. is_bindable (contact_of value)) (values_of Name.Contact r.fields))

-- all of them
abbrev pub faults : List (UncheckedRequest → Bool)
faults =
    has_short_body
    ∷ lacks_core_field
    ∷ has_other_cseq_method
    ∷ has_bad_max_forwards
    ∷ has_bad_uri
    ∷ has_bad_item
    ∷ registers_other_scheme
    ∷ binds_other_contact
    ∷ []

-- whether a request has one of them
abbrev pub is_bad : UncheckedRequest → Bool
is_bad r = list_any (λ has_fault. has_fault r) faults
