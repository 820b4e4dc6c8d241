-- The checks that a request has to pass, in their order, and the status of the first that it doesn't (RFC 3261 16.3, 8.2.2, 10.3).
use Rattle.std.specs.Prelude.{ℕ, Bool, false, ◌&&◌, ◌==◌, not, nat_lt, if◌then◌else◌, List, [], ◌∷◌, length, find, codes, is_some, Option}
use Rattle.std.specs.Prelude.{None, option_map}
use Rattle.std.specs.Option.{option_map_or}
use Rattle.std.specs.Result.{result_ok}
use Rattle.std.specs.List.{list_any, join_by}
use Rattle.std.specs.Str.{bytes_eq}
use Rattle.sip_message_fields.specs.declared.field_name.FieldName.{FieldName}
use Rattle.sip_message_fields.specs.declared.field_name.FieldName.TheVariants as Name
use Rattle.sip_message_fields.specs.declared.field.Field.{Field}
use Rattle.sip_message_form.specs.declared.message.Start.{Start}
use Rattle.sip_message_form.specs.declared.message.Message.{Message}
use Rattle.sip_header.specs.declared.max_forwards.MaxForwards.{MaxForwards}
use Rattle.sip_header.specs.declared.max_forwards.MaxForwards.TheVariants.{Absent, Hops, Malformed}
use Rattle.sip_route.specs.declared.own.Own.{Own}
use Rattle.sip_message_fields.specs.Values.{values_of, first_value}
use Rattle.sip_header.specs.CoreFields.{core_in}
use Rattle.sip_header.specs.Parameters.{tag_of}
use Rattle.sip_header.specs.Via.{via_of}
use Rattle.sip_header.specs.MaxForwards.{max_forwards_of}
use Rattle.sip_route.specs.Own.{is_own_via}
use Rattle.sip_validate.specs.UncheckedRequest.{UncheckedRequest, is_register, unchecked_with}
use Rattle.sip_validate.specs.Faults.{has_sip_scheme, is_bad}

-- ---- the tests behind those of a bad request

-- another version than SIP/2.0 (RFC 3261 7.1, 21.5.6)
abbrev pub has_other_version : UncheckedRequest → Bool
has_other_version r = not (bytes_eq r.version (codes "SIP/2.0"))

-- the Request-URI, without this server's own part of the way, isn't `sip:` (RFC 3261 16.3 step 2)
abbrev pub has_other_scheme : UncheckedRequest → Bool
has_other_scheme r = not (has_sip_scheme r.way.uri)

-- whether a Max-Forwards is 0
abbrev pub is_zero : MaxForwards → Bool
is_zero Absent = false
is_zero (Hops n) = n == 0
is_zero Malformed = false

-- Max-Forwards is 0 (RFC 3261 16.3 step 3); a REGISTER is for this server all the same (10.3)
abbrev pub has_no_hops : UncheckedRequest → Bool
has_no_hops r = not (is_register r) && is_zero (max_forwards_of r.fields)

-- a Via is this server's: a loop, and here a spiral, too (RFC 3261 16.3 step 4, in this project's profile)
abbrev pub has_own_via : UncheckedRequest → Bool
has_own_via r = list_any (λ value. option_map_or (is_own_via r.own) (via_of value) false) (values_of Name.Via r.fields)

-- the field that says which extensions a request needs: of a proxy (RFC 3261 16.3 step 5), and a REGISTER of the registrar (8.2.2.3, 10.3 step 2)
abbrev pub required_by : UncheckedRequest → FieldName
required_by r = if is_register r then Name.Require else Name.ProxyRequire

-- an extension is needed; none is known here
abbrev pub needs_extension : UncheckedRequest → Bool
needs_extension r = is_some (first_value (required_by r) r.fields)

-- the value of Unsupported (RFC 3261 20.40)
abbrev pub unsupported : UncheckedRequest → List ℕ
unsupported r = join_by (λ item. item) (codes ", ") (values_of (required_by r) r.fields)

-- whether To has a tag
abbrev pub is_in_dialog : UncheckedRequest → Bool
is_in_dialog r = option_map_or (λ c. is_some (tag_of c.to.parameters)) r.core false

-- a request outside a dialog wants to go by another place: a Route is left without this server's own (this project's profile)
abbrev pub has_other_route : UncheckedRequest → Bool
has_other_route r = not (is_register r) && not (is_in_dialog r) && nat_lt 0 (length r.way.routes)

-- ---- the table

-- a status, the test that calls for it, and the value of Unsupported
pub record Row : Type 0 where
  pub status : ℕ
  pub applies : UncheckedRequest → Bool
  pub extra : UncheckedRequest → List ℕ

-- a row without Unsupported
abbrev pub refused : ℕ → (UncheckedRequest → Bool) → Row
refused status applies = record { status = status; applies = applies; extra = λ r. [] }

-- the checks, in their order
abbrev pub rows : List Row
rows =
    refused 400 is_bad
    ∷ refused 505 has_other_version
    ∷ refused 416 has_other_scheme
    ∷ refused 483 has_no_hops
    ∷ refused 482 has_own_via
    ∷ record { status = 420; applies = needs_extension; extra = unsupported }
    ∷ refused 400 has_other_route
    ∷ []

-- the first row that applies
abbrev pub refusal : UncheckedRequest → Option (ℕ × List ℕ)
refusal r = option_map (λ row. (row.status, row.extra r)) (find (λ row. row.applies r) rows)

-- ---- a message

-- a request line and fields as a request that is checked, with the core fields that are read; a response is none
abbrev pub unchecked_by : Own → List Field → Bool → Start → Option UncheckedRequest
unchecked_by own fields short start = unchecked_with (result_ok (core_in fields)) own fields short start

-- the request that a message is
abbrev pub unchecked_of : Own → Message → Bool → Option UncheckedRequest
unchecked_of own m short = unchecked_by own m.fields short m.start

-- The status that refuses a request, and the value of Unsupported, which is empty but in a 420; none where it may be served. `short`
-- says that fewer bytes of
-- its body came than its Content-Length says.
abbrev pub refusal_of : Own → Message → Bool → Option (ℕ × List ℕ)
refusal_of own m short = option_map_or refusal (unchecked_of own m short) None

-- whether a request is a bad one: the only refusal of a CANCEL (RFC 3261 9.2, 16.10, in this project's profile)
abbrev pub is_bad_request : Own → Message → Bool → Bool
is_bad_request own m short = option_map_or is_bad (unchecked_of own m short) false
