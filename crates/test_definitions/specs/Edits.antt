-- Requests that go on, and those that this server makes for them.
use Rattle.std.specs.Prelude.{ℕ, Bool, List, [], ◌∷◌, map, take}
use Rattle.sip_uri.specs.declared.addr.Addr.{Addr}
use Rattle.sip_message_fields.specs.declared.field.Field.{Field}
use Rattle.sip_message_fields.specs.declared.field_name.FieldName.TheVariants as Name
use Rattle.sip_message_fields.specs.Named.{all_named}
use Rattle.sip_header.specs.FieldExamples.{fields_of}
use Rattle.sip_route.specs.Examples.{own, sample_realm}
use Rattle.sip_edit.specs.Onward.{onward_base}
use Rattle.sip_edit.specs.OnwardExamples.{invite, options, busy_with, tagged_to}
use Rattle.sip_edit.specs.OwnRequests.{ack_of, cancel_of}

-- the source of the example of RFC 3261 18.2.1
abbrev pub biloxi : Addr
biloxi = record { ip = 192 ∷ 0 ∷ 2 ∷ 4 ∷ []; port = 5060 }

-- the Routes of the ACK of a 486 to a request that was sent with these
abbrev pub acks_routes : List (List ℕ) → List Field
acks_routes routes = all_named Name.Route (ack_of (options (fields_of Name.Route routes)) (busy_with (tagged_to ∷ []))).fields

-- the Routes of the CANCEL of such a request
abbrev pub cancels_routes : List (List ℕ) → List Field
cancels_routes routes = all_named Name.Route (cancel_of (options (fields_of Name.Route routes))).fields

-- the value of the first field that is the same of an INVITE for each of its targets, with this server's Record-Route or without
abbrev pub first_values : Bool → List (List ℕ)
first_values records_route = map (λ f. f.value) (take 1 (onward_base own sample_realm records_route invite).fields)
