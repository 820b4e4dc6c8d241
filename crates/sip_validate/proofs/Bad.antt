-- A request is a bad one by any of the faults.
use Rattle.std.proofs.Common.{◌≡◌, Bool, true, false, ◌&&◌, ◌||◌, not, is_some, refl, ◌∙◌}
use Rattle.std.specs.List.{list_all}
use Rattle.std.proofs.lemmas.Bool.{or_left, or_right}
use Rattle.sip_message_fields.specs.declared.field_name.FieldName.TheVariants as Name
use Rattle.sip_message_fields.specs.Values.{values_of}
use Rattle.sip_header.specs.Via.{via_of}
use Rattle.sip_header.specs.Route.{route_of}
use Rattle.sip_header.specs.ContactItem.{contact_of}
use Rattle.sip_validate.specs.UncheckedRequest.{UncheckedRequest}
use Rattle.sip_validate.specs.Faults.{has_short_body, lacks_core_field, has_other_cseq_method, has_bad_max_forwards, has_bad_uri, has_bad_item, registers_other_scheme}
use Rattle.sip_validate.specs.Faults.{binds_other_contact, is_bad}

pub by_short : (r : UncheckedRequest) → has_short_body r ≡ true → is_bad r ≡ true
by_short r h = or_left (has_short_body r) _ h

pub by_method : (r : UncheckedRequest) → has_other_cseq_method r ≡ true → is_bad r ≡ true
by_method r h = or_right (has_short_body r) _ (or_right (lacks_core_field r) _ (or_left (has_other_cseq_method r) _ h))

pub by_hops : (r : UncheckedRequest) → has_bad_max_forwards r ≡ true → is_bad r ≡ true
by_hops r h = or_right (has_short_body r) _ (or_right (lacks_core_field r) _ (or_right (has_other_cseq_method r) _ (or_left (has_bad_max_forwards r) _ h)))

pub by_uri : (r : UncheckedRequest) → has_bad_uri r ≡ true → is_bad r ≡ true
by_uri r h =
    or_right (has_short_body r) _ (or_right (lacks_core_field r) _ (or_right (has_other_cseq_method r) _
    (or_right (has_bad_max_forwards r) _ (or_left (has_bad_uri r) _ h))))

pub by_scheme : (r : UncheckedRequest) → registers_other_scheme r ≡ true → is_bad r ≡ true
by_scheme r h =
    or_right (has_short_body r) _ (or_right (lacks_core_field r) _ (or_right (has_other_cseq_method r) _
    (or_right (has_bad_max_forwards r) _ (or_right (has_bad_uri r) _ (or_right (has_bad_item r) _ (or_left (registers_other_scheme r) _ h))))))

-- a test that fails leaves the others
passed : (a b : Bool) → a ≡ false → (a || b) ≡ b
passed false b h = refl
passed true b h = absurd cc

-- what is no matter of a test that fails
around : (item scheme contact : Bool) → scheme ≡ false → (item || (scheme || (contact || false))) ≡ (item || contact)
around true scheme contact h = refl
around false false true h = refl
around false false false h = refl
around false true contact h = absurd cc

-- where the others fail, the items decide
pub by_items : (r : UncheckedRequest) → has_short_body r ≡ false → lacks_core_field r ≡ false → has_other_cseq_method r ≡ false → has_bad_max_forwards r ≡ false
    → has_bad_uri r ≡ false → registers_other_scheme r ≡ false → is_bad r ≡ (has_bad_item r || binds_other_contact r)
by_items r short core method hops uri scheme =
    passed (has_short_body r) _ short
    ∙ passed (lacks_core_field r) _ core
    ∙ passed (has_other_cseq_method r) _ method
    ∙ passed (has_bad_max_forwards r) _ hops
    ∙ passed (has_bad_uri r) _ uri
    ∙ around (has_bad_item r) (registers_other_scheme r) (binds_other_contact r) scheme

no_item : (vias routes record_routes contacts binds : Bool) → vias ≡ true → routes ≡ true → record_routes ≡ true → (contacts && not binds) ≡ true
    → true ≡ not (not (vias && routes && record_routes && contacts) || binds)
no_item true true true true false v r rr c = refl
no_item true true true true true v r rr c = absurd cc
no_item true true true false binds v r rr c = absurd cc
no_item true true false contacts binds v r rr c = absurd cc
no_item true false record_routes contacts binds v r rr c = absurd cc
no_item false routes record_routes contacts binds v r rr c = absurd cc

-- no item is bad
pub no_bad_item : (r : UncheckedRequest) → list_all (λ value. is_some (via_of value)) (values_of Name.Via r.fields) ≡ true
    → list_all (λ value. is_some (route_of value)) (values_of Name.Route r.fields) ≡ true
    → list_all (λ value. is_some (route_of value)) (values_of Name.RecordRoute r.fields) ≡ true
    → (list_all (λ value. is_some (contact_of value)) (values_of Name.Contact r.fields) && not (binds_other_contact r)) ≡ true
    → true ≡ not (has_bad_item r || binds_other_contact r)
no_bad_item r vias routes record_routes contacts =
    no_item (list_all (λ value. is_some (via_of value)) (values_of Name.Via r.fields)) (list_all (λ value. is_some (route_of value)) (values_of Name.Route r.fields))
    (list_all (λ value. is_some (route_of value)) (values_of Name.RecordRoute r.fields))
    (list_all (λ value. is_some (contact_of value)) (values_of Name.Contact r.fields)) (binds_other_contact r) vias routes record_routes contacts
