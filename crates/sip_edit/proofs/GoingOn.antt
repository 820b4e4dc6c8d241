-- The fields of a request that goes on.
use Rattle.std.proofs.Common.{◌≡◌, ℕ, Bool, true, false, not, cond, List, [], ◌∷◌, ◌++◌, refl, ap, ◌∙◌, append-nil, Option, Some, None}
use Rattle.std.specs.Prelude.{decimal}
use Rattle.sip_message_fields.specs.declared.field.Field.{Field}
use Rattle.sip_message_fields.specs.declared.field_name.FieldName.TheVariants as Name
use Rattle.sip_message_fields.specs.FieldName.{is_same_name}
use Rattle.sip_message_form.specs.declared.message.Message.{Message}
use Rattle.sip_route.specs.header.declared.max_forwards.MaxForwards.{MaxForwards}
use Rattle.sip_route.specs.header.declared.max_forwards.MaxForwards.TheVariants.{Absent, Hops, Malformed}
use Rattle.sip_route.specs.header.MaxForwards.{max_forwards_of}
use Rattle.sip_route.specs.declared.own.Own.{Own}
use Rattle.sip_route.specs.declared.routes_kept.RoutesKept.{RoutesKept}
use Rattle.sip_route.specs.RoutesKept.{stays, behind, fields_kept}
use Rattle.sip_route.specs.Way.{fields_left, request_uri}
use Rattle.sip_edit.specs.Onward.{is_for_realm, without_credentials, lowered, onward_fields, with_value, record_route_field, onward_base}
use Rattle.sip_edit.specs.Lowering.{hops_left, default_hops, with_hops, lowered_field, hops_behind, fields_on, fields_by}

-- ---- field by field

hops_front : (hops : Option ℕ) (field : Field) (fields : List Field) → with_hops hops (field ∷ fields) ≡ lowered_field hops field
    ∷ with_hops (hops_behind hops field) fields
hops_front None field fields = refl
hops_front (Some n) field fields = by_test (is_same_name field.name Name.MaxForwards)
  where
    by_test : (t : Bool) → cond t (record field { value = decimal n } ∷ fields) (field ∷ with_value Name.MaxForwards (decimal n) fields)
        ≡ cond t (record field { value = decimal n }) field ∷ with_hops (cond t None (Some n)) fields
    by_test true = refl
    by_test false = refl

abbrev rest_on : Option ℕ → List ℕ → List Field → List Field
rest_on hops realm fields = with_hops hops (without_credentials realm fields)

pub taken_off : (hops : Option ℕ) (routes : RoutesKept) (realm : List ℕ) (field : Field) (fields : List Field) → stays routes field ≡ false →
    fields_on hops routes realm (field ∷ fields) ≡ fields_on hops (behind routes field) realm fields
taken_off hops routes realm field fields is = ap (λ (t : Bool). rest_on hops realm (cond t (field ∷ fields_kept (behind routes field) fields)
    (fields_kept (behind routes field) fields))) is

stayed : (hops : Option ℕ) (routes : RoutesKept) (realm : List ℕ) (field : Field) (fields : List Field) → stays routes field ≡ true →
    fields_on hops routes realm (field ∷ fields) ≡ rest_on hops realm (field ∷ fields_kept (behind routes field) fields)
stayed hops routes realm field fields is = ap (λ (t : Bool). rest_on hops realm (cond t (field ∷ fields_kept (behind routes field) fields)
    (fields_kept (behind routes field) fields))) is

pub dropped : (hops : Option ℕ) (routes : RoutesKept) (realm : List ℕ) (field : Field) (fields : List Field) → stays routes field ≡ true → is_for_realm realm field ≡ true
    →
    fields_on hops routes realm (field ∷ fields) ≡ fields_on hops (behind routes field) realm fields
dropped hops routes realm field fields is for_realm =
    stayed hops routes realm field fields is
    ∙ ap (λ (t : Bool). with_hops hops (cond (not t) (field ∷ without_credentials realm (fields_kept (behind routes field) fields))
    (without_credentials realm (fields_kept (behind routes field) fields)))) for_realm

pub passed_on : (hops : Option ℕ) (routes : RoutesKept) (realm : List ℕ) (field : Field) (fields : List Field) → stays routes field ≡ true
    → is_for_realm realm field ≡ false →
    fields_on hops routes realm (field ∷ fields) ≡ lowered_field hops field ∷ fields_on (hops_behind hops field) (behind routes field) realm fields
passed_on hops routes realm field fields is for_realm =
    stayed hops routes realm field fields is
    ∙ ap (λ (t : Bool). with_hops hops (cond (not t) (field ∷ without_credentials realm (fields_kept (behind routes field) fields))
    (without_credentials realm (fields_kept (behind routes field) fields)))) for_realm
    ∙ hops_front hops field (without_credentials realm (fields_kept (behind routes field) fields))

pub none_left : (hops : Option ℕ) (routes : RoutesKept) (realm : List ℕ) → fields_on hops routes realm [] ≡ []
none_left None routes realm = refl
none_left (Some n) routes realm = refl

-- ---- of a request

lowered_is : (hops : MaxForwards) (fields : List Field) → with_hops (hops_left hops) fields ++ default_hops hops ≡ lowered hops fields
lowered_is Absent fields = refl
lowered_is (Hops n) fields = append-nil (lowered (Hops n) fields)
lowered_is Malformed fields = append-nil fields

pub fields_are : (own : Own) (realm : List ℕ) (m : Message) (routes : RoutesKept) → fields_kept routes m.fields ≡ fields_left own (request_uri m.start) m.fields →
    fields_by routes realm m.fields ≡ onward_fields own realm m
fields_are own realm m routes is =
    ap (λ (w : List Field). with_hops (hops_left (max_forwards_of m.fields)) (without_credentials realm w) ++ default_hops (max_forwards_of m.fields)) is
    ∙ lowered_is (max_forwards_of m.fields) (without_credentials realm (fields_left own (request_uri m.start) m.fields))

pub base_is : (own : Own) (realm : List ℕ) (records_route : Bool) (m base : Message) (routes : RoutesKept) →
    base ≡ record m { fields = cond records_route (record_route_field own ∷ fields_by routes realm m.fields) (fields_by routes realm m.fields) } →
    fields_kept routes m.fields ≡ fields_left own (request_uri m.start) m.fields → base ≡ onward_base own realm records_route m
base_is own realm records_route m base routes is left =
    is ∙ ap (λ (w : List Field). record m { fields = cond records_route (record_route_field own ∷ w) w }) (fields_are own realm m routes left)
