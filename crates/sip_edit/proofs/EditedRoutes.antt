-- Which Routes are left of a request doesn't depend on the value of its top Via.
use Rattle.std.proofs.Common.{◌≡◌, ℕ, Bool, true, false, cond, ◌&&◌, ◌==◌, nat_lt, List, [], ◌∷◌, map, is_some, refl, sym, ap, ◌∙◌}
use Rattle.sip_message_fields.specs.declared.field.Field.{Field}
use Rattle.sip_message_fields.specs.declared.field_name.FieldName.TheVariants as Name
use Rattle.sip_message_fields.specs.FieldName.{is_same_name}
use Rattle.sip_message_fields.specs.Values.{values_of, with_first}
use Rattle.sip_route.specs.declared.own.Own.{Own}
use Rattle.sip_route.specs.declared.routes_kept.RoutesKept.{RoutesKept}
use Rattle.sip_route.specs.RoutesKept.{stays, behind, behind_route, fields_kept, kept_of}
use Rattle.sip_route.specs.Way.{fields_left, restored_of}
use Rattle.sip_route.proofs.Kept as Left
use Rattle.sip_edit.proofs.Beside.{apart, edited}

abbrev with_via : List ℕ → List Field → List Field
with_via value fields = with_first Name.Via value fields

-- ---- a field with another value

abbrev kept_by : Bool → Field → List Field → List Field
kept_by s field others = cond s (field ∷ others) others

-- the top Via: it is no Route
top_by : (u : Bool) (value : List ℕ) (routes : RoutesKept) (field : Field) (fields : List Field) → is_same_name field.name Name.Via ≡ true
    → is_same_name field.name Name.Route ≡ u → (true && u) ≡ false →
    kept_by (cond u (routes.skipped == 0 && nat_lt 0 routes.kept) true) (record field { value = value }) (fields_kept (cond u (behind_route routes) routes) fields)
    ≡ with_via value (kept_by (cond u (routes.skipped == 0 && nat_lt 0 routes.kept) true) field (fields_kept (cond u (behind_route routes) routes) fields))
top_by true value routes field fields is_via is_route never = absurd cc
top_by false value routes field fields is_via is_route never =
    sym (ap (λ (t : Bool). cond t (record field { value = value } ∷ fields_kept routes fields) (field ∷ with_via value (fields_kept routes fields))) is_via)

-- any other field
other_by : (s : Bool) (value : List ℕ) (field : Field) (others edited_others : List Field) → is_same_name field.name Name.Via ≡ false
    → edited_others ≡ with_via value others →
    kept_by s field edited_others ≡ with_via value (kept_by s field others)
other_by true value field others edited_others is_via rest =
    ap (λ (w : List Field). field ∷ w) rest ∙ sym (ap (λ (t : Bool). cond t (record field { value = value } ∷ others) (field ∷ with_via value others)) is_via)
other_by false value field others edited_others is_via rest = rest

kept_of_field : (t : Bool) (value : List ℕ) (routes : RoutesKept) (field : Field) (fields : List Field) → is_same_name field.name Name.Via ≡ t →
    fields_kept (behind routes field) (with_via value fields) ≡ with_via value (fields_kept (behind routes field) fields) →
    fields_kept routes (cond t (record field { value = value } ∷ fields) (field ∷ with_via value fields)) ≡ with_via value (fields_kept routes (field ∷ fields))
kept_of_field true value routes field fields is_via rest =
    top_by (is_same_name field.name Name.Route) value routes field fields is_via refl
    (ap (λ (t : Bool). t && is_same_name field.name Name.Route) (sym is_via) ∙ apart Name.Via Name.Route field.name refl)
kept_of_field false value routes field fields is_via rest =
    other_by (stays routes field) value field (fields_kept (behind routes field) fields) (fields_kept (behind routes field) (with_via value fields)) is_via rest

kept_edited : (value : List ℕ) (routes : RoutesKept) (fields : List Field) → fields_kept routes (with_via value fields) ≡ with_via value (fields_kept routes fields)
kept_edited value routes [] = refl
kept_edited value routes (field ∷ fields) =
    kept_of_field (is_same_name field.name Name.Via) value routes field fields refl (kept_edited value (behind routes field) fields)

-- ---- the Routes

same_routes : (value : List ℕ) (fields : List Field) → values_of Name.Route (with_via value fields) ≡ values_of Name.Route fields
same_routes value fields = ap (λ (w : List Field). map (λ (f : Field). f.value) w) (edited Name.Via Name.Route value fields refl)

abbrev kept_with : Own → List ℕ → List (List ℕ) → RoutesKept
kept_with own uri routes = kept_of own (is_some (restored_of own uri routes)) routes

left_edited : (own : Own) (uri value : List ℕ) (fields : List Field) → fields_left own uri (with_via value fields) ≡ with_via value (fields_left own uri fields)
left_edited own uri value fields =
    sym (Left.kept_is own uri (with_via value fields))
    ∙ ap (λ (w : List (List ℕ)). fields_kept (kept_with own uri w) (with_via value fields)) (same_routes value fields)
    ∙ kept_edited value (kept_with own uri (values_of Name.Route fields)) fields
    ∙ ap (with_via value) (Left.kept_is own uri fields)

pub left_is : (own : Own) (uri value : List ℕ) (routes : RoutesKept) (fields : List Field) → fields_kept routes fields ≡ fields_left own uri fields →
    fields_kept routes (with_first Name.Via value fields) ≡ fields_left own uri (with_first Name.Via value fields)
left_is own uri value routes fields left = kept_edited value routes fields ∙ ap (with_via value) left ∙ sym (left_edited own uri value fields)
