-- The fields of a request behind the last that is edited go on as they are.
use Rattle.std.proofs.Common.{◌≡◌, ℕ, Bool, true, false, not, cond, ◌+◌, ◌-◌, ◌<◌, ◌≤◌, List, [], ◌∷◌, ◌++◌, length, take, drop, get_or, refl, sym, ap, subst, ◌∙◌, arith, append_assoc, flat_map}
use Rattle.std.proofs.Common.{Option, Some, None}
use Rattle.std.specs.Prelude.{◌&&◌, ◌||◌}
use Rattle.std.specs.List.{list_all}
use Rattle.std.proofs.lemmas.List.{drop_all, at_drop_more, drop-drop, take-append-drop, length-drop}
use Rattle.std.proofs.lemmas.Grind.{flat_map-append}
use Rattle.sip_message_fields.specs.declared.field.Field.{Field}
use Rattle.sip_message_fields.specs.declared.field_name.FieldName.TheVariants as Name
use Rattle.sip_message_fields.specs.FieldName.{is_same_name}
use Rattle.sip_message_form.specs.Text.{field_text}
use Rattle.sip_route.specs.declared.routes_kept.RoutesKept.{RoutesKept}
use Rattle.sip_route.specs.RoutesKept.{stays}
use Rattle.sip_route.specs.RoutesKept as Routes
use Rattle.sip_edit.specs.Onward.{is_for_realm}
use Rattle.sip_edit.specs.Lowering.{lowered_field, hops_behind, fields_on, goes_as_it_is}
use Rattle.sip_edit.proofs.GoingOn as Going
use Rattle.sip_edit.proofs.TailTexts.{stays_there, routes_behind, for_no_realm, not_lowered, hops_stay}

both : (a b : Bool) → (a && b) ≡ true → (a ≡ true) × (b ≡ true)
both true b e = (refl, e)
both false b e = absurd cc

neither : (a b c : Bool) → not (a || b || c) ≡ true → (a ≡ false) × ((b ≡ false) × (c ≡ false))
neither true b c e = absurd cc
neither false true c e = absurd cc
neither false false true e = absurd cc
neither false false false e = (refl, (refl, refl))

-- one that goes on as it is, in front of others
as_it_is : (hops : Option ℕ) (routes : RoutesKept) (realm : List ℕ) (field : Field) (fields : List Field) → goes_as_it_is field ≡ true
    → fields_on hops routes realm (field ∷ fields) ≡ field ∷ fields_on hops routes realm fields
as_it_is hops routes realm field fields e =
    let none = neither (is_same_name field.name Name.Route) (is_same_name field.name Name.ProxyAuthorization) (is_same_name field.name Name.MaxForwards) e in
    Going.passed_on hops routes realm field fields (stays_there routes field none.0) (for_no_realm realm field none.1.0)
    ∙ ap (λ (w : Field). w ∷ fields_on (hops_behind hops field) (Routes.behind routes field) realm fields) (not_lowered hops field none.1.1)
    ∙ ap (λ (h : Option ℕ). field ∷ fields_on h (Routes.behind routes field) realm fields) (hops_stay hops field none.1.1)
    ∙ ap (λ (r : RoutesKept). field ∷ fields_on hops r realm fields) (routes_behind routes field none.0)

all_as_they_are : (hops : Option ℕ) (routes : RoutesKept) (realm : List ℕ) (fields : List Field) → list_all goes_as_it_is fields ≡ true
    → fields_on hops routes realm fields ≡ fields
all_as_they_are hops routes realm [] e = Going.none_left hops routes realm
all_as_they_are hops routes realm (field ∷ fields) e =
    let first = both (goes_as_it_is field) (list_all goes_as_it_is fields) e in
    as_it_is hops routes realm field fields first.0 ∙ ap (λ (w : List Field). field ∷ w) (all_as_they_are hops routes realm fields first.1)

-- some fields in front of those that go on as they are
cut_at : (hops : Option ℕ) (routes : RoutesKept) (realm : List ℕ) (front others : List Field) → list_all goes_as_it_is others ≡ true
    → fields_on hops routes realm (front ++ others) ≡ fields_on hops routes realm front ++ others
cut_at hops routes realm [] others e = all_as_they_are hops routes realm others e ∙ ap (λ (w : List Field). w ++ others) (sym (Going.none_left hops routes realm))
cut_at hops routes realm (field ∷ front) others e = by_stay (stays routes field) refl (λ h r. cut_at h r realm front others e)
  where
    by_realm : (t : Bool) → is_for_realm realm field ≡ t → stays routes field ≡ true
        → ((h : Option ℕ) (r : RoutesKept) → fields_on h r realm (front ++ others) ≡ fields_on h r realm front ++ others)
        → fields_on hops routes realm (field ∷ (front ++ others)) ≡ fields_on hops routes realm (field ∷ front) ++ others
    by_realm true for_realm stay behind =
        Going.dropped hops routes realm field (front ++ others) stay for_realm ∙ behind hops (Routes.behind routes field)
        ∙ ap (λ (w : List Field). w ++ others) (sym (Going.dropped hops routes realm field front stay for_realm))
    by_realm false for_realm stay behind =
        Going.passed_on hops routes realm field (front ++ others) stay for_realm
        ∙ ap (λ (w : List Field). lowered_field hops field ∷ w) (behind (hops_behind hops field) (Routes.behind routes field))
        ∙ ap (λ (w : List Field). w ++ others) (sym (Going.passed_on hops routes realm field front stay for_realm))

    by_stay : (t : Bool) → stays routes field ≡ t
        → ((h : Option ℕ) (r : RoutesKept) → fields_on h r realm (front ++ others) ≡ fields_on h r realm front ++ others)
        → fields_on hops routes realm (field ∷ (front ++ others)) ≡ fields_on hops routes realm (field ∷ front) ++ others
    by_stay true stay behind = by_realm (is_for_realm realm field) refl stay behind
    by_stay false stay behind =
        Going.taken_off hops routes realm field (front ++ others) stay ∙ behind hops (Routes.behind routes field)
        ∙ ap (λ (w : List Field). w ++ others) (sym (Going.taken_off hops routes realm field front stay))

pub none_behind : (fields : List Field) → list_all goes_as_it_is (drop (length fields) fields) ≡ true
none_behind fields = ap (list_all goes_as_it_is) (drop_all (length fields) fields (omega arith))

pub one_more : (fields : List Field) (front : ℕ) (field : Field) → 0 < front → front ≤ length fields → list_all goes_as_it_is (drop front fields) ≡ true
    → goes_as_it_is (get_or fields (front - 1) field) ≡ true → list_all goes_as_it_is (drop (front - 1) fields) ≡ true
one_more fields front field some within others is =
    let next : front - 1 + 1 ≡ front = omega (arith, some) in
    at_drop_more (list_all goes_as_it_is) fields (front - 1) field (omega (arith, some, within))
    ∙ ap (λ (n : ℕ). list_all goes_as_it_is (get_or fields (front - 1) field ∷ drop n fields)) next ∙ rw is others

-- the texts of both parts
pub cut_behind : (hops : Option ℕ) (routes : RoutesKept) (realm : List ℕ) (whole fields front others : List Field) (skipped n left : ℕ) (out middle new : List ℕ)
    → fields ≡ drop skipped whole → front ≡ take n fields → others ≡ drop n fields → list_all goes_as_it_is (drop n fields) ≡ true → skipped ≤ length whole
    → left ≡ length whole - length others → n ≤ length fields
    → middle ≡ out ++ flat_map field_text (fields_on hops routes realm front) → new ≡ middle ++ flat_map field_text (drop left whole)
    → new ≡ out ++ flat_map field_text (fields_on hops routes realm (drop skipped whole))
cut_behind hops routes realm whole fields front others skipped n left out middle new is cut tail as_they_are within counted below first second =
    let there : left ≡ skipped + n = omega (
      arith,
      counted,
      within,
      below,
      ap length tail,
      length-drop n fields,
      ap length is,
      length-drop skipped whole,
    ) in
    let rest : drop left whole ≡ drop n fields = ap (λ (k : ℕ). drop k whole) there ∙ sym (drop-drop n skipped whole) ∙ ap (drop n) (sym is) in
    let joined : drop skipped whole ≡ take n fields ++ drop n fields = sym is ∙ sym (take-append-drop n fields) in
    let parts : fields_on hops routes realm (drop skipped whole) ≡ fields_on hops routes realm front ++ drop n fields =
    ap (fields_on hops routes realm) joined ∙ cut_at hops routes realm (take n fields) (drop n fields) as_they_are
    ∙ ap (λ (w : List Field). fields_on hops routes realm w ++ drop n fields) (sym cut) in
    second ∙ ap (λ (w : List ℕ). w ++ flat_map field_text (drop left whole)) first
    ∙ ap (λ (w : List Field). out ++ flat_map field_text (fields_on hops routes realm front) ++ flat_map field_text w) rest
    ∙ append_assoc out (flat_map field_text (fields_on hops routes realm front)) (flat_map field_text (drop n fields))
    ∙ ap (λ (w : List ℕ). out ++ w) (sym (flat_map-append field_text (fields_on hops routes realm front) (drop n fields)))
    ∙ ap (λ (w : List Field). out ++ flat_map field_text w) (sym parts)

-- a name that is none of those that are known
pub unknown_goes : (field : Field) → is_same_name field.name Name.Route ≡ false → is_same_name field.name Name.ProxyAuthorization ≡ false
    → is_same_name field.name Name.MaxForwards ≡ false → true ≡ goes_as_it_is field
unknown_goes field route credentials hops = rw (route, credentials, hops) refl
