-- The tail of a request as it is written, field by field, behind its top Via.
use Rattle.std.proofs.Common.{◌≡◌, ℕ, Bool, true, false, cond, ◌&&◌, ◌==◌, nat_lt, List, [], ◌∷◌, ◌++◌, length, map, filter, refl, sym, ap, ◌∙◌, append_assoc, flat_map}
use Rattle.std.proofs.Common.{Option, Some, None}
use Rattle.std.specs.Prelude.{decimal, codes}
use Rattle.std.specs.Option.{option_map_or}
use Rattle.std.specs.Str.{bytes_eq}
use Rattle.std.proofs.lemmas.Slice.Eq.{bytes_eq-Decides}
use Rattle.sip_text.specs.Words.{without_case}
use Rattle.sip_message_fields.specs.declared.field.Field.{Field}
use Rattle.sip_message_fields.specs.declared.field_name.FieldName.{FieldName}
use Rattle.sip_message_fields.specs.declared.field_name.FieldName.TheVariants as Name
use Rattle.sip_message_fields.specs.FieldName.{is_same_name, spelling}
use Rattle.sip_message_fields.specs.Values.{with_first}
use Rattle.sip_message_form.specs.declared.message.Message.{Message}
use Rattle.sip_message_form.specs.Text.{field_text}
use Rattle.sip_route.specs.header.declared.max_forwards.MaxForwards.{MaxForwards}
use Rattle.sip_route.specs.header.MaxForwards.{hops_in, max_forwards_of}
use Rattle.sip_header_credentials.specs.Credentials.{credentials_of, is_realm}
use Rattle.sip_route.specs.declared.routes_kept.RoutesKept.{RoutesKept}
use Rattle.sip_route.specs.RoutesKept.{stays, behind_route}
use Rattle.sip_route.specs.RoutesKept as Routes
use Rattle.sip_edit.specs.Onward.{is_for_realm}
use Rattle.sip_edit.specs.Lowering.{hops_left, default_hops, lowered_field, hops_behind, fields_on, fields_by}
use Rattle.sip_edit.specs.Tail.{behind, tail_of, others_behind}
use Rattle.sip_edit.proofs.GoingOn as Going

-- ---- field by field

pub taken_off : (hops : Option ℕ) (routes : RoutesKept) (realm : List ℕ) (field : Field) (fields : List Field) → stays routes field ≡ false →
    flat_map field_text (fields_on hops routes realm (field ∷ fields)) ≡ flat_map field_text (fields_on hops (Routes.behind routes field) realm fields)
taken_off hops routes realm field fields is = ap (λ (w : List Field). flat_map field_text w) (Going.taken_off hops routes realm field fields is)

pub dropped : (hops : Option ℕ) (routes : RoutesKept) (realm : List ℕ) (field : Field) (fields : List Field) → stays routes field ≡ true → is_for_realm realm field ≡ true
    →
    flat_map field_text (fields_on hops routes realm (field ∷ fields)) ≡ flat_map field_text (fields_on hops (Routes.behind routes field) realm fields)
dropped hops routes realm field fields is for_realm = ap (λ (w : List Field). flat_map field_text w) (Going.dropped hops routes realm field fields is for_realm)

pub passed_on : (hops : Option ℕ) (routes : RoutesKept) (realm : List ℕ) (field : Field) (fields : List Field) → stays routes field ≡ true
    → is_for_realm realm field ≡ false →
    flat_map field_text (fields_on hops routes realm (field ∷ fields))
    ≡ field_text (lowered_field hops field) ++ flat_map field_text (fields_on (hops_behind hops field) (Routes.behind routes field) realm fields)
passed_on hops routes realm field fields is for_realm = ap (λ (w : List Field). flat_map field_text w) (Going.passed_on hops routes realm field fields is for_realm)

pub none_left : (hops : Option ℕ) (routes : RoutesKept) (realm : List ℕ) → flat_map field_text (fields_on hops routes realm []) ≡ []
none_left hops routes realm = ap (λ (w : List Field). flat_map field_text w) (Going.none_left hops routes realm)

-- ---- a top Via is nothing else

via_is : (name : FieldName) → is_same_name name Name.Via ≡ true → without_case (spelling name) ≡ without_case (codes "Via")
via_is name e = (bytes_eq-Decides (without_case (spelling name)) (without_case (codes "Via"))).0 e

no_route : (name : FieldName) → is_same_name name Name.Via ≡ true → is_same_name name Name.Route ≡ false
no_route name e = ap (λ (w : List ℕ). bytes_eq w (without_case (codes "Route"))) (via_is name e)

no_credentials : (name : FieldName) → is_same_name name Name.Via ≡ true → is_same_name name Name.ProxyAuthorization ≡ false
no_credentials name e = ap (λ (w : List ℕ). bytes_eq w (without_case (codes "Proxy-Authorization"))) (via_is name e)

no_hops : (name : FieldName) → is_same_name name Name.Via ≡ true → is_same_name name Name.MaxForwards ≡ false
no_hops name e = ap (λ (w : List ℕ). bytes_eq w (without_case (codes "Max-Forwards"))) (via_is name e)

pub stays_there : (routes : RoutesKept) (top : Field) → is_same_name top.name Name.Route ≡ false → stays routes top ≡ true
stays_there routes top differs = ap (λ (t : Bool). cond t (routes.skipped == 0 && nat_lt 0 routes.kept) true) differs

pub routes_behind : (routes : RoutesKept) (top : Field) → is_same_name top.name Name.Route ≡ false → Routes.behind routes top ≡ routes
routes_behind routes top differs = ap (λ (t : Bool). cond t (behind_route routes) routes) differs

pub for_no_realm : (realm : List ℕ) (top : Field) → is_same_name top.name Name.ProxyAuthorization ≡ false → is_for_realm realm top ≡ false
for_no_realm realm top differs = ap (λ (t : Bool). t && option_map_or (λ c. is_realm realm c.realm) (credentials_of top.value) false) differs

pub not_lowered : (hops : Option ℕ) (top : Field) → is_same_name top.name Name.MaxForwards ≡ false → lowered_field hops top ≡ top
not_lowered None top differs = refl
not_lowered (Some n) top differs = ap (λ (t : Bool). cond t (record top { value = decimal n }) top) differs

pub hops_stay : (hops : Option ℕ) (top : Field) → is_same_name top.name Name.MaxForwards ≡ false → hops_behind hops top ≡ hops
hops_stay None top differs = refl
hops_stay (Some n) top differs = ap (λ (t : Bool). cond t None (Some n)) differs

top_goes_on : (hops : Option ℕ) (routes : RoutesKept) (realm : List ℕ) (top : Field) (others : List Field) → is_same_name top.name Name.Via ≡ true →
    fields_on hops routes realm (top ∷ others) ≡ top ∷ fields_on hops routes realm others
top_goes_on hops routes realm top others e =
    Going.passed_on hops routes realm top others (stays_there routes top (no_route top.name e)) (for_no_realm realm top (no_credentials top.name e))
    ∙ ap (λ (w : Field). w ∷ fields_on (hops_behind hops top) (Routes.behind routes top) realm others) (not_lowered hops top (no_hops top.name e))
    ∙ ap (λ (h : Option ℕ). top ∷ fields_on h (Routes.behind routes top) realm others) (hops_stay hops top (no_hops top.name e))
    ∙ ap (λ (r : RoutesKept). top ∷ fields_on hops r realm others) (routes_behind routes top (no_route top.name e))

-- and says nothing of the hops
hops_without : (top : Field) (others : List Field) → is_same_name top.name Name.MaxForwards ≡ false → max_forwards_of (top ∷ others) ≡ max_forwards_of others
hops_without top others differs =
    ap (λ (t : Bool). hops_in (map (λ field. field.value) (cond t (top ∷ filter (λ field. is_same_name field.name Name.MaxForwards) others)
    (filter (λ field. is_same_name field.name Name.MaxForwards) others)))) differs

-- ---- the whole

abbrev edited : Field → List ℕ → Field
edited top via = record top { value = via }

onward_are : (routes : RoutesKept) (realm via : List ℕ) (fields : List Field) (top : Field) (others : List Field) → fields ≡ top ∷ others
    → is_same_name top.name Name.Via ≡ true →
    fields_by routes realm (with_first Name.Via via fields)
    ≡ edited top via ∷ (fields_on (hops_left (max_forwards_of fields)) routes realm others ++ default_hops (max_forwards_of fields))
onward_are routes realm via fields top others is e =
    let hops : max_forwards_of (edited top via ∷ others) ≡ max_forwards_of fields
    = hops_without (edited top via) others (no_hops top.name e) ∙ sym (hops_without top others (no_hops top.name e)) ∙ ap max_forwards_of (sym is) in
    ap (λ (w : List Field). fields_by routes realm (with_first Name.Via via w)) is
    ∙ ap (λ (t : Bool). fields_by routes realm (cond t (edited top via ∷ others) (top ∷ with_first Name.Via via others))) e
    ∙ ap (λ (h : MaxForwards). fields_on (hops_left h) routes realm (edited top via ∷ others) ++ default_hops h) hops
    ∙ ap (λ (w : List Field). w ++ default_hops (max_forwards_of fields)) (top_goes_on (hops_left (max_forwards_of fields)) routes realm (edited top via) others e)

-- the line of the top Via with what stands behind it
pub tail_is : (routes : RoutesKept) (realm via out first : List ℕ) (m : Message) (top : Field) (others : List Field) → m.fields ≡ top ∷ others
    → is_same_name top.name Name.Via ≡ true →
    first ≡ out ++ field_text (record top { value = via }) →
    first ++ others_behind routes realm m others ≡ out ++ tail_of routes realm (record m { fields = with_first Name.Via via m.fields })
tail_is routes realm via out first m top others is e written =
    let hops : MaxForwards = max_forwards_of m.fields in
    ap (λ (w : List ℕ). w ++ others_behind routes realm m others) written
    ∙ in_front out (field_text (edited top via)) (flat_map field_text (fields_on (hops_left hops) routes realm others ++ default_hops hops)) (codes "Content-Length: ")
    (decimal (length m.body)) (codes "\r\n\r\n") m.body
    ∙ ap (λ (w : List Field). out ++ behind w m.body) (sym (onward_are routes realm via m.fields top others is e))
  where
    in_front : (out first a b c d e : List ℕ) → out ++ first ++ (a ++ b ++ c ++ d ++ e) ≡ out ++ ((first ++ a) ++ b ++ c ++ d ++ e)
    in_front out first a b c d e = simp append_assoc
