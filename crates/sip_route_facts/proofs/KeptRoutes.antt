-- Which Routes are left, by what decides that.
use Rattle.std.proofs.Common.{◌≡◌, ℕ, ◌-◌, Bool, true, false, cond, ◌&&◌, List, [], ◌∷◌, length, map, Option, Some, None, is_some, refl, sym, ap, ◌∙◌, arith}
use Rattle.std.specs.Prelude.{decimal, codes, filter}
use Rattle.std.specs.Option.{option_and_then, option_map_or}
use Rattle.std.specs.Result.{result_ok}
use Rattle.std.specs.Str.{bytes_eq}
use Rattle.std.proofs.lemmas.Slice.Eq.{bytes_eq-Decides}
use Rattle.sip_uri_equality.specs.Equality.{says_same_no_case, both_or_none, is_same_scheme, is_same_userinfo, are_same_parameters, are_same_headers}
use Rattle.sip_uri.specs.declared.scheme.Scheme.TheVariants as Scheme
use Rattle.sip_uri.specs.declared.uri.Uri.{Uri}
use Rattle.sip_uri.specs.Reading.{reading_of}
use Rattle.sip_uri_equality.proofs.Equal.{part_own}
use Rattle.sip_message_fields.specs.declared.field.Field.{Field}
use Rattle.sip_message_fields.specs.declared.field_name.FieldName.{FieldName}
use Rattle.sip_message_fields.specs.declared.field_name.FieldName.TheVariants as Name
use Rattle.sip_text.specs.Words.{without_case}
use Rattle.sip_message_fields.specs.FieldName.{is_same_name, spelling}
use Rattle.sip_message_fields.specs.Values.{values_of, with_first}
use Rattle.sip_header.specs.declared.name_addr.AnyUri.{AnyUri}
use Rattle.sip_header.specs.declared.name_addr.AnyUri.TheVariants.{Sip, Other}
use Rattle.sip_header.specs.declared.name_addr.NameAddr.{NameAddr}
use Rattle.sip_message_form.specs.declared.message.Message.{Message}
use Rattle.sip_route.specs.declared.own.Own.{Own}
use Rattle.sip_route.specs.declared.routes_kept.RoutesKept.{RoutesKept}
use Rattle.sip_route.specs.Way.{has_lr, is_record_route, names_own_host_port, first_route, last_route, came_strictly, restored_of, begins_with_own, fields_left}
use Rattle.sip_route.specs.Way.{request_uri}
use Rattle.sip_route.specs.Routes.{all_but_last}
use Rattle.sip_route.specs.RoutesKept.{fields_kept, kept_of}
use Rattle.sip_route.proofs.Kept as Left
use Rattle.sip_route_facts.specs.declared.route_facts.HostPort.{HostPort}
use Rattle.sip_route_facts.specs.declared.route_facts.RecordedHostPort.{RecordedHostPort}
use Rattle.sip_route_facts.specs.RouteFacts.{host_port_in, first_host_port, is_own, is_recorded, recorded_in, recorded_of, is_own_record, facts_of, kept_from, kept_where}
use Rattle.sip_route_facts.specs.RouteFacts.{kept_by, facts_in}

-- ---- the first Route

names_host_port : (own : Own) (uri : AnyUri) → names_own_host_port own uri ≡ option_map_or (is_own own) (host_port_in uri) false
names_host_port own (Sip uri) = refl
names_host_port own (Other text) = refl

begins_by : (own : Own) (o : Option NameAddr) → option_map_or (λ route. names_own_host_port own route.uri) o false
    ≡ option_map_or (is_own own) (option_and_then (λ route. host_port_in route.uri) o) false
begins_by own None = refl
begins_by own (Some route) = names_host_port own route.uri

begins : (own : Own) (routes : List (List ℕ)) → begins_with_own own routes ≡ option_map_or (is_own own) (first_host_port routes) false
begins own routes = begins_by own (first_route routes)

-- ---- the Request-URI

port_own : (o : Option (List ℕ)) → both_or_none says_same_no_case o o ≡ true
port_own None = refl
port_own (Some text) = part_own text

-- a URI with `lr` is another's Record-Route where it is that of its own place, and the places are the same
by_tests : (l a b h p q r : Bool) → (l && (a && b && h && p && q && r)) ≡ ((l && (a && b && true && true && q && r)) && (h && p))
by_tests false a b h p q r = refl
by_tests true false b h p q r = refl
by_tests true true false h p q r = refl
by_tests true true true true true true true = refl
by_tests true true true true true true false = refl
by_tests true true true true true false r = refl
by_tests true true true true false true true = refl
by_tests true true true true false true false = refl
by_tests true true true true false false r = refl
by_tests true true true false p true true = refl
by_tests true true true false p true false = refl
by_tests true true true false p false r = refl

recorded_is : (own : Own) (u : Uri) → is_record_route own u ≡ (is_recorded u && (says_same_no_case u.host own.host
    && both_or_none says_same_no_case u.port (Some (decimal own.port))))
recorded_is own u =
    let a = is_same_scheme u.scheme Scheme.Sip in
    let b = is_same_userinfo u.userinfo None in
    let h = says_same_no_case u.host own.host in
    let p = both_or_none says_same_no_case u.port (Some (decimal own.port)) in
    let q = are_same_parameters u.parameters (record { name = codes "lr"; value = None } ∷ []) in
    let r = are_same_headers u.headers [] in
    by_tests (has_lr u) a b h p q r
    ∙ ap (λ (t : Bool). (has_lr u && (a && b && t && true && q && r)) && (h && p)) (sym (part_own u.host))
    ∙ ap (λ (t : Bool). (has_lr u && (a && b && says_same_no_case u.host u.host && t && q && r)) && (h && p)) (sym (port_own u.port))

restored : (own : Own) (routes : List (List ℕ)) (u : Uri) (t : Bool) → is_record_route own u
    ≡ (t && is_own_record own (record { host = u.host; port = u.port; first = first_host_port (all_but_last routes) }))
    → option_map_or (is_own_record own) (cond t (Some (record { host = u.host; port = u.port; first = first_host_port (all_but_last routes) })) None) false
    ≡ is_record_route own u
restored own routes u true is = sym is
restored own routes u false is = sym is

came : (own : Own) (routes : List (List ℕ)) (o : Option Uri) → option_map_or (is_own_record own) (option_and_then (recorded_in routes) o) false
    ≡ option_map_or (is_record_route own) o false
came own routes None = refl
came own routes (Some u) = restored own routes u (is_recorded u) (recorded_is own u)

some_by : (t : Bool) (o : Option NameAddr) (recorded : Option RecordedHostPort) (own : Own) → option_map_or (is_own_record own) recorded false ≡ t
    → option_map_or (is_own_record own) (cond (is_some o) recorded None) false ≡ is_some (cond t o None)
some_by true None recorded own is = refl
some_by false None recorded own is = refl
some_by true (Some route) recorded own is = is
some_by false (Some route) recorded own is = is

is_restored : (own : Own) (uri : List ℕ) (routes : List (List ℕ)) → option_map_or (is_own_record own) (recorded_of uri routes) false
    ≡ is_some (restored_of own uri routes)
is_restored own uri routes =
    some_by (came_strictly own uri) (last_route routes) (option_and_then (recorded_in routes) (result_ok (reading_of uri))) own
    (came own routes (result_ok (reading_of uri)))

-- ---- where the first of the others leads

first_in : (routes : List (List ℕ)) (u : Uri) (t : Bool) (p : RecordedHostPort) → cond t
    (Some (record { host = u.host; port = u.port; first = first_host_port (all_but_last routes) })) None ≡ Some p
    → p.first ≡ first_host_port (all_but_last routes)
first_in routes u true p e = sym (ap (option_and_then (λ (p : RecordedHostPort). p.first)) e)
first_in routes u false p e = absurd cc

first_read : (routes : List (List ℕ)) (o : Option Uri) (p : RecordedHostPort) → option_and_then (recorded_in routes) o ≡ Some p
    → p.first ≡ first_host_port (all_but_last routes)
first_read routes None p e = absurd cc
first_read routes (Some u) p e = first_in routes u (is_recorded u) p e

first_by : (routes : List (List ℕ)) (t : Bool) (o : Option Uri) (p : RecordedHostPort) → cond t (option_and_then (recorded_in routes) o) None ≡ Some p
    → p.first ≡ first_host_port (all_but_last routes)
first_by routes true o p e = first_read routes o p e
first_by routes false o p e = absurd cc

first_of : (uri : List ℕ) (routes : List (List ℕ)) (p : RecordedHostPort) → recorded_of uri routes ≡ Some p → p.first ≡ first_host_port (all_but_last routes)
first_of uri routes p e = first_by routes (is_some (last_route routes)) (result_ok (reading_of uri)) p e

-- ---- which are left

less_none : (n : ℕ) → n - 0 ≡ n
less_none n = omega arith

abbrev kept_at : Bool → ℕ → RoutesKept
kept_at t n = let skipped : ℕ = cond t 1 0 in record { skipped = skipped; kept = n - skipped }

loose : (own : Own) (routes : List (List ℕ)) → kept_from own (first_host_port routes) (length routes) ≡ kept_of own false routes
loose own routes =
    ap (λ (t : Bool). kept_at t (length routes)) (sym (begins own routes))
    ∙ ap (λ (n : ℕ). kept_at (begins_with_own own routes) n) (sym (less_none (length routes)))

strict : (own : Own) (routes : List (List ℕ)) (p : RecordedHostPort) → p.first ≡ first_host_port (all_but_last routes)
    → kept_from own p.first (length routes - 1) ≡ kept_of own true routes
strict own routes p is =
    ap (λ (first : Option HostPort). kept_from own first (length routes - 1)) is
    ∙ ap (λ (t : Bool). kept_at t (length routes - 1)) (sym (begins own (all_but_last routes)))

where_is : (own : Own) (routes : List (List ℕ)) (o : Option RecordedHostPort) (t : Bool) → option_map_or (is_own_record own) o false ≡ t
    → ((p : RecordedHostPort) → o ≡ Some p → p.first ≡ first_host_port (all_but_last routes))
    → kept_where own (record { recorded = o; first = first_host_port routes; count = length routes }) o ≡ kept_of own t routes
where_is own routes None true is first = absurd cc
where_is own routes None false is first = loose own routes
where_is own routes (Some p) true is first =
    ap (λ (t : Bool). cond t (kept_from own p.first (length routes - 1)) (kept_from own (first_host_port routes) (length routes))) is ∙ strict own routes p (first p refl)
where_is own routes (Some p) false is first =
    ap (λ (t : Bool). cond t (kept_from own p.first (length routes - 1)) (kept_from own (first_host_port routes) (length routes))) is ∙ loose own routes

kept_by_facts : (own : Own) (uri : List ℕ) (routes : List (List ℕ)) → kept_by own (facts_of uri routes) ≡ kept_of own (is_some (restored_of own uri routes)) routes
kept_by_facts own uri routes = where_is own routes (recorded_of uri routes) (is_some (restored_of own uri routes)) (is_restored own uri routes) (first_of uri routes)

left_by : (own : Own) (uri : List ℕ) (fields : List Field) → fields_kept (kept_by own (facts_of uri (values_of Name.Route fields))) fields ≡ fields_left own uri fields
left_by own uri fields = ap (λ (kept : RoutesKept). fields_kept kept fields) (kept_by_facts own uri (values_of Name.Route fields)) ∙ Left.kept_is own uri fields

-- ---- with another top Via

by_name : (t u : Bool) (value : List ℕ) (field : Field) (fields : List Field) → is_same_name field.name Name.Via ≡ t → is_same_name field.name Name.Route ≡ u
    → (t && u) ≡ false
    → values_of Name.Route (with_first Name.Via value fields) ≡ values_of Name.Route fields
    → values_of Name.Route (cond t (record field { value = value } ∷ fields) (field ∷ with_first Name.Via value fields)) ≡ values_of Name.Route (field ∷ fields)
by_name true true value field fields is_via is_route never rest = absurd cc
by_name true false value field fields is_via is_route never rest =
    ap (λ (r : Bool). map (λ (f : Field). f.value) (cond r (record field { value = value } ∷ filter (λ f. is_same_name f.name Name.Route) fields)
    (filter (λ f. is_same_name f.name Name.Route) fields))) is_route
    ∙ sym (ap (λ (r : Bool). map (λ (f : Field). f.value) (cond r (field ∷ filter (λ f. is_same_name f.name Name.Route) fields)
    (filter (λ f. is_same_name f.name Name.Route) fields))) is_route)
by_name false u value field fields is_via is_route never rest = by_route (is_same_name field.name Name.Route)
  where
    by_route : (r : Bool) → map (λ (f : Field). f.value) (cond r (field ∷ filter (λ f. is_same_name f.name Name.Route) (with_first Name.Via value fields))
        (filter (λ f. is_same_name f.name Name.Route) (with_first Name.Via value fields)))
        ≡ map (λ (f : Field). f.value) (cond r (field ∷ filter (λ f. is_same_name f.name Name.Route) fields) (filter (λ f. is_same_name f.name Name.Route) fields))
    by_route true = ap (λ (w : List (List ℕ)). field.value ∷ w) rest
    by_route false = rest

-- no name is both
abbrev via : List ℕ
via = 118 ∷ 105 ∷ 97 ∷ []

abbrev route : List ℕ
route = 114 ∷ 111 ∷ 117 ∷ 116 ∷ 101 ∷ []

never_by : (text : List ℕ) (t u : Bool) → bytes_eq text via ≡ t → bytes_eq text route ≡ u → (t && u) ≡ false
never_by text true true is_via is_route = let same : via ≡ route = sym ((bytes_eq-Decides text via).0 is_via) ∙ (bytes_eq-Decides text route).0 is_route in absurd cc
never_by text true false is_via is_route = refl
never_by text false u is_via is_route = refl

never_both : (name : FieldName) → (is_same_name name Name.Via && is_same_name name Name.Route) ≡ false
never_both name = never_by (without_case (spelling name)) (bytes_eq (without_case (spelling name)) via) (bytes_eq (without_case (spelling name)) route) refl refl

routes_stay : (value : List ℕ) (fields : List Field) → values_of Name.Route (with_first Name.Via value fields) ≡ values_of Name.Route fields
routes_stay value [] = refl
routes_stay value (field ∷ fields) = by_name (is_same_name field.name Name.Via) (is_same_name field.name Name.Route) value field fields refl refl (never_both field.name)
    (routes_stay value fields)

-- what is kept by what a message says, whatever value its top Via has
pub kept_is : (own : Own) (m : Message) (kept : RoutesKept) (via : List ℕ) → kept ≡ kept_by own (facts_in m)
    → fields_kept kept (with_first Name.Via via m.fields) ≡ fields_left own (request_uri m.start) (with_first Name.Via via m.fields)
kept_is own m kept via is =
    ap (λ (kept : RoutesKept). fields_kept kept (with_first Name.Via via m.fields)) (is
    ∙ ap (λ (routes : List (List ℕ)). kept_by own (facts_of (request_uri m.start) routes)) (sym (routes_stay via m.fields)))
    ∙ left_by own (request_uri m.start) (with_first Name.Via via m.fields)
