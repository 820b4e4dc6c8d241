-- Where no Route is left of the way of a request, each of its Routes was read.
use Rattle.std.proofs.Common.{◌≡◌, ℕ, Bool, true, false, cond, is_some, List, [], ◌∷◌, ◌++◌, length, Option, Some, None, refl, sym, ap, ◌∙◌, arith}
use Rattle.std.specs.Prelude.{reverse, drop}
use Rattle.std.specs.List.{list_all}
use Rattle.std.specs.Option.{option_map_or}
use Rattle.std.proofs.lemmas.List.{reverse-append, reverse-reverse}
use Rattle.sip_message_fields.specs.declared.field.Field.{Field}
use Rattle.sip_message_fields.specs.declared.field_name.FieldName.TheVariants as Name
use Rattle.sip_message_fields.specs.Values.{values_of}
use Rattle.sip_message_form.specs.declared.message.Start.{Start}
use Rattle.sip_message_form.specs.declared.message.Start.TheVariants.{Request, Status}
use Rattle.sip_header.specs.declared.core_fields.CoreFields.{CoreFields}
use Rattle.sip_header.specs.declared.name_addr.NameAddr.{NameAddr}
use Rattle.sip_header.specs.Route.{route_of}
use Rattle.sip_uri.proofs.Tests.{and_both, and_is}
use Rattle.sip_route.specs.declared.own.Own.{Own}
use Rattle.sip_route.specs.declared.way.Way.{Way}
use Rattle.sip_route.specs.Way.{names_own_host_port, first_route, last_route, came_strictly, begins_with_own, way_from, request_uri}
use Rattle.sip_route.specs.Routes.{others_than, without_own}
use Rattle.sip_route.proofs.Left.{way_is}
use Rattle.sip_validate.specs.UncheckedRequest.{UncheckedRequest, unchecked_with}

abbrev is_route : List ℕ → Bool
is_route value = is_some (route_of value)

all_join : (p : List ℕ → Bool) (xs ys : List (List ℕ)) → list_all p xs ≡ true → list_all p ys ≡ true → list_all p (xs ++ ys) ≡ true
all_join p [] ys e f = f
all_join p (x ∷ xs) ys e f =
    let both = and_both (p x) (list_all p xs) e in
    and_is (p x) (list_all p (xs ++ ys)) both.0 (all_join p xs ys both.1 f)

-- one that names this server was read
own_read : (own : Own) (value : List ℕ) (o : Option NameAddr) → route_of value ≡ o → option_map_or (λ route. names_own_host_port own route.uri) o false ≡ true
    → is_route value ≡ true
own_read own value None is e = absurd cc
own_read own value (Some route) is e = ap is_some is

-- where none is left without a first one of this server
none_left : (own : Own) (routes : List (List ℕ)) (t : Bool) → begins_with_own own routes ≡ t → length (cond t (drop 1 routes) routes) ≡ 0
    → list_all is_route routes ≡ true
none_left own [] t is e = refl
none_left own (x ∷ []) true is e = and_is (is_route x) true (own_read own x (route_of x) refl is) refl
none_left own (x ∷ y ∷ ys) true is e = absurd (omega (arith, e))
none_left own (x ∷ xs) false is e = absurd (omega (arith, e))

-- where the last takes the place of the Request-URI
by_last : (own : Own) (routes turned : List (List ℕ)) (route : NameAddr) → reverse routes ≡ turned → first_route turned ≡ Some route
    → length (without_own own (reverse (drop 1 turned))) ≡ 0
    → list_all is_route routes ≡ true
by_last own routes [] route is last e = absurd cc
by_last own routes (x ∷ xs) route is last e =
    let whole : routes ≡ reverse xs ++ x ∷ [] = sym (reverse-reverse routes) ∙ ap reverse is ∙ reverse-append (x ∷ []) xs in
    let front : list_all is_route (reverse xs) ≡ true = none_left own (reverse xs) (begins_with_own own (reverse xs)) refl e in
    ap (list_all is_route) whole ∙ all_join is_route (reverse xs) (x ∷ []) front (and_is (is_route x) true (ap is_some last) refl)

by_restored : (own : Own) (routes : List (List ℕ)) (o : Option NameAddr) → last_route routes ≡ o → length (without_own own (others_than o routes)) ≡ 0
    → list_all is_route routes ≡ true
by_restored own routes None is e = none_left own routes (begins_with_own own routes) refl e
by_restored own routes (Some route) is e = by_last own routes (reverse routes) route refl is e

by_came : (own : Own) (routes : List (List ℕ)) (t : Bool) → length (without_own own (others_than (cond t (last_route routes) None) routes)) ≡ 0
    → list_all is_route routes ≡ true
by_came own routes true e = by_restored own routes (last_route routes) refl e
by_came own routes false e = none_left own routes (begins_with_own own routes) refl e

pub all_read : (own : Own) (uri : List ℕ) (fields : List Field) (way : Way) → way ≡ way_from own uri fields → length way.routes ≡ 0
    → list_all (λ value. is_some (route_of value)) (values_of Name.Route fields) ≡ true
all_read own uri fields way is none =
    by_came own (values_of Name.Route fields) (came_strictly own uri) (sym (ap (λ (w : Way). length w.routes) (is ∙ way_is own uri fields)) ∙ none)

-- the way of a message is that of the request that it is
pub of_candidate : (start : Start) (own : Own) (fields : List Field) (short : Bool) (core : Option CoreFields) (r : UncheckedRequest)
    → Some r ≡ unchecked_with core own fields short start
    → way_from own (request_uri start) fields ≡ way_from r.own r.uri r.fields
of_candidate (Request method uri version) own fields short core r is =
    let same : record { own = own; method = method; uri = uri; version = version; fields = fields; short = short; core = core; way = way_from own uri fields } ≡ r = cc in
    ap (λ (c : UncheckedRequest). way_from c.own c.uri c.fields) same
of_candidate (Status code reason) own fields short core r is = absurd cc
