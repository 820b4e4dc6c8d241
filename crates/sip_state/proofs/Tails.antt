-- What the packets of a request have in common.
use Rattle.std.proofs.Common.{◌≡◌, ℕ, Bool, true, List, [], refl, sym, ap, subst, ◌∙◌, arith, Option, Some, None}
use Rattle.std.specs.Prelude.{◌&&◌, ◌==◌}
use Rattle.std.specs.Option.{option_map_or}
use Rattle.std.specs.Str.{bytes_eq}
use Rattle.std.proofs.lemmas.Bool.Decides.{nat_tests}
use Rattle.std.proofs.lemmas.Slice.Eq.{bytes_eq-Decides}
use Rattle.sip_uri.specs.declared.addr.Addr.{Addr}
use Rattle.sip_message_fields.specs.declared.field.Field.{Field}
use Rattle.sip_message_fields.specs.declared.field_name.FieldName.TheVariants as Name
use Rattle.sip_message_fields.specs.Values.{first_value, with_first}
use Rattle.sip_message_form.specs.declared.message.Message.{Message}
use Rattle.sip_message_form.specs.declared.message.Start.{Start}
use Rattle.sip_message_form.specs.Text.{text_of}
use Rattle.sip_edit.specs.Onward.{onward_base, to_target}
use Rattle.sip_edit.specs.ReceivedRequest.{received, received_fields}
use Rattle.sip_edit.specs.TopVia.{received_via}
use Rattle.sip_route.specs.declared.own.Own.{Own}
use Rattle.sip_route.specs.declared.routes_kept.RoutesKept.{RoutesKept}
use Rattle.sip_route.specs.RoutesKept.{fields_kept}
use Rattle.sip_route.specs.Way.{fields_left, request_uri}
use Rattle.sip_edit.specs.Tail.{tail_of}
use Rattle.sip_state.proofs.Received.{none_edited}

-- ---- of the request as it was received

pub of_received : (m : Message) (source : Addr) (value text realm : List ℕ) (routes : RoutesKept) →
    text ≡ tail_of routes realm (record m { fields = with_first Name.Via value m.fields }) → with_first Name.Via value m.fields ≡ received_fields source m.fields →
    text ≡ tail_of routes realm (received m source)
of_received m source value text realm routes is edited = is ∙ ap (λ (w : List Field). tail_of routes realm (record m { fields = w })) edited

-- ---- that it is kept

pub is_tail : (m : Message) (source : Addr) (text kept realm : List ℕ) (written routes : RoutesKept) → text ≡ tail_of written kept (received m source)
    → kept ≡ realm → written ≡ routes →
    text ≡ tail_of routes realm (received m source)
is_tail m source text kept realm written routes is is_realm are_routes =
    is ∙ ap (λ (w : List ℕ). tail_of written w (received m source)) is_realm
    ∙ ap (λ (r : RoutesKept). tail_of r realm (received m source)) are_routes

-- ---- for whom it is

abbrev tests : List ℕ → List ℕ → RoutesKept → RoutesKept → Bool
tests a b r s = bytes_eq a b && r.skipped == s.skipped && r.kept == s.kept

pub same_realm : (a b : List ℕ) (r s : RoutesKept) → tests a b r s ≡ true → a ≡ b
same_realm a b r s e = let is : bytes_eq a b ≡ true = grind (arith, nat_tests) in (bytes_eq-Decides a b).0 is

pub same_routes : (a b : List ℕ) (r s : RoutesKept) → tests a b r s ≡ true → r ≡ s
same_routes a b r s e =
    let skipped : r.skipped ≡ s.skipped = grind (arith, nat_tests) in
    let kept : r.kept ≡ s.kept = grind (arith, nat_tests) in
    let first : r ≡ record { skipped = s.skipped; kept = r.kept } = ap (λ n. record { skipped = n; kept = r.kept }) skipped in
    first ∙ ap (λ n. record { skipped = s.skipped; kept = n }) kept

-- ---- which fields are left of it

abbrev pub are_left : Own → RoutesKept → List ℕ → List Field → Type 0
are_left own routes uri fields = fields_kept routes fields ≡ fields_left own uri fields

left_by : (own : Own) (routes : RoutesKept) (uri : List ℕ) (from : Addr) (fields : List Field)
    → ((via : List ℕ) → are_left own routes uri (with_first Name.Via via fields)) →
    (first : Option (List ℕ)) → first_value Name.Via fields ≡ first → are_left own routes uri
    (option_map_or (λ value. with_first Name.Via (received_via value from) fields) first fields)
left_by own routes uri from fields left None none = subst (are_left own routes uri) (none_edited [] fields none) (left [])
left_by own routes uri from fields left (Some value) is = left (received_via value from)

left_received : (own : Own) (routes : RoutesKept) (uri : List ℕ) (from : Addr) (fields : List Field)
    → ((via : List ℕ) → are_left own routes uri (with_first Name.Via via fields)) →
    are_left own routes uri (received_fields from fields)
left_received own routes uri from fields left = left_by own routes uri from fields left (first_value Name.Via fields) refl

-- ---- a packet by it

-- what is said of a text that a head and a tail make up
abbrev pub Joins : Own → Bool → List ℕ → List ℕ → List ℕ → Start → List ℕ → Type 0
Joins own records_route uri via tail start text =
    (m : Message) (realm : List ℕ) (routes : RoutesKept) → m.start ≡ start → tail ≡ tail_of routes realm m → are_left own routes (request_uri m.start) m.fields
    → text ≡ text_of (to_target uri via (onward_base own realm records_route m))

pub joined : (own : Own) (records_route : Bool) (uri via tail realm text : List ℕ) (start : Start) (routes : RoutesKept) (m : Message) (from : Addr) →
    start ≡ m.start → tail ≡ tail_of routes realm (received m from) → ((w : List ℕ) → are_left own routes (request_uri m.start) (with_first Name.Via w m.fields)) →
    Joins own records_route uri via tail start text → text ≡ text_of (to_target uri via (onward_base own realm records_route (received m from)))
joined own records_route uri via tail realm text start routes m from is_start is_tail left joins =
    joins (received m from) realm routes (sym is_start) is_tail (left_received own routes (request_uri m.start) from m.fields left)
