-- A request to a target is its head and its tail.
use Rattle.std.proofs.Common.{◌≡◌, ℕ, Bool, true, false, cond, List, [], ◌∷◌, ◌++◌, length, refl, sym, ap, ◌∙◌, append_assoc}
use Rattle.std.specs.Prelude.{decimal, codes}
use Rattle.std.specs.List.{flat_map}
use Rattle.sip_message_fields.specs.declared.field.Field.{Field}
use Rattle.sip_message_fields.specs.declared.field_name.FieldName.TheVariants as Name
use Rattle.sip_message_fields.specs.Values.{with_first}
use Rattle.sip_message_form.specs.declared.message.Message.{Message}
use Rattle.sip_message_form.specs.declared.message.Start.{Start}
use Rattle.sip_message_form.specs.Text.{start_text, field_text, text_of}
use Rattle.sip_route.specs.declared.own.Own.{Own}
use Rattle.sip_route.specs.declared.routes_kept.RoutesKept.{RoutesKept}
use Rattle.sip_route.specs.RoutesKept.{fields_kept}
use Rattle.sip_route.specs.Way.{fields_left, request_uri}
use Rattle.sip_edit.specs.Onward.{with_uri, record_route_field, onward_base, to_target}
use Rattle.sip_edit.specs.Lowering.{fields_by}
use Rattle.sip_edit.specs.Tail.{behind, tail_of, recorded, head_of}
use Rattle.sip_edit.proofs.GoingOn.{fields_are}
use Rattle.sip_edit.proofs.EditedRoutes.{left_is}

-- ---- lists put together

inside : (a b c d e f : List ℕ) → a ++ (b ++ c ++ d ++ e ++ f) ≡ a ++ b ++ c ++ d ++ e ++ f
inside a b c d e f = simp append_assoc

in_front : (a b c d e f : List ℕ) → a ++ (b ++ c ++ d ++ e ++ f) ≡ (a ++ b) ++ c ++ d ++ e ++ f
in_front a b c d e f = simp append_assoc

-- ---- a Record-Route

apart : (out front host colon port tail close ends : List ℕ) →
    out ++ front ++ host ++ colon ++ port ++ (tail ++ (close ++ ends)) ≡ out ++ (front ++ (host ++ (colon ++ (port ++ tail)) ++ close ++ ends))
apart out front host colon port tail close ends = simp append_assoc

pub recorded_is : (out : List ℕ) (own : Own) →
    out ++ codes "Record-Route: <sip:" ++ own.host ++ codes ":" ++ decimal own.port ++ codes ";lr>\r\n" ≡ out ++ field_text (record_route_field own)
recorded_is out own = apart out (codes "Record-Route: <sip:") own.host (codes ":") (decimal own.port) (codes ";lr") (codes ">") (codes "\r\n")

-- ---- a request

-- behind its first line
as_text : (m : Message) → start_text m.start ++ codes "\r\n" ++ behind m.fields m.body ≡ text_of m
as_text m =
    inside (start_text m.start ++ codes "\r\n") (flat_map field_text m.fields) (codes "Content-Length: ") (decimal (length m.body)) (codes "\r\n\r\n") m.body

-- behind a field stand the others
after : (field : Field) (fields : List Field) (body : List ℕ) → field_text field ++ behind fields body ≡ behind (field ∷ fields) body
after field fields body = in_front (field_text field) (flat_map field_text fields) (codes "Content-Length: ") (decimal (length body)) (codes "\r\n\r\n") body

routed : (own : Own) (records_route : Bool) (fields : List Field) (body : List ℕ) →
    recorded own records_route ++ behind fields body ≡ behind (cond records_route (record_route_field own ∷ fields) fields) body
routed own true fields body = after (record_route_field own) fields body
routed own false fields body = refl

abbrev via_field : List ℕ → Field
via_field via = record { name = Name.Via; value = via }

-- the fields that it gets
abbrev fields_to : Own → Bool → List ℕ → List Field → List Field
fields_to own records_route via fields = via_field via ∷ cond records_route (record_route_field own ∷ fields) fields

joined : (own : Own) (records_route : Bool) (uri via : List ℕ) (start : Start) (fields : List Field) (body : List ℕ) →
    head_of own records_route uri via start ++ behind fields body
    ≡ start_text (with_uri uri start) ++ codes "\r\n" ++ behind (fields_to own records_route via fields) body
joined own records_route uri via start fields body =
    append_assoc (start_text (with_uri uri start) ++ codes "\r\n" ++ field_text (via_field via)) (recorded own records_route) (behind fields body)
    ∙ ap (λ (w : List ℕ). (start_text (with_uri uri start) ++ codes "\r\n" ++ field_text (via_field via)) ++ w) (routed own records_route fields body)
    ∙ append_assoc (start_text (with_uri uri start) ++ codes "\r\n") (field_text (via_field via))
    (behind (cond records_route (record_route_field own ∷ fields) fields) body)
    ∙ ap (λ (w : List ℕ). (start_text (with_uri uri start) ++ codes "\r\n") ++ w) (after (via_field via) (cond records_route (record_route_field own ∷ fields) fields)
    body)

pub whole_is : (own : Own) (records_route : Bool) (uri via tail realm : List ℕ) (routes : RoutesKept) (start : Start) (m : Message) →
    m.start ≡ start → tail ≡ tail_of routes realm m → fields_kept routes m.fields ≡ fields_left own (request_uri m.start) m.fields →
    head_of own records_route uri via start ++ tail ≡ text_of (to_target uri via (onward_base own realm records_route m))
whole_is own records_route uri via tail realm routes start m is_start is_tail left =
    ap (λ (w : List ℕ). head_of own records_route uri via start ++ w) is_tail
    ∙ ap (λ (s : Start). head_of own records_route uri via s ++ tail_of routes realm m) (sym is_start)
    ∙ joined own records_route uri via m.start (fields_by routes realm m.fields) m.body
    ∙ as_text (record { start = with_uri uri m.start; fields = fields_to own records_route via (fields_by routes realm m.fields); body = m.body })
    ∙ ap (λ (w : List Field). text_of (record { start = with_uri uri m.start; fields = fields_to own records_route via w; body = m.body }))
    (fields_are own realm m routes left)

abbrev edited : List ℕ → Message → Message
edited value m = record m { fields = with_first Name.Via value m.fields }

-- the same behind other bytes, of a request whose top Via has another value
pub edited_is : (own : Own) (uri via realm value out head text : List ℕ) (routes : RoutesKept) (start : Start) (m : Message) →
    m.start ≡ start → out ≡ [] → head ≡ out ++ head_of own false uri via start → text ≡ head
    ++ tail_of routes realm (record m { fields = with_first Name.Via value m.fields }) →
    fields_kept routes m.fields ≡ fields_left own (request_uri m.start) m.fields →
    text ≡ text_of (to_target uri via (onward_base own realm false (record m { fields = with_first Name.Via value m.fields })))
edited_is own uri via realm value out head text routes start m is_start none is_head is left =
    is
    ∙ ap (λ (w : List ℕ). w ++ tail_of routes realm (edited value m)) (is_head ∙ ap (λ (w : List ℕ). w ++ head_of own false uri via start) none)
    ∙ whole_is own false uri via (tail_of routes realm (edited value m)) realm routes start (edited value m) is_start refl
    (left_is own (request_uri m.start) value routes m.fields left)
