-- The fields that a request of this server's own takes over from one that went on are those of the request as it came.
use Rattle.std.proofs.Common.{◌≡◌, ℕ, Bool, true, false, not, cond, ◌&&◌, List, [], ◌∷◌, ◌++◌, refl, sym, ap, ◌∙◌, append-nil, Option, Some, None, option_map}
use Rattle.std.specs.Prelude.{◌==◌, nat_lt, decimal, codes}
use Rattle.std.specs.Option.{option_and_then, option_map_or, option_to_list}
use Rattle.std.specs.Str.{bytes_eq}
use Rattle.std.proofs.lemmas.Slice.Eq.{bytes_eq-Decides}
use Rattle.std.proofs.lemmas.List.Elements.{filter-append}
use Rattle.sip_text.specs.Words.{without_case}
use Rattle.sip_uri.specs.declared.addr.Addr.{Addr}
use Rattle.sip_message_fields.specs.declared.field.Field.{Field}
use Rattle.sip_message_fields.specs.declared.field_name.FieldName.{FieldName}
use Rattle.sip_message_fields.specs.declared.field_name.FieldName.TheVariants as Name
use Rattle.sip_message_fields.specs.FieldName.{is_same_name, spelling}
use Rattle.sip_message_fields.specs.Named.{first_named, all_named, first_of}
use Rattle.sip_message_fields.specs.Values.{with_first}
use Rattle.sip_message_form.specs.declared.message.Start.TheVariants.{Request}
use Rattle.sip_message_form.specs.declared.message.Message.{Message}
use Rattle.sip_message_form.specs.Text.{text_of}
use Rattle.sip_route.specs.header.CSeq.{cseq_of}
use Rattle.sip_route.specs.header.MaxForwards.{max_forwards_of}
use Rattle.sip_route.specs.header.declared.max_forwards.MaxForwards.{MaxForwards}
use Rattle.sip_route.specs.header.declared.max_forwards.MaxForwards.TheVariants.{Absent, Hops, Malformed}
use Rattle.sip_header_credentials.specs.Credentials.{credentials_of, is_realm}
use Rattle.sip_route.specs.declared.own.Own.{Own}
use Rattle.sip_route.specs.declared.routes_kept.RoutesKept.{RoutesKept}
use Rattle.sip_route.specs.RoutesKept.{stays, behind, fields_kept}
use Rattle.sip_route.specs.Way.{fields_left, request_uri}
use Rattle.sip_edit.specs.TopVia.{received_via}
use Rattle.sip_edit.specs.ReceivedRequest.{received}
use Rattle.sip_edit.specs.Onward.{with_uri, with_value, without_credentials, record_route_field, onward_base, to_target}
use Rattle.sip_edit.specs.OwnRequests.{seventy, cseq_with, request_like, to_field, ack_with, cancel_of}
use Rattle.sip_edit.specs.Lowering.{hops_left, default_hops, with_hops, fields_by}
use Rattle.sip_edit.specs.OwnRequestText.{beside, IsAckText, IsCancelText}
use Rattle.sip_edit.proofs.GoingOn.{fields_are}

-- ---- one name is not another

apart_by : (text a b : List ℕ) (t u : Bool) → bytes_eq text a ≡ t → bytes_eq text b ≡ u → bytes_eq a b ≡ false → (t && u) ≡ false
apart_by text a b true true is_a is_b differ =
    let same : a ≡ b = sym ((bytes_eq-Decides text a).0 is_a) ∙ (bytes_eq-Decides text b).0 is_b in
    let never : bytes_eq a b ≡ true = (bytes_eq-Decides a b).1 same in
    absurd cc
apart_by text a b true false is_a is_b differ = refl
apart_by text a b false u is_a is_b differ = refl

abbrev cased : FieldName → List ℕ
cased name = without_case (spelling name)

pub apart : (a b name : FieldName) → is_same_name a b ≡ false → (is_same_name name a && is_same_name name b) ≡ false
apart a b name differ = apart_by (cased name) (cased a) (cased b) (bytes_eq (cased name) (cased a)) (bytes_eq (cased name) (cased b)) refl refl differ

-- ---- of a field and others those of a name

abbrev named_by : Bool → Field → List Field → List Field
named_by t field fields = cond t (field ∷ fields) fields

in_front : (n : FieldName) (u : Bool) (field : Field) (fields others : List Field) → is_same_name field.name n ≡ u → all_named n fields ≡ all_named n others →
    all_named n (field ∷ fields) ≡ named_by u field (all_named n others)
in_front n u field fields others is rest =
    ap (λ (t : Bool). named_by t field (all_named n fields)) is ∙ ap (λ (w : List Field). named_by u field w) rest

-- ---- with another value of the first of another name

edited_by : (n : FieldName) (t u : Bool) (value : List ℕ) (field : Field) (fields others : List Field) → is_same_name field.name n ≡ u → (t && u) ≡ false
    → all_named n others ≡ all_named n fields →
    all_named n (cond t (record field { value = value } ∷ fields) (field ∷ others)) ≡ named_by u field (all_named n fields)
edited_by n true true value field fields others is never rest = absurd cc
edited_by n true false value field fields others is never rest = in_front n false (record field { value = value }) fields fields is refl
edited_by n false u value field fields others is never rest = in_front n u field others fields is rest

pub edited : (x n : FieldName) (value : List ℕ) (fields : List Field) → is_same_name x n ≡ false → all_named n (with_first x value fields) ≡ all_named n fields
edited x n value [] differ = refl
edited x n value (field ∷ fields) differ =
    edited_by n (is_same_name field.name x) (is_same_name field.name n) value field fields (with_first x value fields) refl (apart x n field.name differ)
    (edited x n value fields differ)

lowered : (n : FieldName) (value : List ℕ) (fields : List Field) → is_same_name Name.MaxForwards n ≡ false
    → all_named n (with_value Name.MaxForwards value fields) ≡ all_named n fields
lowered n value [] differ = refl
lowered n value (field ∷ fields) differ =
    edited_by n (is_same_name field.name Name.MaxForwards) (is_same_name field.name n) value field fields (with_value Name.MaxForwards value fields) refl
    (apart Name.MaxForwards n field.name differ) (lowered n value fields differ)

-- ---- without some of another name

dropped_by : (n : FieldName) (t u s : Bool) (field : Field) (fields others : List Field) → is_same_name field.name n ≡ u → (t && u) ≡ false
    → all_named n others ≡ all_named n fields →
    all_named n (cond (not (t && s)) (field ∷ others) others) ≡ named_by u field (all_named n fields)
dropped_by n true true s field fields others is never rest = absurd cc
dropped_by n true false true field fields others is never rest = rest
dropped_by n true false false field fields others is never rest = in_front n false field others fields is rest
dropped_by n false u s field fields others is never rest = in_front n u field others fields is rest

trusted : (n : FieldName) (realm : List ℕ) (fields : List Field) → is_same_name Name.ProxyAuthorization n ≡ false
    → all_named n (without_credentials realm fields) ≡ all_named n fields
trusted n realm [] differ = refl
trusted n realm (field ∷ fields) differ =
    dropped_by n (is_same_name field.name Name.ProxyAuthorization) (is_same_name field.name n)
    (option_map_or (λ c. is_realm realm c.realm) (credentials_of field.value) false) field fields (without_credentials realm fields) refl
    (apart Name.ProxyAuthorization n field.name differ) (trusted n realm fields differ)

routed_by : (n : FieldName) (t u s : Bool) (field : Field) (fields others : List Field) → is_same_name field.name n ≡ u → (t && u) ≡ false
    → all_named n others ≡ all_named n fields →
    all_named n (cond (cond t s true) (field ∷ others) others) ≡ named_by u field (all_named n fields)
routed_by n true true s field fields others is never rest = absurd cc
routed_by n true false true field fields others is never rest = in_front n false field others fields is rest
routed_by n true false false field fields others is never rest = rest
routed_by n false u s field fields others is never rest = in_front n u field others fields is rest

routed : (n : FieldName) (fields : List Field) (routes : RoutesKept) → is_same_name Name.Route n ≡ false → all_named n (fields_kept routes fields) ≡ all_named n fields
routed n [] routes differ = refl
routed n (field ∷ fields) routes differ =
    routed_by n (is_same_name field.name Name.Route) (is_same_name field.name n) (routes.skipped == 0 && nat_lt 0 routes.kept) field fields
    (fields_kept (behind routes field) fields) refl (apart Name.Route n field.name differ) (routed n fields (behind routes field) differ)

-- ---- as they go on

hops_stay : (n : FieldName) (hops : Option ℕ) (fields : List Field) → is_same_name Name.MaxForwards n ≡ false → all_named n (with_hops hops fields) ≡ all_named n fields
hops_stay n None fields differ = refl
hops_stay n (Some left) fields differ = lowered n (decimal left) fields differ

none_added : (n : FieldName) (hops : MaxForwards) → is_same_name Name.MaxForwards n ≡ false → all_named n (default_hops hops) ≡ []
none_added n Absent differ = ap (λ (t : Bool). named_by t seventy []) differ
none_added n (Hops left) differ = refl
none_added n Malformed differ = refl

-- a name that no field has which a request gets or loses on its way
record IsKept (n : FieldName) : Type 0 where
  pub via : is_same_name Name.Via n ≡ false
  pub recorded : is_same_name Name.RecordRoute n ≡ false
  pub hops : is_same_name Name.MaxForwards n ≡ false
  pub credentials : is_same_name Name.ProxyAuthorization n ≡ false

gone_on : (n : FieldName) (routes : RoutesKept) (realm : List ℕ) (fields : List Field) → IsKept n
    → all_named n (fields_by routes realm fields) ≡ all_named n (fields_kept routes fields)
gone_on n routes realm fields is =
    let hops : MaxForwards = max_forwards_of fields in
    let others : List Field = without_credentials realm (fields_kept routes fields) in
    filter-append (λ field. is_same_name field.name n) (with_hops (hops_left hops) others) (default_hops hops)
    ∙ ap (λ (w : List Field). all_named n (with_hops (hops_left hops) others) ++ w) (none_added n hops is.hops)
    ∙ append-nil (all_named n (with_hops (hops_left hops) others))
    ∙ hops_stay n (hops_left hops) others is.hops
    ∙ trusted n realm (fields_kept routes fields) is.credentials

abbrev via_field : List ℕ → Field
via_field via = record { name = Name.Via; value = via }

abbrev fields_to : Own → Bool → List ℕ → List Field → List Field
fields_to own records_route via fields = via_field via ∷ cond records_route (record_route_field own ∷ fields) fields

behind_front : (n : FieldName) (own : Own) (records_route : Bool) (via : List ℕ) (fields : List Field) → IsKept n
    → all_named n (fields_to own records_route via fields) ≡ all_named n fields
behind_front n own true via fields is =
    in_front n false (via_field via) (record_route_field own ∷ fields) (record_route_field own ∷ fields) is.via refl
    ∙ in_front n false (record_route_field own) fields fields is.recorded refl
behind_front n own false via fields is = in_front n false (via_field via) fields fields is.via refl

abbrev sent : Own → List ℕ → Bool → List ℕ → List ℕ → Message → Message
sent own realm records_route uri via m = to_target uri via (onward_base own realm records_route m)

in_sent : (n : FieldName) (own : Own) (realm : List ℕ) (records_route : Bool) (uri via : List ℕ) (routes : RoutesKept) (m : Message) → IsKept n →
    fields_kept routes m.fields ≡ fields_left own (request_uri m.start) m.fields → all_named n (sent own realm records_route uri via m).fields
    ≡ all_named n (fields_kept routes m.fields)
in_sent n own realm records_route uri via routes m is left =
    ap (λ (w : List Field). all_named n (fields_to own records_route via w)) (sym (fields_are own realm m routes left))
    ∙ behind_front n own records_route via (fields_by routes realm m.fields) is
    ∙ gone_on n routes realm m.fields is

-- ---- the first of a name

abbrev head : List Field → Option Field
head [] = None
head (field ∷ fields) = Some field

head_by : (t : Bool) (field : Field) (fields : List Field) (o : Option Field) → o ≡ head fields → cond t (Some field) o ≡ head (named_by t field fields)
head_by true field fields o is = refl
head_by false field fields o is = is

first_is : (n : FieldName) (fields : List Field) → first_named n fields ≡ head (all_named n fields)
first_is n [] = refl
first_is n (field ∷ fields) = head_by (is_same_name field.name n) field (all_named n fields) (first_named n fields) (first_is n fields)

abbrev edited_top : List ℕ → Message → Message
edited_top value m = record m { fields = with_first Name.Via value m.fields }

first_stays : (n : FieldName) (own : Own) (realm : List ℕ) (records_route : Bool) (uri via value : List ℕ) (routes : RoutesKept) (m : Message) → IsKept n
    → is_same_name Name.Route n ≡ false →
    fields_kept routes (with_first Name.Via value m.fields) ≡ fields_left own (request_uri m.start) (with_first Name.Via value m.fields) →
    first_named n m.fields ≡ first_named n (sent own realm records_route uri via (edited_top value m)).fields
first_stays n own realm records_route uri via value routes m is no_route left =
    first_is n m.fields
    ∙ ap head (sym (
    in_sent n own realm records_route uri via routes (edited_top value m) is left
    ∙ routed n (with_first Name.Via value m.fields) routes no_route
    ∙ edited Name.Via n value m.fields is.via
    ))
    ∙ sym (first_is n (sent own realm records_route uri via (edited_top value m)).fields)

-- ---- the Routes that are left

same_by : (s : Bool) (f g : Field) (fields : List Field) → is_same_name f.name Name.Route ≡ false → is_same_name g.name Name.Route ≡ false →
    all_named Name.Route (cond s (f ∷ fields) fields) ≡ all_named Name.Route (cond s (g ∷ fields) fields)
same_by true f g fields not_f not_g = in_front Name.Route false f fields fields not_f refl ∙ sym (in_front Name.Route false g fields fields not_g refl)
same_by false f g fields not_f not_g = refl

rest_by : (s : Bool) (f : Field) (a b : List Field) → all_named Name.Route a ≡ all_named Name.Route b
    → all_named Name.Route (cond s (f ∷ a) a) ≡ all_named Name.Route (cond s (f ∷ b) b)
rest_by true f a b same = ap (λ (w : List Field). named_by (is_same_name f.name Name.Route) f w) same
rest_by false f a b same = same

left_by : (t u : Bool) (value : List ℕ) (routes : RoutesKept) (field : Field) (fields : List Field) → is_same_name field.name Name.Route ≡ u → (t && u) ≡ false →
    all_named Name.Route (fields_kept (behind routes field) (with_first Name.Via value fields)) ≡ all_named Name.Route (fields_kept (behind routes field) fields) →
    all_named Name.Route (fields_kept routes (cond t (record field { value = value } ∷ fields) (field ∷ with_first Name.Via value fields)))
    ≡ all_named Name.Route (fields_kept routes (field ∷ fields))
left_by true true value routes field fields is never rest = absurd cc
left_by true false value routes field fields is never rest = same_by (stays routes field) (record field { value = value }) field
    (fields_kept (behind routes field) fields) is is
left_by false u value routes field fields is never rest = rest_by (stays routes field) field (fields_kept (behind routes field) (with_first Name.Via value fields))
    (fields_kept (behind routes field) fields) rest

routes_stay : (value : List ℕ) (fields : List Field) (routes : RoutesKept) → all_named Name.Route (fields_kept routes (with_first Name.Via value fields))
    ≡ all_named Name.Route (fields_kept routes fields)
routes_stay value [] routes = refl
routes_stay value (field ∷ fields) routes =
    left_by (is_same_name field.name Name.Via) (is_same_name field.name Name.Route) value routes field fields refl (apart Name.Via Name.Route field.name refl)
    (routes_stay value fields (behind routes field))

-- ---- the request

abbrev of_parts : List ℕ → List Field → List ℕ → List ℕ → Option Field → Option Field → Option Field → List Field → Message
of_parts method to uri via from call_id cseq routes =
    record {
      start = Request method uri (codes "SIP/2.0");
      fields = via_field via ∷ seventy ∷ (option_to_list from ++ to ++ option_to_list call_id
          ++ cseq_with method (option_and_then cseq_of (option_map (λ f. f.value) cseq)) ++ routes);
      body = [];
    }

is_from : IsKept Name.From
is_from = record { via = refl; recorded = refl; hops = refl; credentials = refl }

is_call_id : IsKept Name.CallId
is_call_id = record { via = refl; recorded = refl; hops = refl; credentials = refl }

is_cseq : IsKept Name.CSeq
is_cseq = record { via = refl; recorded = refl; hops = refl; credentials = refl }

is_to : IsKept Name.To
is_to = record { via = refl; recorded = refl; hops = refl; credentials = refl }

is_route : IsKept Name.Route
is_route = record { via = refl; recorded = refl; hops = refl; credentials = refl }

edited_is : (method : List ℕ) (to : List Field) (uri via value realm : List ℕ) (own : Own) (records_route : Bool) (routes : RoutesKept) (m : Message) →
    fields_kept routes (with_first Name.Via value m.fields) ≡ fields_left own (request_uri m.start) (with_first Name.Via value m.fields) →
    beside method to uri via routes m ≡ request_like method to (sent own realm records_route uri via (edited_top value m))
edited_is method to uri via value realm own records_route routes m left =
    let goes : Message = sent own realm records_route uri via (edited_top value m) in
    let to_uri : List ℕ = request_uri (with_uri uri m.start) in
    ap (λ (o : Option Field). of_parts method to to_uri via o (first_named Name.CallId m.fields) (first_named Name.CSeq m.fields)
    (all_named Name.Route (fields_kept routes m.fields))) (first_stays Name.From own realm records_route uri via value routes m is_from refl left)
    ∙ ap (λ (o : Option Field). of_parts method to to_uri via (first_named Name.From goes.fields) o (first_named Name.CSeq m.fields)
    (all_named Name.Route (fields_kept routes m.fields))) (first_stays Name.CallId own realm records_route uri via value routes m is_call_id refl left)
    ∙ ap (λ (o : Option Field). of_parts method to to_uri via (first_named Name.From goes.fields) (first_named Name.CallId goes.fields) o
    (all_named Name.Route (fields_kept routes m.fields))) (first_stays Name.CSeq own realm records_route uri via value routes m is_cseq refl left)
    ∙ ap (λ (w : List Field). of_parts method to to_uri via (first_named Name.From goes.fields) (first_named Name.CallId goes.fields) (first_named Name.CSeq goes.fields)
    w)
    (sym (in_sent Name.Route own realm records_route uri via routes (edited_top value m) is_route left ∙ routes_stay value m.fields routes))

-- ---- the request as it came from an address

none_by : (t : Bool) (value : List ℕ) (field : Field) (fields : List Field) → cond t (Some field) (first_named Name.Via fields) ≡ None
    → (first_named Name.Via fields ≡ None → with_first Name.Via value fields ≡ fields)
    → cond t (record field { value = value } ∷ fields) (field ∷ with_first Name.Via value fields) ≡ field ∷ fields
none_by true value field fields none rest = absurd cc
none_by false value field fields none rest = ap (λ (w : List Field). field ∷ w) (rest none)

none_edited : (value : List ℕ) (fields : List Field) → first_named Name.Via fields ≡ None → with_first Name.Via value fields ≡ fields
none_edited value [] none = refl
none_edited value (field ∷ fields) none = none_by (is_same_name field.name Name.Via) value field fields none (none_edited value fields)

abbrev top_value : Addr → Option Field → List ℕ
top_value from o = option_map_or (λ f. received_via f.value from) o []

edited_by_top : (from : Addr) (fields : List Field) (o : Option Field) → first_named Name.Via fields ≡ o →
    with_first Name.Via (top_value from o) fields ≡ option_map_or (λ value. with_first Name.Via (received_via value from) fields) (option_map (λ f. f.value) o) fields
edited_by_top from fields None is = none_edited [] fields is
edited_by_top from fields (Some top) is = refl

-- the value that its top Via gets
abbrev value_from : Addr → Message → List ℕ
value_from from m = top_value from (first_named Name.Via m.fields)

came_from : (from : Addr) (m : Message) → edited_top (value_from from m) m ≡ received m from
came_from from m = ap (λ (w : List Field). record m { fields = w }) (edited_by_top from m.fields (first_named Name.Via m.fields) refl)

pub ack_is : (text : List ℕ) (to : Option (List ℕ)) (uri via : List ℕ) (routes : RoutesKept) (m : Message)
    → text ≡ text_of (beside (codes "ACK") (to_field to) uri via routes m) → IsAckText to uri via routes m text
ack_is text to uri via routes m is own realm records_route from left =
    is ∙ ap text_of (
    edited_is (codes "ACK") (to_field to) uri via (value_from from m) realm own records_route routes m (left (value_from from m))
    ∙ ap (λ (x : Message). ack_with to (sent own realm records_route uri via x)) (came_from from m)
    )

pub cancel_is : (text uri via : List ℕ) (routes : RoutesKept) (m : Message) → text ≡ text_of (beside (codes "CANCEL") (first_of Name.To m.fields) uri via routes m)
    → IsCancelText uri via routes m text
cancel_is text uri via routes m is own realm records_route from left =
    let value : List ℕ = value_from from m in
    let goes : Message = sent own realm records_route uri via (edited_top value m) in
    is ∙ ap text_of (
    edited_is (codes "CANCEL") (first_of Name.To m.fields) uri via value realm own records_route routes m (left value)
    ∙ ap (λ (o : Option Field). request_like (codes "CANCEL") (option_to_list o) goes)
    (first_stays Name.To own realm records_route uri via value routes m is_to refl (left value))
    ∙ ap (λ (x : Message). cancel_of (sent own realm records_route uri via x)) (came_from from m)
    )
