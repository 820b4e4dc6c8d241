-- The text of a request of this server's own, part by part.
use Rattle.std.proofs.Common.{◌≡◌, ℕ, Bool, true, false, cond, List, [], ◌∷◌, ◌++◌, length, refl, sym, ap, ◌∙◌, append_assoc, append-nil, flat_map, Option, Some, arith}
use Rattle.std.proofs.lemmas.List.Concat.{flat_map-append}
use Rattle.std.specs.Prelude.{◌==◌, ◌-◌, nat_lt, ◌&&◌, decimal, codes}
use Rattle.std.specs.Option.{option_and_then, option_to_list}
use Rattle.sip_message_fields.specs.declared.field.Field.{Field}
use Rattle.sip_message_fields.specs.declared.field_name.FieldName.TheVariants as Name
use Rattle.sip_message_fields.specs.FieldName.{is_same_name}
use Rattle.sip_message_fields.specs.Named.{all_named, first_named, first_of}
use Rattle.sip_message_fields.specs.Values.{first_value}
use Rattle.sip_message_form.specs.declared.message.Message.{Message}
use Rattle.sip_message_form.specs.declared.message.Start.TheVariants.{Request}
use Rattle.sip_message_form.specs.Text.{start_text, field_text, text_of}
use Rattle.sip_route.specs.header.declared.cseq.CSeq.{CSeq}
use Rattle.sip_route.specs.header.CSeq.{cseq_of}
use Rattle.sip_route.specs.declared.routes_kept.RoutesKept.{RoutesKept}
use Rattle.sip_route.specs.RoutesKept.{stays, behind_route, behind, fields_kept}
use Rattle.sip_route.specs.Way.{request_uri}
use Rattle.sip_edit.specs.Onward.{with_uri}
use Rattle.sip_edit.specs.OwnRequests.{seventy, cseq_with}
use Rattle.sip_edit.specs.OwnRequestText.{taken_over, beside, front_text, cseq_text}

-- ---- a field

pub one_line : (field : Field) → flat_map field_text (field ∷ []) ≡ field_text field
one_line field = append-nil (field_text field)

four : (a b c d e : List ℕ) → a ++ b ++ c ++ d ++ e ≡ a ++ (b ++ c ++ d) ++ e ++ []
four a b c d e = simp append_assoc (ap (λ (w : List ℕ). a ++ (b ++ (c ++ (d ++ w)))) (sym (append-nil e)))

pub cseq_is : (method : List ℕ) (cseq : CSeq) → cseq_text cseq.number method ≡ flat_map field_text (cseq_with method (Some cseq))
cseq_is method cseq = four (codes "CSeq: ") (decimal cseq.number) (codes " ") method (codes "\r\n")

-- ---- the front

first_line : (out method uri ends : List ℕ) → out ++ method ++ codes " " ++ uri ++ (codes " " ++ codes "SIP/2.0" ++ ends) ≡ out
    ++ (method ++ codes " " ++ uri ++ codes " " ++ codes "SIP/2.0") ++ ends
first_line out method uri ends = simp append_assoc

pub line_is : (out method uri : List ℕ) →
    out ++ method ++ codes " " ++ uri ++ codes " SIP/2.0\r\n" ≡ out ++ start_text (Request method uri (codes "SIP/2.0")) ++ codes "\r\n"
line_is out method uri = first_line out method uri (codes "\r\n")

apart : (out start ends via hops : List ℕ) → out ++ start ++ ends ++ via ++ hops ≡ out ++ (start ++ ends ++ via ++ hops)
apart out start ends via hops = simp append_assoc

pub front_is : (out method uri via : List ℕ) →
    out ++ start_text (Request method uri (codes "SIP/2.0")) ++ codes "\r\n" ++ field_text (record { name = Name.Via; value = via }) ++ codes "Max-Forwards: 70\r\n" ≡ out
    ++ front_text method uri via
front_is out method uri via =
    apart out (start_text (Request method uri (codes "SIP/2.0"))) (codes "\r\n") (field_text (record { name = Name.Via; value = via })) (codes "Max-Forwards: 70\r\n")

-- ---- the Routes that are left

-- with one that is no Route in front
pub no_route : (routes : RoutesKept) (field : Field) (fields : List Field) → is_same_name field.name Name.Route ≡ false →
    flat_map field_text (all_named Name.Route (fields_kept routes (field ∷ fields))) ≡ flat_map field_text (all_named Name.Route (fields_kept routes fields))
no_route routes field fields is =
    ap (λ (t : Bool). flat_map field_text (all_named Name.Route (kept_by t routes field fields))) is
    ∙ ap (λ (t : Bool). flat_map field_text (cond t (field ∷ all_named Name.Route (fields_kept routes fields)) (all_named Name.Route (fields_kept routes fields)))) is
  where
    kept_by : Bool → RoutesKept → Field → List Field → List Field
    kept_by t routes field fields =
        let next : RoutesKept = cond t (behind_route routes) routes in
        cond (cond t (routes.skipped == 0 && nat_lt 0 routes.kept) true) (field ∷ fields_kept next fields) (fields_kept next fields)

pub taken_off : (routes : RoutesKept) (field : Field) (fields : List Field) → stays routes field ≡ false →
    flat_map field_text (all_named Name.Route (fields_kept routes (field ∷ fields))) ≡ flat_map field_text
    (all_named Name.Route (fields_kept (behind routes field) fields))
taken_off routes field fields is =
    ap (λ (t : Bool). flat_map field_text (all_named Name.Route (cond t (field ∷ fields_kept (behind routes field) fields) (fields_kept (behind routes field) fields))))
    is

pub passed_on : (routes : RoutesKept) (field : Field) (fields : List Field) → is_same_name field.name Name.Route ≡ true → stays routes field ≡ true →
    flat_map field_text (all_named Name.Route (fields_kept routes (field ∷ fields))) ≡ field_text field
    ++ flat_map field_text (all_named Name.Route (fields_kept (behind routes field) fields))
passed_on routes field fields named is =
    let others : List Field = fields_kept (behind routes field) fields in
    ap (λ (t : Bool). flat_map field_text (all_named Name.Route (cond t (field ∷ others) others))) is
    ∙ ap (λ (t : Bool). flat_map field_text (cond t (field ∷ all_named Name.Route others) (all_named Name.Route others))) named

-- where none is to be kept there is none
kept_none : (t z : Bool) (routes : RoutesKept) → routes.kept ≡ 0 → (cond t (cond z (record routes { kept = routes.kept - 1 })
    (record routes { skipped = routes.skipped - 1 })) routes).kept ≡ 0
kept_none true true routes none = omega arith
kept_none true false routes none = none
kept_none false z routes none = none

never_stays : (z : Bool) (routes : RoutesKept) → routes.kept ≡ 0 → (z && nat_lt 0 routes.kept) ≡ false
never_stays true routes none = ap (λ (n : ℕ). nat_lt 0 n) none
never_stays false routes none = refl

none_by : (t s : Bool) (field : Field) (others : List Field) → is_same_name field.name Name.Route ≡ t → s ≡ false → all_named Name.Route others ≡ []
    → all_named Name.Route (cond (cond t s true) (field ∷ others) others) ≡ []
none_by true true field others is never rest = absurd cc
none_by true false field others is never rest = rest
none_by false s field others is never rest = ap (λ (t : Bool). cond t (field ∷ all_named Name.Route others) (all_named Name.Route others)) is ∙ rest

none_there : (fields : List Field) (routes : RoutesKept) → routes.kept ≡ 0 → all_named Name.Route (fields_kept routes fields) ≡ []
none_there [] routes none = refl
none_there (field ∷ fields) routes none =
    none_by (is_same_name field.name Name.Route) (routes.skipped == 0 && nat_lt 0 routes.kept) field (fields_kept (behind routes field) fields) refl
    (never_stays (routes.skipped == 0) routes none)
    (none_there fields (behind routes field) (kept_none (is_same_name field.name Name.Route) (routes.skipped == 0) routes none))

pub none_kept : (routes : RoutesKept) (fields : List Field) → routes.kept ≡ 0 → flat_map field_text (all_named Name.Route (fields_kept routes fields)) ≡ []
none_kept routes fields none = ap (λ (w : List Field). flat_map field_text w) (none_there fields routes none)

-- ---- the whole

abbrev lines : List Field → List ℕ
lines fields = flat_map field_text fields

both : (out : List ℕ) (a b : List Field) → out ++ lines a ++ lines b ≡ out ++ lines (a ++ b)
both out a b = append_assoc out (lines a) (lines b) ∙ ap (λ (w : List ℕ). out ++ w) (sym (flat_map-append field_text a b))

five : (out : List ℕ) (a b c d e : List Field) → out ++ lines a ++ lines b ++ lines c ++ lines d ++ lines e ≡ out ++ lines (a ++ b ++ c ++ d ++ e)
five out a b c d e =
    ap (λ (w : List ℕ). w ++ lines c ++ lines d ++ lines e) (both out a b)
    ∙ ap (λ (w : List ℕ). w ++ lines d ++ lines e) (both out (a ++ b) c)
    ∙ ap (λ (w : List ℕ). w ++ lines e) (both out (a ++ b ++ c) d)
    ∙ both out (a ++ b ++ c ++ d) e

front_first : (start via seventy others : List ℕ) → start ++ via ++ seventy ++ others ≡ start ++ (via ++ (seventy ++ others))
front_first start via seventy others = simp append_assoc

pub whole_is : (method uri target via : List ℕ) (to : List Field) (from call_id : Option Field) (cseq : Option (List ℕ)) (routes : RoutesKept) (came : Message) →
    from ≡ first_named Name.From came.fields → call_id ≡ first_named Name.CallId came.fields → cseq ≡ first_value Name.CSeq came.fields
    → target ≡ request_uri (with_uri uri came.start) →
    front_text method target via ++ flat_map field_text (option_to_list from) ++ flat_map field_text to ++ flat_map field_text (option_to_list call_id)
    ++ flat_map field_text (cseq_with method (option_and_then cseq_of cseq)) ++ flat_map field_text (all_named Name.Route (fields_kept routes came.fields))
    ++ codes "Content-Length: " ++ decimal (length {A = ℕ} []) ++ codes "\r\n\r\n" ++ []
    ≡ text_of (beside method to uri via routes came)
whole_is method uri target via to from call_id cseq routes came is_from is_call_id is_cseq is_target =
    ap (λ (w : List ℕ). w ++ codes "Content-Length: " ++ decimal (length {A = ℕ} []) ++ codes "\r\n\r\n" ++ []) (
    five (front_text method target via) (option_to_list from) to (option_to_list call_id) (cseq_with method (option_and_then cseq_of cseq))
    (all_named Name.Route (fields_kept routes came.fields))
    ∙ ap (λ (o : Option Field). front_text method target via ++ lines (option_to_list o ++ to ++ option_to_list call_id ++ cseq_with method (option_and_then cseq_of cseq)
    ++ all_named Name.Route (fields_kept routes came.fields))) is_from
    ∙ ap (λ (o : Option Field). front_text method target via ++ lines (first_of Name.From came.fields ++ to ++ option_to_list o
    ++ cseq_with method (option_and_then cseq_of cseq) ++ all_named Name.Route (fields_kept routes came.fields))) is_call_id
    ∙ ap (λ (o : Option (List ℕ)). front_text method target via ++ lines (first_of Name.From came.fields ++ to ++ first_of Name.CallId came.fields
    ++ cseq_with method (option_and_then cseq_of o) ++ all_named Name.Route (fields_kept routes came.fields))) is_cseq
    ∙ ap (λ (w : List ℕ). front_text method w via ++ lines (taken_over method to routes came.fields)) is_target
    ∙ front_first (start_text (Request method (request_uri (with_uri uri came.start)) (codes "SIP/2.0")) ++ codes "\r\n")
    (field_text (record { name = Name.Via; value = via })) (field_text seventy) (lines (taken_over method to routes came.fields))
    )
