-- The text of a response, list of fields by list of fields.
use Rattle.std.proofs.Common.{◌≡◌, ℕ, Bool, true, false, cond, ◌&&◌, ◌==◌, List, [], ◌∷◌, ◌++◌, map, refl, sym, ap, ◌∙◌, append_assoc, append-nil, flat_map, Option, Some}
use Rattle.std.specs.Option.{option_to_list}
use Rattle.std.specs.Str.{bytes_eq}
use Rattle.std.proofs.lemmas.Slice.Eq.{bytes_eq-Decides}
use Rattle.std.proofs.lemmas.List.Concat.{flat_map-append}
use Rattle.sip_text.specs.Words.{without_case}
use Rattle.sip_message_fields.specs.declared.field.Field.{Field}
use Rattle.sip_message_fields.specs.declared.field_name.FieldName.{FieldName}
use Rattle.sip_message_fields.specs.declared.field_name.FieldName.TheVariants as Name
use Rattle.sip_message_fields.specs.FieldName.{is_same_name, spelling}
use Rattle.sip_message_fields.specs.Named.{all_named, first_named, first_of}
use Rattle.sip_message_fields.specs.Values.{with_first}
use Rattle.sip_message_form.specs.Text.{field_text}
use Rattle.sip_edit_response.specs.Reply.{answered_field, timestamp_for, reply_fields}

abbrev lines : List Field → List ℕ
lines fields = flat_map field_text fields

pub one_line : (field : Field) → flat_map field_text (field ∷ []) ≡ field_text field
one_line field = append-nil (field_text field)

both : (out : List ℕ) (a b : List Field) → out ++ lines a ++ lines b ≡ out ++ lines (a ++ b)
both out a b = append_assoc out (lines a) (lines b) ∙ ap (λ (w : List ℕ). out ++ w) (sym (flat_map-append field_text a b))

seven : (old new : List ℕ) (a b c d e f g : List Field) →
    new ≡ old ++ lines a ++ lines b ++ lines c ++ lines d ++ lines e ++ lines f ++ lines g →
    new ≡ old ++ lines (a ++ b ++ c ++ d ++ e ++ f ++ g)
seven old new a b c d e f g is =
    is
    ∙ ap (λ (w : List ℕ). w ++ lines c ++ lines d ++ lines e ++ lines f ++ lines g) (both old a b)
    ∙ ap (λ (w : List ℕ). w ++ lines d ++ lines e ++ lines f ++ lines g) (both old (a ++ b) c)
    ∙ ap (λ (w : List ℕ). w ++ lines e ++ lines f ++ lines g) (both old (a ++ b ++ c) d)
    ∙ ap (λ (w : List ℕ). w ++ lines f ++ lines g) (both old (a ++ b ++ c ++ d) e)
    ∙ ap (λ (w : List ℕ). w ++ lines g) (both old (a ++ b ++ c ++ d ++ e) f)
    ∙ both old (a ++ b ++ c ++ d ++ e ++ f) g

-- ---- another value of the top Via

abbrev cased : FieldName → List ℕ
cased name = without_case (spelling name)

apart_by : (text a b : List ℕ) (t u : Bool) → bytes_eq text a ≡ t → bytes_eq text b ≡ u → bytes_eq a b ≡ false → (t && u) ≡ false
apart_by text a b true true is_a is_b differ =
    let same : a ≡ b = sym ((bytes_eq-Decides text a).0 is_a) ∙ (bytes_eq-Decides text b).0 is_b in
    let never : bytes_eq a b ≡ true = (bytes_eq-Decides a b).1 same in
    absurd cc
apart_by text a b true false is_a is_b differ = refl
apart_by text a b false u is_a is_b differ = refl

apart : (a b name : FieldName) → is_same_name a b ≡ false → (is_same_name name a && is_same_name name b) ≡ false
apart a b name differ = apart_by (cased name) (cased a) (cased b) (bytes_eq (cased name) (cased a)) (bytes_eq (cased name) (cased b)) refl refl differ

first_by : (n : FieldName) (t u : Bool) (value : List ℕ) (field : Field) (fields others : List Field) → is_same_name field.name n ≡ u → (t && u) ≡ false
    → first_named n others ≡ first_named n fields →
    first_named n (cond t (record field { value = value } ∷ fields) (field ∷ others)) ≡ cond u (Some field) (first_named n fields)
first_by n true true value field fields others is never rest = absurd cc
first_by n true false value field fields others is never rest = ap (λ (t : Bool). cond t (Some (record field { value = value })) (first_named n fields)) is
first_by n false u value field fields others is never rest = ap (λ (t : Bool). cond t (Some field) (first_named n others)) is
    ∙ ap (λ (o : Option Field). cond u (Some field) o) rest

first_stays : (n : FieldName) (via : List ℕ) (fields : List Field) → is_same_name Name.Via n ≡ false
    → first_named n (with_first Name.Via via fields) ≡ first_named n fields
first_stays n via [] differ = refl
first_stays n via (field ∷ fields) differ =
    first_by n (is_same_name field.name Name.Via) (is_same_name field.name n) via field fields (with_first Name.Via via fields) refl (apart Name.Via n field.name differ)
    (first_stays n via fields differ)

abbrev copied : ℕ → List ℕ → List Field → List Field → Option Field → Option Field → Option Field → Option Field → Option Field → List Field
copied status tag vias extras from to call_id cseq timestamp =
    vias ++ option_to_list from ++ map (answered_field status tag) (option_to_list to) ++ option_to_list call_id ++ option_to_list cseq
    ++ cond (status == 100) (option_to_list timestamp) [] ++ extras

same : (status : ℕ) (tag : List ℕ) (vias extras : List Field) (a b c d e f g h i j : Option Field) → a ≡ b → c ≡ d → e ≡ f → g ≡ h → i ≡ j
    → copied status tag vias extras a c e g i ≡ copied status tag vias extras b d f h j
same status tag vias extras a b c d e f g h i j one two three four five =
    ap (λ (o : Option Field). copied status tag vias extras o c e g i) one
    ∙ ap (λ (o : Option Field). copied status tag vias extras b o e g i) two
    ∙ ap (λ (o : Option Field). copied status tag vias extras b d o g i) three
    ∙ ap (λ (o : Option Field). copied status tag vias extras b d f o i) four
    ∙ ap (λ (o : Option Field). copied status tag vias extras b d f h o) five

pub fields_are : (old new : List ℕ) (status : ℕ) (tag via : List ℕ) (fields extras : List Field) →
    new ≡ old ++ flat_map field_text (all_named Name.Via (with_first Name.Via via fields)) ++ flat_map field_text (first_of Name.From fields)
    ++ flat_map field_text (map (answered_field status tag) (first_of Name.To fields))
    ++ flat_map field_text (first_of Name.CallId fields) ++ flat_map field_text (first_of Name.CSeq fields) ++ flat_map field_text (timestamp_for status fields)
    ++ flat_map field_text extras →
    new ≡ old ++ flat_map field_text (reply_fields status tag (with_first Name.Via via fields) extras)
fields_are old new status tag via fields extras is =
    let vias : List Field = all_named Name.Via (with_first Name.Via via fields) in
    seven old new vias (first_of Name.From fields) (map (answered_field status tag) (first_of Name.To fields)) (first_of Name.CallId fields) (first_of Name.CSeq fields)
    (timestamp_for status fields) extras is
    ∙ ap (λ (w : List Field). old ++ lines w) (sym (same status tag vias extras
    (first_named Name.From (with_first Name.Via via fields)) (first_named Name.From fields)
    (first_named Name.To (with_first Name.Via via fields)) (first_named Name.To fields)
    (first_named Name.CallId (with_first Name.Via via fields)) (first_named Name.CallId fields)
    (first_named Name.CSeq (with_first Name.Via via fields)) (first_named Name.CSeq fields)
    (first_named Name.Timestamp (with_first Name.Via via fields)) (first_named Name.Timestamp fields)
    (first_stays Name.From via fields refl) (first_stays Name.To via fields refl) (first_stays Name.CallId via fields refl) (first_stays Name.CSeq via fields refl)
    (first_stays Name.Timestamp via fields refl)))
