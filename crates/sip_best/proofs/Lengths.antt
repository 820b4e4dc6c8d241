-- The length of a message with one more field.
use Rattle.std.proofs.Common.{◌≡◌, ◌∙◌, ℕ, ◌+◌, ◌-◌, ◌^◌, get_or, drop, ◌<◌, ◌≤◌, List, [], ◌∷◌, ◌++◌, length, true, false, refl, ap, sym, arith, min, length-append}
use Rattle.std.specs.List.{flat_map}
use Rattle.std.proofs.lemmas.Grind.{flat_map-append}
use Rattle.std.proofs.lemmas.List.{drop_more}
use Rattle.std.proofs.lemmas.Bool.Decides.{nat_tests}
use Rattle.sip_message_fields.specs.declared.field.Field.{Field}
use Rattle.sip_message_form.specs.declared.message.Message.{Message}
use Rattle.sip_message_form.specs.Text.{field_text, field_line, text_of}
use Rattle.sip_best.specs.Best.{with_field, fits, taking_along}

text_grows : (a b c d e : List ℕ) (fields : List Field) (field : Field) → length (a ++ flat_map field_text (fields ++ field ∷ []) ++ b ++ c ++ d ++ e)
    ≡ length (a ++ flat_map field_text fields ++ b ++ c ++ d ++ e) + length (field_text field)
text_grows a b c d e fields field =
    rw (flat_map-append field_text fields (field ∷ [])) (simp (length-append) (omega arith))

pub length_with_field : (m : Message) (field : Field) → length (text_of (with_field m field)) ≡ length (text_of m) + length (field_text field)
length_with_field m field = text_grows _ _ _ _ _ m.fields field

field_is_long : (field : Field) → 2 ≤ length (field_text field)
field_is_long field = omega (arith, length-append (field_line field) (13 ∷ 10 ∷ []))

-- a field that goes behind a message while there is room
pub taken : (m : Message) (field : Field) (fields : List Field) (long room : ℕ) → long ≡ min (length (field_text field)) (2 ^ 64 - 1) → room ≡ 65507 - length (text_of m)
    → long ≤ room → taking_along (with_field m field) fields ≡ taking_along m (field ∷ fields)
taken m field fields long room is left le =
    let grows = length_with_field m field in
    let more = field_is_long field in
    let within : fits (with_field m field) ≡ true = grind (arith, nat_tests) in
    rw within refl

-- the first that doesn't fit
pub left_out : (m : Message) (field : Field) (fields : List Field) (long room : ℕ) → long ≡ min (length (field_text field)) (2 ^ 64 - 1)
    → room ≡ 65507 - length (text_of m) → room < long → taking_along m (field ∷ fields) ≡ m
left_out m field fields long room is left less =
    let grows = length_with_field m field in
    let without : fits (with_field m field) ≡ false = grind (arith, nat_tests) in
    rw without refl

-- at a place in a list

next : (items : List Field) (i : ℕ) (x : Field) → i < length items → x ≡ get_or items i x → drop i items ≡ x ∷ drop (i + 1) items
next items i x h is = rw (drop_more items i x h, ← is) refl

pub stops : (m : Message) (items : List Field) (i : ℕ) (x : Field) (long room : ℕ) (whole : Message) → i < length items → x ≡ get_or items i x
    → taking_along m (drop i items) ≡ whole → long ≡ min (length (field_text x)) (2 ^ 64 - 1) → room ≡ 65507 - length (text_of m) → room < long → m ≡ whole
stops m items i x long room whole h is so_far long_is room_is less =
    sym (left_out m x (drop (i + 1) items) long room long_is room_is less) ∙ (ap (λ (v : List Field). taking_along m v) (sym (next items i x h is)) ∙ so_far)

pub goes_on : (m : Message) (items : List Field) (i : ℕ) (x : Field) (long room : ℕ) (whole : Message) → i < length items → x ≡ get_or items i x
    → taking_along m (drop i items) ≡ whole → long ≡ min (length (field_text x)) (2 ^ 64 - 1) → room ≡ 65507 - length (text_of m) → long ≤ room
    → taking_along (with_field m x) (drop (i + 1) items) ≡ whole
goes_on m items i x long room whole h is so_far long_is room_is le =
    taken m x (drop (i + 1) items) long room long_is room_is le ∙ (ap (λ (v : List Field). taking_along m v) (sym (next items i x h is)) ∙ so_far)

pub room_left : (m : Message) (field : Field) (long room : ℕ) → long ≡ min (length (field_text field)) (2 ^ 64 - 1) → room ≡ 65507 - length (text_of m) → long ≤ room
    → room - long ≡ 65507 - length (text_of (with_field m field))
room_left m field long room long_is room_is le = omega (arith, length_with_field m field)
