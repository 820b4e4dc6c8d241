-- A name that is longer or shorter than another isn't the same.
use Rattle.std.proofs.Common.{◌≡◌, ℕ, suc, Bool, true, false, List, [], ◌∷◌, length, Option, Some, None, refl, sym, ap, ◌∙◌}
use Rattle.std.specs.Prelude.{◌==◌, ◌&&◌}
use Rattle.std.specs.Char.{to_ascii_lowercase}
use Rattle.std.proofs.lemmas.Bool.{eqb-false}
use Rattle.sip_message_fields.specs.text.Words.{is_same_text}
use Rattle.sip_message_fields.specs.text.Span.{part}
use Rattle.sip_message_fields.specs.declared.field_name.FieldName.{FieldName}
use Rattle.sip_message_fields.specs.declared.known_names.KnownName.{KnownName}
use Rattle.sip_message_fields.specs.declared.kept_field.KeptField.{KeptField}
use Rattle.sip_message_fields.specs.FieldName.{is_same_name, spelling}
use Rattle.sip_message_fields.specs.KnownName.{field_name_of, name_seen}
use Rattle.sip_message_fields.specs.KeptField.{field_kept}

second : (a b : Bool) → (a && b) ≡ true → b ≡ true
second true b e = e
second false b e = absurd cc

same_length : (a b : List ℕ) → is_same_text a b ≡ true → length a ≡ length b
same_length [] [] is = refl
same_length [] (y ∷ ys) is = absurd cc
same_length (x ∷ xs) [] is = absurd cc
same_length (x ∷ xs) (y ∷ ys) is = ap (λ (n : ℕ). suc n) (same_length xs ys (second (to_ascii_lowercase x == to_ascii_lowercase y) (is_same_text xs ys) is))

differs : (a b : List ℕ) (t : Bool) → is_same_text a b ≡ t → (length a ≡ length b → ⊥) → false ≡ is_same_text a b
differs a b true is apart = absurd (apart (same_length a b is))
differs a b false is apart = sym is

pub other_length : (store : List ℕ) (kept : KeptField) (right : KnownName) (name : FieldName) (m n : ℕ) → kept.known ≡ None → field_name_of right ≡ name
    → m ≡ length (part store kept.spelling) → n ≡ length (spelling (field_name_of right)) → (m == n) ≡ false
    → false ≡ is_same_name (field_kept store kept).name name
other_length store kept right name m n none is long other apart =
    differs (part store kept.spelling) (spelling name) (is_same_text (part store kept.spelling) (spelling name)) refl
    (λ e. eqb-false m n apart (long ∙ e ∙ sym (other ∙ ap (λ (w : FieldName). length (spelling w)) is)))
    ∙ ap (λ (o : Option KnownName). is_same_name (name_seen o (part store kept.spelling)) name) (sym none)
