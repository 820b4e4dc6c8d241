-- A name that is longer or shorter than those of the fields that give addresses is none of them.
use Rattle.std.proofs.Common.{◌≡◌, ℕ, suc, Bool, true, false, List, [], ◌∷◌, length, refl, sym, ap, ◌∙◌}
use Rattle.std.specs.Prelude.{◌==◌, ◌&&◌, ◌||◌, codes}
use Rattle.std.specs.Char.{to_ascii_lowercase}
use Rattle.std.proofs.lemmas.Bool.{eqb-false}
use Rattle.sip_text.specs.Words.{is_same_text}
use Rattle.sip_message_fields.specs.declared.field_name.FieldName.TheVariants as Name
use Rattle.sip_message_fields.specs.FieldName.{is_same_name}

second : (a b : Bool) → (a && b) ≡ true → b ≡ true
second true b e = e
second false b e = absurd cc

same_length : (a b : List ℕ) → is_same_text a b ≡ true → length a ≡ length b
same_length [] [] is = refl
same_length [] (y ∷ ys) is = absurd cc
same_length (x ∷ xs) [] is = absurd cc
same_length (x ∷ xs) (y ∷ ys) is = ap (λ (n : ℕ). suc n) (same_length xs ys (second (to_ascii_lowercase x == to_ascii_lowercase y) (is_same_text xs ys) is))

differs : (a b : List ℕ) (t : Bool) → is_same_text a b ≡ t → (length a ≡ length b → ⊥) → is_same_text a b ≡ false
differs a b true is apart = absurd (apart (same_length a b is))
differs a b false is apart = is

neither : (a b : Bool) → a ≡ false → b ≡ false → (a || b) ≡ false
neither true b e f = absurd cc
neither false b e f = f

pub never_given : (written : List ℕ) (n : ℕ) → n ≡ length written → (n == 7) ≡ false → (n == 12) ≡ false
    → (is_same_name (Name.Other written) Name.Contact || is_same_name (Name.Other written) Name.RecordRoute) ≡ false
never_given written n is seven twelve =
    neither (is_same_text written (codes "Contact")) (is_same_text written (codes "Record-Route"))
    (differs written (codes "Contact") (is_same_text written (codes "Contact")) refl (λ e. eqb-false n 7 seven (is ∙ e)))
    (differs written (codes "Record-Route") (is_same_text written (codes "Record-Route")) refl (λ e. eqb-false n 12 twelve (is ∙ e)))
