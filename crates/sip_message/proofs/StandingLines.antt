-- Lines of a head beside the fields that they give.
use Rattle.std.proofs.Common.{◌≡◌, ℕ, zero, suc, ◌≤◌, ◌-◌, ◌+◌, List, [], ◌∷◌, ◌++◌, length, take, flat_map, Some, refl, sym, ap, subst, ◌∙◌, arith, append_assoc}
use Rattle.std.proofs.Common.{append-nil, length-append}
use Rattle.std.proofs.lemmas.Grind.{flat_map-append}
use Rattle.std.proofs.lemmas.List.{take_all}
use Rattle.std.proofs.Math.Seq.{take-append_seam}
use Rattle.sip_message_fields.specs.declared.field.Field.{Field}
use Rattle.sip_message_fields.specs.Lines.{line_of}
use Rattle.sip_message_form.specs.Text.{field_text}
use Rattle.sip_message.specs.declared.stands.Stands.{Stands}
use Rattle.sip_message.specs.declared.stands.Stands.TheVariants.{AsField, AsLength, Apart}
use Rattle.sip_message.specs.declared.stands.HeadLayout.{HeadLayout}
use Rattle.sip_message.specs.declared.stands.HeadLayout.TheVariants.{Going, Ended, Parted}
use Rattle.sip_message.specs.Lines.{line_at}
use Rattle.sip_message.specs.Stands.{IsStanding, IsTakenAs, run_ended, run_behind, AreStanding}
use Rattle.sip_message.proofs.CutLaws as Cut

-- a line with its CRLF, and what follows it
pub text_split : (bytes line after text : List ℕ) → Some (line, after) ≡ line_at bytes → text ≡ line ++ 13 ∷ 10 ∷ [] → bytes ≡ text ++ after
text_split bytes line after text is whole =
    (Cut.line_of bytes line after (sym is)).whole ∙ sym (append_assoc line (13 ∷ 10 ∷ []) after) ∙ ap (λ (w : List ℕ). w ++ after) (sym whole)

one_more : (fields : List Field) (field : Field) (text : List ℕ) → text ≡ line_of field → flat_map field_text (fields ++ field ∷ []) ≡ flat_map field_text fields ++ text
one_more fields field text is = flat_map-append field_text fields (field ∷ []) ∙ ap (λ (w : List ℕ). flat_map field_text fields ++ w)
    (append-nil (field_text field) ∙ sym is)

pub taken_as : (s : Stands) (text after : List ℕ) (old new : List Field) → IsStanding s text old new → IsTakenAs s text after old new after
taken_as AsField text after old new is = (is, refl)
taken_as AsLength text after old new is = (is, refl)
taken_as Apart text after old new is = tt

-- so many bytes at the end are what stands behind the lines
pub in_front : (lines rest : List ℕ) (head : List ℕ) (left : ℕ) → head ≡ lines ++ rest → left ≡ length rest → take (length head - left) head ≡ lines
in_front lines rest head left whole is =
    let long : length head - left ≡ length lines = omega (arith, ap length whole, length-append lines rest, is) in
    ap (λ (n : ℕ). take n head) long ∙ ap (take (length lines)) whole ∙ take-append_seam lines rest

goes_on : (lines more text after next head : List ℕ) → head ≡ lines ++ (text ++ after) → more ≡ lines ++ text → next ≡ after → head ≡ more ++ next
goes_on lines more text after next head whole is same =
    whole ∙ sym (append_assoc lines text after) ∙ ap (λ (w : List ℕ). w ++ after) (sym is) ∙ ap (λ (w : List ℕ). more ++ w) (sym same)

take_some : (n : ℕ) (fields more : List Field) → n ≤ length fields → take n (fields ++ more) ≡ take n fields
take_some zero fields more fits = refl
take_some (suc n) [] more fits = absurd (omega (arith, fits))
take_some (suc n) (f ∷ fields) more fits = ap (λ (w : List Field). f ∷ w) (take_some n fields more (omega (arith, fits)))

field_behind : (run : HeadLayout) (head text after next : List ℕ) (old new : List Field) → AreStanding run head old (text ++ after)
    → IsTakenAs AsField text after old new next
    → AreStanding run head new next
field_behind Going head text after next old new are taken =
    goes_on (flat_map field_text old) (flat_map field_text new) text after next head are
    (ap (flat_map field_text) taken.0.more ∙ one_more old taken.0.field text taken.0.line) taken.1
field_behind (Ended count left) head text after next old new are taken = (
  omega (arith, are.0, ap length taken.0.more, length-append old (taken.0.field ∷ [])),
  are.1
      ∙ ap (flat_map field_text) (sym (ap (take count) taken.0.more ∙ take_some count old (taken.0.field ∷ []) are.0)),
)
field_behind Parted head text after next old new are taken = tt

length_behind : (run : HeadLayout) (head rest next : List ℕ) (fields : List Field) (count left : ℕ) → AreStanding run head fields rest → left ≡ length rest
    → count ≡ length fields → AreStanding (run_ended run count left) head fields next
length_behind Going head rest next fields count left are is same =
    (omega (arith, same), in_front (flat_map field_text fields) rest head left are is ∙ ap (flat_map field_text) (sym (take_all count fields (omega (arith, same)))))
length_behind (Ended n m) head rest next fields count left are is same = tt
length_behind Parted head rest next fields count left are is same = tt

-- one more line is taken
pub line_behind : (run : HeadLayout) (stands : Stands) (head rest line text after next : List ℕ) (old new : List Field) (count left : ℕ) → AreStanding run head old rest
    → Some (line, after) ≡ line_at rest → text ≡ line ++ 13 ∷ 10 ∷ [] → left ≡ length rest
    → count ≡ length new → IsTakenAs stands text after old new next → AreStanding (run_behind run stands count left) head new next
line_behind run AsField head rest line text after next old new count left are is whole behind same taken =
    field_behind run head text after next old new (subst (λ (w : List ℕ). AreStanding run head old w) (text_split rest line after text is whole) are) taken
line_behind run AsLength head rest line text after next old new count left are is whole behind same taken =
    length_behind run head rest next new count left (subst (λ (w : List Field). AreStanding run head w rest) (sym taken.0) are) behind same
line_behind run Apart head rest line text after next old new count left are is whole behind same taken = tt
