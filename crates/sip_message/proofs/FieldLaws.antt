-- A line writes a field where it is a name, blanks, `:` and a value.
use Rattle.std.proofs.Common.{◌≡◌, ℕ, Bool, true, false, cond, List, [], ◌∷◌, ◌++◌, length, take, Option, Some, None, refl, sym, ap, subst, ◌∙◌}
use Rattle.std.specs.Prelude.{option_map}
use Rattle.std.specs.Option.{option_and_then}
use Rattle.std.specs.List.{list_all, AllByRecursion, AllZip}
use Rattle.std.proofs.lemmas.List.{append-nil, take_at}
use Rattle.sip_text.specs.Words.{is_token_byte, is_token_text}
use Rattle.sip_text.specs.Lists.{is_blank, trimmed, end_trimmed}
use Rattle.sip_text.proofs.Trims.{EndSplit, end_split, end_without, ends_full}
use Rattle.sip_message_fields.specs.declared.field.Field.{Field}
use Rattle.sip_text.specs.Splits.{split_at_byte}
use Rattle.sip_message_fields.specs.FieldName.{name_of}
use Rattle.sip_text_runs.specs.TextRun.{is_text}
use Rattle.sip_message.specs.Field.{field_from, field_of, entries_of, IsField}
use Rattle.sip_message.specs.Named.{IsNamed}
use Rattle.sip_message.proofs.CutLaws.{some_is}
use Rattle.sip_message.proofs.FieldsAgain.{all_join, differs, is_other, others, split_again, split_is, token_bytes, full_end}

field_parts : (line front value : List ℕ) (f : Field) (s t : Bool) → line ≡ front ++ 58 ∷ value → is_token_text (end_trimmed front) ≡ s → list_all is_text value ≡ t
    → cond s (cond t (Some (record { name = name_of (end_trimmed front); value = trimmed value })) None) None ≡ Some f → IsField line f
field_parts line front value f true true whole token text e =
    let made : Field = record { name = name_of (end_trimmed front); value = trimmed value } in
    let same : made ≡ f = some_is made f e in
    let s : EndSplit front = end_split front in
    subst (IsField line) same (record {
      written = end_trimmed front;
      blanks = s.blanks;
      value = value;
      whole = whole ∙ ap (λ (w : List ℕ). w ++ 58 ∷ value) s.whole;
      is_token = token;
      are_blank = s.are_blank;
      is_text = text;
      is_name = refl;
      is_value = refl;
    })
field_parts line front value f true false whole token text e = absurd cc
field_parts line front value f false t whole token text e = absurd cc

pub field_is : (line : List ℕ) (f : Field) → field_of line ≡ Some f → IsField line f
field_is line f e = by_split (split_at_byte 58 line) refl e
  where
    by_split : (o : Option (List ℕ × List ℕ)) → split_at_byte 58 line ≡ o → option_and_then (λ x. field_from x.0 x.1) o ≡ Some f → IsField line f
    by_split None is e' = absurd cc
    by_split (Some x) is e' = field_parts line x.0 x.1 f (is_token_text (end_trimmed x.0)) (list_all is_text x.1) (split_is 58 line x.0 x.1 is) refl refl e'

blanks_other : (bs : List ℕ) → AllByRecursion (λ b. is_blank b ≡ true) bs → list_all (is_other 58) bs ≡ true
blanks_other [] are = refl
blanks_other (b ∷ bs) are = rw (differs is_blank 58 refl b are.0, blanks_other bs are.1) refl

token_full : (bs : List ℕ) → is_token_text bs ≡ true → ends_full bs
token_full [] e = absurd cc
token_full (b ∷ bs) e = full_end is_token_byte refl refl b bs e

pub field_found : (line : List ℕ) (f : Field) → IsField line f → field_of line ≡ Some f
field_found line f is =
    let token = others is_token_byte 58 refl is.written (token_bytes is.written is.is_token) in
    let split : split_at_byte 58 line ≡ Some (is.written ++ is.blanks, is.value) = ap (split_at_byte 58) is.whole
    ∙ split_again 58 (is.written ++ is.blanks) is.value (all_join (is_other 58) is.written is.blanks token (blanks_other is.blanks is.are_blank)) refl in
    let end : end_trimmed (is.written ++ is.blanks) ≡ is.written = end_without is.written is.blanks (token_full is.written is.is_token) is.are_blank in
    let from : field_from (is.written ++ is.blanks) is.value ≡ Some f = rw (end, is.is_token, is.is_text, ← is.is_name, ← is.is_value) refl in
    ap (option_and_then (λ x. field_from x.0 x.1)) split ∙ from

both_zip : (line : List ℕ) (lines : List (List ℕ)) (o : Option Field) (p : Option (List Field)) (fields : List Field) → field_of line ≡ o
    → option_and_then (λ field. option_map (λ fields. field ∷ fields) p) o ≡ Some fields
    → ((fs : List Field) → p ≡ Some fs → AllZip IsField lines fs) → AllZip IsField (line ∷ lines) fields
both_zip line lines None p fields is e more = absurd cc
both_zip line lines (Some f) None fields is e more = absurd cc
both_zip line lines (Some f) (Some fs) fields is e more =
    let same : f ∷ fs ≡ fields = cc in
    subst (AllZip IsField (line ∷ lines)) same (field_is line f is, more fs refl)

pub entries_zip : (lines : List (List ℕ)) (fields : List Field) → entries_of lines ≡ Some fields → AllZip IsField lines fields
entries_zip [] fields e =
    let same : [] ≡ fields = cc in
    subst (AllZip IsField []) same tt
entries_zip (line ∷ lines) fields e = both_zip line lines (field_of line) (entries_of lines) fields refl e (λ fs h. entries_zip lines fs h)

pub zip_entries : (lines : List (List ℕ)) (fields : List Field) → AllZip IsField lines fields → entries_of lines ≡ Some fields
zip_entries [] [] are = refl
zip_entries [] (f ∷ fields) are = absurd are
zip_entries (line ∷ lines) [] are = absurd are
zip_entries (line ∷ lines) (f ∷ fields) are = rw (field_found line f are.0, zip_entries lines fields are.1) refl

-- ---- a line that begins with a name

pub named_cut : (line name value : List ℕ) → IsNamed line name value → split_at_byte 58 line ≡ Some (name, value)
named_cut line name value is = ap (split_at_byte 58) is.whole ∙ split_again 58 name value (others is_token_byte 58 refl name (token_bytes name is.is_token)) refl

named_end : (name : List ℕ) → is_token_text name ≡ true → end_trimmed name ≡ name
named_end name token = ap end_trimmed (sym (append-nil name)) ∙ end_without name [] (token_full name token) tt

pub named_field : (line name value : List ℕ) → IsNamed line name value → list_all is_text value ≡ true
    → field_of line ≡ Some (record { name = name_of name; value = trimmed value })
named_field line name value is text =
    let from : field_from name value ≡ Some (record { name = name_of name; value = trimmed value }) = rw (named_end name is.is_token, is.is_token, text) refl in
    ap (option_and_then (λ x. field_from x.0 x.1)) (named_cut line name value is) ∙ from

pub named_bad : (line name value : List ℕ) → IsNamed line name value → list_all is_text value ≡ false → field_of line ≡ None
named_bad line name value is text =
    let from : field_from name value ≡ None = rw (named_end name is.is_token, is.is_token, text) refl in
    ap (option_and_then (λ x. field_from x.0 x.1)) (named_cut line name value is) ∙ from

pub named_front : (line name value : List ℕ) → IsNamed line name value → take (length name) line ≡ name
named_front line name value is = ap (take (length name)) is.whole ∙ take_at name (58 ∷ value) (length name) refl
