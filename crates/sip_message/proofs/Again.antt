-- What is written of a message says that message.
use Rattle.std.proofs.Common.{◌≡◌, ℕ, ◌^◌, ◌<◌, ◌≤◌, true, List, [], ◌∷◌, ◌++◌, length, map, Some, refl, sym, ap, subst, ◌∙◌, append_assoc, arith, length-append}
use Rattle.std.specs.Prelude.{nat_lt, codes, decimal}
use Rattle.std.specs.List.{list_all, flat_map, AllByRecursion}
use Rattle.std.specs.Char.{is_ascii_digit}
use Rattle.std.specs.Str.Parse.{digits_value}
use Rattle.std.proofs.lemmas.Bool.{lt-ltb}
use Rattle.std.proofs.lemmas.Bool.Decides.{nat_tests}
use Rattle.std.proofs.lemmas.List.{append-nil, take_all}
use Rattle.std.proofs.lemmas.Fmt.{decimal_is_IsNumeral, digits_decimal, digits_value-decimal}
use Rattle.sip_text.specs.Words.{decimal_of}
use Rattle.sip_text.proofs.Trims.{IsTight}
use Rattle.sip_message_fields.specs.declared.field.Field.{Field}
use Rattle.sip_message_fields.specs.declared.field_name.FieldName.TheVariants.{ContentLength}
use Rattle.sip_message_form.specs.declared.message.Message.{Message}
use Rattle.sip_message.specs.Lines.{unfolded_on, unfolded, IsLine, as_lines}
use Rattle.sip_text_runs.specs.TextRun.{is_text}
use Rattle.sip_message.specs.Field.{entries_of, kept}
use Rattle.sip_message.specs.Body.{lengths, IsBody}
use Rattle.sip_message_form.specs.Text.{start_text, field_line, field_text, text_of}
use Rattle.sip_message.specs.Says.{Says, IsWithinLimits}
use Rattle.sip_message.proofs.FieldsAgain.{and_both, all_weaker, no_blank, full_end, IsEntry, entry_again, entry_line, entries_are, IsKept, kept_are}
use Rattle.sip_message.proofs.FieldLaws.{entries_zip, zip_entries}
use Rattle.sip_message.proofs.StartAgain.{own, IsGoodStart, good_start}
use Rattle.sip_message.proofs.StartLaws.{start_is, start_found}

-- ---- the length

some_digits : (n : ℕ) (ds : List ℕ) → 0 < length ds → list_all is_ascii_digit ds ≡ true → digits_value 10 ds ≡ n → n < 2 ^ 64 → decimal_of ds ≡ Some n
some_digits n [] some are value lt = absurd (omega arith)
some_digits n (d ∷ ds) some are value lt =
    let below : nat_lt (digits_value 10 (d ∷ ds)) (2 ^ 64) ≡ true = lt-ltb (digits_value 10 (d ∷ ds)) (2 ^ 64) (omega (arith, value, lt)) in
    rw (are, below) (ap (λ (k : ℕ). Some k) value)

pub decimal_again : (n : ℕ) → n < 2 ^ 64 → decimal_of (decimal n) ≡ Some n
decimal_again n lt = some_digits n (decimal n) (decimal_is_IsNumeral n lt).0.0 (digits_decimal own n lt) (digits_value-decimal own n lt) lt

tight_digits : (ds : List ℕ) → list_all is_ascii_digit ds ≡ true → IsTight ds
tight_digits [] are = tt
tight_digits (d ∷ ds) are = (
  no_blank is_ascii_digit refl refl d (and_both (is_ascii_digit d) (list_all is_ascii_digit ds) are).0,
  full_end is_ascii_digit refl refl d ds are,
)

digit_is_text : (b : ℕ) → is_ascii_digit b ≡ true → is_text b ≡ true
digit_is_text b e = grind (arith, nat_tests)

abbrev length_field : ℕ → Field
length_field n = record { name = ContentLength; value = decimal n }

length_entry : (n : ℕ) → n < 2 ^ 64 → IsEntry (length_field n)
length_entry n lt =
    let are : list_all is_ascii_digit (decimal n) ≡ true = digits_decimal own n lt in
    record {
      name = record { again = refl; token = refl };
      is_text = all_weaker is_ascii_digit is_text digit_is_text (decimal n) are;
      tight = tight_digits (decimal n) are;
    }

-- ---- lines

abbrev pub lines_of : List Field → List (List ℕ)
lines_of fields = map field_line fields

-- entries none of which is a fold, and each a line
are_lines : (fields : List Field) → AllByRecursion IsEntry fields → AllByRecursion IsLine (lines_of fields)
are_lines [] are = tt
are_lines (f ∷ fields) are = ((entry_line f are.0).0, are_lines fields are.1)

no_folds_on : (f : Field) (fields : List Field) → AllByRecursion IsEntry fields → unfolded_on (field_line f) (lines_of fields) ≡ field_line f ∷ lines_of fields
no_folds_on f [] are = refl
no_folds_on f (g ∷ fields) are = rw ((entry_line g are.0).1) (ap (λ (w : List (List ℕ)). field_line f ∷ w) (no_folds_on g fields are.1))

no_folds : (fields : List Field) → AllByRecursion IsEntry fields → unfolded (lines_of fields) ≡ lines_of fields
no_folds [] are = refl
no_folds (f ∷ fields) are = no_folds_on f fields are.1

entries_again : (fields : List Field) → AllByRecursion IsEntry fields → entries_of (lines_of fields) ≡ Some fields
entries_again [] are = refl
entries_again (f ∷ fields) are = rw (entry_again f are.0, entries_again fields are.1) refl

entries_push : (fields : List Field) (f : Field) → AllByRecursion IsKept fields → IsEntry f → AllByRecursion IsEntry (fields ++ f ∷ [])
entries_push [] f are is = (is, tt)
entries_push (g ∷ fields) f are is = (are.0.entry, entries_push fields f are.1 is)

kept_again : (n : ℕ) (fields : List Field) → AllByRecursion IsKept fields → kept (fields ++ length_field n ∷ []) ≡ Some fields
kept_again n [] are = refl
kept_again n (f ∷ fields) are = rw (are.0.whole, kept_again n fields are.1) refl

lengths_again : (n : ℕ) (fields : List Field) → AllByRecursion IsKept fields → lengths (fields ++ length_field n ∷ []) ≡ decimal n ∷ []
lengths_again n [] are = refl
lengths_again n (f ∷ fields) are = rw are.0.no_length (lengths_again n fields are.1)

text_lines : (fields : List Field) (n : ℕ) → as_lines (lines_of (fields ++ length_field n ∷ [])) ≡ flat_map field_text fields
    ++ (codes "Content-Length: " ++ decimal n ++ codes "\r\n")
text_lines [] n = append-nil (codes "Content-Length: " ++ decimal n ++ codes "\r\n")
text_lines (f ∷ fields) n = ap (λ (w : List ℕ). field_text f ++ w) (text_lines fields n)
    ∙ sym (append_assoc (field_text f) (flat_map field_text fields) (codes "Content-Length: " ++ decimal n ++ codes "\r\n"))

regroup : (s fs d body : List ℕ) → s ++ codes "\r\n" ++ fs ++ codes "Content-Length: " ++ d ++ codes "\r\n\r\n" ++ body ≡ s
    ++ 13 ∷ 10 ∷ ((fs ++ (codes "Content-Length: " ++ d ++ codes "\r\n")) ++ 13 ∷ 10 ∷ body)
regroup s fs d body = simp append_assoc

text_is : (m : Message) → text_of m ≡ start_text m.start ++ 13 ∷ 10 ∷ (as_lines (lines_of (m.fields ++ length_field (length m.body) ∷ [])) ++ 13 ∷ 10 ∷ m.body)
text_is m =
    regroup (start_text m.start) (flat_map field_text m.fields) (decimal (length m.body)) m.body
    ∙ ap (λ (w : List ℕ). start_text m.start ++ 13 ∷ 10 ∷ (w ++ 13 ∷ 10 ∷ m.body)) (sym (text_lines m.fields (length m.body)))

-- ---- the whole

body_below : (m : Message) → length (text_of m) ≤ 49152 → length m.body ≤ 49152
body_below m le = omega (
  arith,
  length-append (start_text m.start ++ codes "\r\n" ++ flat_map field_text m.fields ++ codes "Content-Length: " ++ decimal (length m.body)
      ++ codes "\r\n\r\n") m.body,
)

pub again : (bytes : List ℕ) (m : Message) → Says bytes m → IsWithinLimits bytes m → Says (text_of m) m × IsWithinLimits (text_of m) m
again bytes m s w =
    let start : IsGoodStart m.start = good_start s.first m.start (start_found s.first m.start s.is_start) in
    let fields : AllByRecursion IsKept m.fields = kept_are s.entries m.fields (entries_are (unfolded s.lines) s.entries
    (zip_entries (unfolded s.lines) s.entries s.are_entries)) s.are_kept in
    let n : ℕ = length m.body in
    let lt : n < 2 ^ 64 = omega (arith, body_below m w.written) in
    let entries : AllByRecursion IsEntry (m.fields ++ length_field n ∷ []) = entries_push m.fields (length_field n) fields (length_entry n lt) in
    let values : lengths (m.fields ++ length_field n ∷ []) ≡ decimal n ∷ [] = lengths_again n m.fields fields in (
      record {
        first = start_text m.start;
        lines = lines_of (m.fields ++ length_field n ∷ []);
        rest = m.body;
        entries = m.fields ++ length_field n ∷ [];
        is_cut = record { blanks = 0; whole = text_is m; is_line = start.line; are_lines = are_lines (m.fields ++ length_field n ∷ []) entries };
        is_start = start_is (start_text m.start) m.start start.again;
        are_entries = entries_zip (unfolded (lines_of (m.fields ++ length_field n ∷ []))) (m.fields ++ length_field n ∷ [])
            (ap entries_of (no_folds (m.fields ++ length_field n ∷ []) entries) ∙ entries_again (m.fields ++ length_field n ∷ []) entries);
        are_kept = kept_again n m.fields fields;
        is_body = subst (λ ls. IsBody ls m.body m.body) (sym values) (decimal_again n lt, sym (take_all n m.body (omega arith)));
      },
      record { datagram = omega (arith, w.written); fields = w.fields; written = w.written },
    )
