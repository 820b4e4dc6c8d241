-- Fields behind others: of lines, with the one length, and those that are kept.
use Rattle.std.proofs.Common.{◌≡◌, ℕ, Bool, true, false, cond, List, [], ◌∷◌, ◌++◌, length, map, Option, Some, None, Result, Ok, Err, refl, sym, ap, ◌∙◌, append_assoc}
use Rattle.std.specs.Prelude.{option_map}
use Rattle.std.specs.Option.{option_and_then, ok_or, unwrap_or}
use Rattle.std.proofs.lemmas.List.{append-nil}
use Rattle.sip_text.specs.Words.{decimal_of}
use Rattle.sip_message_fields.specs.declared.field.Field.{Field}
use Rattle.sip_message_fields.specs.FieldName.{is_length}
use Rattle.sip_message_form.specs.declared.error.ReadError.{ReadError}
use Rattle.sip_message_form.specs.declared.error.ReadError.TheVariants.{BadField}
use Rattle.sip_message.specs.Field.{field_of, entries_of, pieces, kept}
use Rattle.sip_message.specs.Body.{lengths, one_length}
use Rattle.sip_message.specs.Parts.{folds_kept}
use Rattle.sip_message.specs.HeadContent.{length_behind, field_taken, line_taken}
use Rattle.sip_message.specs.Reading.{◌>>=◌}

-- both of two lists
abbrev both : {A : Type 0} → Option (List A) → Option (List A) → Option (List A)
both o p = option_and_then (λ front. option_map (λ rest. front ++ rest) p) o

both_none : {A : Type 0} (o : Option (List A)) → both o None ≡ None
both_none None = refl
both_none (Some x) = refl

both_again : {A : Type 0} (o p q : Option (List A)) → both o (both p q) ≡ both (both o p) q
both_again None p q = refl
both_again (Some x) None q = refl
both_again (Some x) (Some y) None = refl
both_again (Some x) (Some y) (Some z) = ap (λ w. Some w) (sym (append_assoc x y z))

-- ---- the fields of lines

abbrev first_field : Option Field → Option (List Field) → Option (List Field)
first_field h o = option_and_then (λ field. option_map (λ fields. field ∷ fields) o) h

first_both : (h : Option Field) (o p : Option (List Field)) → first_field h (both o p) ≡ both (first_field h o) p
first_both None o p = refl
first_both (Some f) None p = refl
first_both (Some f) (Some x) None = refl
first_both (Some f) (Some x) (Some y) = refl

none_first : (o : Option (List Field)) → o ≡ both (Some []) o
none_first None = refl
none_first (Some x) = refl

entries_behind : (lines more : List (List ℕ)) → entries_of (lines ++ more) ≡ both (entries_of lines) (entries_of more)
entries_behind [] more = none_first (entries_of more)
entries_behind (line ∷ lines) more = ap (first_field (field_of line)) (entries_behind lines more) ∙ first_both (field_of line) (entries_of lines) (entries_of more)

pub entries_more : (lines : List (List ℕ)) (entries : List Field) (line : List ℕ) (field : Field) → entries_of lines ≡ Some entries → field_of line ≡ Some field
    → entries_of (lines ++ line ∷ []) ≡ Some (entries ++ field ∷ [])
entries_more lines entries line field said is =
    let last : entries_of (line ∷ []) ≡ Some (field ∷ []) = rw is refl in
    entries_behind lines (line ∷ []) ∙ rw (said, last) refl

-- ---- the one length

lengths_either : (t : Bool) (value : List ℕ) (front back : List (List ℕ)) → cond t (value ∷ (front ++ back)) (front ++ back) ≡ cond t (value ∷ front) front ++ back
lengths_either true value front back = refl
lengths_either false value front back = refl

lengths_behind : (entries more : List Field) → lengths (entries ++ more) ≡ lengths entries ++ lengths more
lengths_behind [] more = refl
lengths_behind (field ∷ entries) more =
    ap (λ (w : List (List ℕ)). cond (is_length field.name) (field.value ∷ w) w) (lengths_behind entries more)
    ∙ lengths_either (is_length field.name) field.value (lengths entries) (lengths more)

none_some : (o : Option ℕ) → option_map (λ n. Some n) o ≡ Some None → ⊥
none_some None e = absurd cc
none_some (Some n) e = absurd cc

none_of : (o : Option ℕ) → option_map (λ n. Some n) o ≡ None → o ≡ None
none_of None e = refl
none_of (Some n) e = absurd cc

none_written : (digits : List (List ℕ)) → one_length digits ≡ Some None → digits ≡ []
none_written [] e = refl
none_written (value ∷ []) e = absurd (none_some (decimal_of value) e)
none_written (value ∷ other ∷ digits) e = absurd cc

two_written : (digits more : List (List ℕ)) (value : List ℕ) (n : ℕ) → one_length digits ≡ Some (Some n) → one_length (digits ++ value ∷ more) ≡ None
two_written [] more value n e = absurd cc
two_written (first ∷ []) more value n e = refl
two_written (first ∷ other ∷ digits) more value n e = absurd cc

no_number : (value : List ℕ) (more : List (List ℕ)) → decimal_of value ≡ None → one_length (value ∷ more) ≡ None
no_number value [] none = rw none refl
no_number value (other ∷ more) none = refl

other_field : (n : Option ℕ) (field : Field) → is_length field.name ≡ false → length_behind n field ≡ Some n
other_field n field is = rw is refl

pub one_more : (entries : List Field) (field : Field) (n m : Option ℕ) → one_length (lengths entries) ≡ Some n → length_behind n field ≡ Some m
    → one_length (lengths (entries ++ field ∷ [])) ≡ Some m
one_more entries field n m one e = by_test (is_length field.name) refl n one e
  where
    by_test : (t : Bool) → is_length field.name ≡ t → (k : Option ℕ) → one_length (lengths entries) ≡ Some k → length_behind k field ≡ Some m
        → one_length (lengths (entries ++ field ∷ [])) ≡ Some m
    by_test false is k so_far said =
        let last : lengths (field ∷ []) ≡ [] = rw is refl in
        ap one_length (lengths_behind entries (field ∷ []) ∙ ap (λ (w : List (List ℕ)). lengths entries ++ w) last ∙ append-nil (lengths entries)) ∙ so_far
        ∙ sym (other_field k field is) ∙ said
    by_test true is None so_far said =
        let last : lengths (field ∷ []) ≡ field.value ∷ [] = rw is refl in
        let here : length_behind None field ≡ one_length (field.value ∷ []) = rw is refl in
        ap one_length (lengths_behind entries (field ∷ []) ∙ ap (λ (w : List (List ℕ)). w ++ lengths (field ∷ [])) (none_written (lengths entries) so_far) ∙ last)
        ∙ sym here ∙ said
    by_test true is (Some k) so_far said =
        let here : length_behind (Some k) field ≡ None = rw is refl in
        let no : None ≡ Some m = sym here ∙ said in
        absurd cc

one_bad : (entries more : List Field) (field : Field) (n : Option ℕ) → one_length (lengths entries) ≡ Some n → length_behind n field ≡ None
    → one_length (lengths (entries ++ field ∷ more)) ≡ None
one_bad entries more field n one e = by_test (is_length field.name) refl n one e
  where
    by_test : (t : Bool) → is_length field.name ≡ t → (k : Option ℕ) → one_length (lengths entries) ≡ Some k → length_behind k field ≡ None
        → one_length (lengths (entries ++ field ∷ more)) ≡ None
    by_test false is k so_far said =
        let no : Some k ≡ None = sym (other_field k field is) ∙ said in
        absurd cc
    by_test true is None so_far said =
        let last : lengths (field ∷ more) ≡ field.value ∷ lengths more = rw is refl in
        let here : length_behind None field ≡ option_map (λ n. Some n) (decimal_of field.value) = rw is refl in
        ap one_length (lengths_behind entries (field ∷ more) ∙ ap (λ (w : List (List ℕ)). w ++ lengths (field ∷ more)) (none_written (lengths entries) so_far) ∙ last)
        ∙ no_number field.value (lengths more) (none_of (decimal_of field.value) (sym here ∙ said))
    by_test true is (Some k) so_far said =
        let last : lengths (field ∷ more) ≡ field.value ∷ lengths more = rw is refl in
        ap one_length (lengths_behind entries (field ∷ more) ∙ ap (λ (w : List (List ℕ)). lengths entries ++ w) last)
        ∙ two_written (lengths entries) (lengths more) field.value k so_far

-- ---- the fields that are kept

kept_behind : (entries more : List Field) → kept (entries ++ more) ≡ both (kept entries) (kept more)
kept_behind [] more = none_first (kept more)
kept_behind (field ∷ entries) more = ap (both (pieces field)) (kept_behind entries more) ∙ both_again (pieces field) (kept entries) (kept more)

last_pieces : (o : Option (List Field)) → both o (Some []) ≡ o
last_pieces None = refl
last_pieces (Some items) = ap (λ (w : List Field). Some w) (append-nil items)

pub kept_more : (entries old new : List Field) (field : Field) → kept entries ≡ Some old → option_map (λ items. old ++ items) (pieces field) ≡ Some new
    → kept (entries ++ field ∷ []) ≡ Some new
kept_more entries old new field so_far here = kept_behind entries (field ∷ []) ∙ ap (both (kept entries)) (last_pieces (pieces field))
    ∙ ap (λ (o : Option (List Field)). both o (pieces field)) so_far ∙ here

kept_bad : (entries more : List Field) (field : Field) → pieces field ≡ None → kept (entries ++ field ∷ more) ≡ None
kept_bad entries more field none =
    let here : kept (field ∷ more) ≡ None = rw none refl in
    kept_behind entries (field ∷ more) ∙ ap (both (kept entries)) here ∙ both_none (kept entries)

pub folds_more : (entries : List Field) (flags : List Bool) (field : Field) (flag : Bool) → length flags ≡ length entries
    → folds_kept (entries ++ field ∷ []) (flags ++ flag ∷ []) ≡ folds_kept entries flags ++ map (λ item. flag) (unwrap_or (pieces field) [])
folds_more [] [] field flag even = append-nil (map (λ (item : Field). flag) (unwrap_or (pieces field) []))
folds_more [] (f ∷ flags) field flag even = absurd cc
folds_more (e ∷ entries) [] field flag even = absurd cc
folds_more (e ∷ entries) (f ∷ flags) field flag even =
    let less : length flags ≡ length entries = cc in
    ap (λ (w : List Bool). map (λ (item : Field). f) (unwrap_or (pieces e) []) ++ w) (folds_more entries flags field flag less)
    ∙ sym (append_assoc (map (λ (item : Field). f) (unwrap_or (pieces e) [])) (folds_kept entries flags) (map (λ (item : Field). flag) (unwrap_or (pieces field) [])))

-- ---- what is refused

-- what fields say, and what follows them
abbrev pub content_on : Option (List Field) → List ℕ → Result (Option ℕ × List Field × List ℕ) ReadError
content_on o rest = ok_or o BadField >>= (λ entries. ok_or (one_length (lengths entries)) BadField >>=
    (λ length. ok_or (kept entries) BadField >>= (λ fields. Ok (length, fields, rest))))

abbrev said_of : List ℕ → Option ℕ → List Field → Result (Option ℕ × List Field × List ℕ) ReadError
said_of rest length fields = Ok (length, fields, rest)

nothing_kept : (o : Option (Option ℕ)) (rest : List ℕ) (p : Option (List Field)) → p ≡ None
    → ok_or o BadField >>= (λ length. ok_or p BadField >>= said_of rest length) ≡ Err BadField
nothing_kept None rest p none = refl
nothing_kept (Some n) rest p none = rw none refl

no_items : (length : Option ℕ) (o : Option (List Field)) → option_map {T = List Field} {U = Option ℕ × List Field} (λ items. (length, items)) o ≡ None → o ≡ None
no_items length None e = refl
no_items length (Some items) e = absurd cc

bad_field : (entries more : List Field) (field : Field) (n : Option ℕ) (rest : List ℕ) → one_length (lengths entries) ≡ Some n → field_taken n field ≡ None
    → content_on (Some (entries ++ field ∷ more)) rest ≡ Err BadField
bad_field entries more field n rest one none = by_length (length_behind n field) refl none
  where
    by_length : (o : Option (Option ℕ)) → length_behind n field ≡ o → option_and_then {U = Option ℕ × List Field}
        (λ length. option_map (λ items. (length, items)) (pieces field)) o ≡ None → content_on (Some (entries ++ field ∷ more)) rest ≡ Err BadField
    by_length None is e = rw (one_bad entries more field n one is) refl
    by_length (Some m) is e = nothing_kept (one_length (lengths (entries ++ field ∷ more))) rest (kept (entries ++ field ∷ more))
        (kept_bad entries more field (no_items m (pieces field) e))

pub bad_line : (lines more : List (List ℕ)) (entries : List Field) (line : List ℕ) (n : Option ℕ) (rest : List ℕ) → entries_of lines ≡ Some entries
    → one_length (lengths entries) ≡ Some n → line_taken n line ≡ None
    → content_on (entries_of (lines ++ line ∷ more)) rest ≡ Err BadField
bad_line lines more entries line n rest said one none = by_field (field_of line) refl none
  where
    on_rest : (p : Option (List Field)) → entries_of (line ∷ more) ≡ p → entries_of (lines ++ line ∷ more) ≡ both (Some entries) p
    on_rest p is = entries_behind lines (line ∷ more) ∙ rw (said, is) refl

    by_more : (field : Field) (o : Option (List Field)) → field_of line ≡ Some field → field_taken n field ≡ None → entries_of more ≡ o
        → content_on (entries_of (lines ++ line ∷ more)) rest ≡ Err BadField
    by_more field None is e so = ap (λ (o : Option (List Field)). content_on o rest) (on_rest None (rw (is, so) refl))
    by_more field (Some others) is e so = ap (λ (o : Option (List Field)). content_on o rest) (on_rest (Some (field ∷ others)) (rw (is, so) refl))
        ∙ bad_field entries others field n rest one e

    by_field : (o : Option Field) → field_of line ≡ o → option_and_then (field_taken n) o ≡ None → content_on (entries_of (lines ++ line ∷ more)) rest ≡ Err BadField
    by_field None is e = ap (λ (o : Option (List Field)). content_on o rest) (on_rest None (rw is refl))
    by_field (Some field) is e = by_more field (entries_of more) is e refl
