-- A field that is kept is written so that it is read again.
use Rattle.std.proofs.Common.{◌≡◌, ◌≢◌, ℕ, Bool, true, false, cond, List, [], ◌∷◌, ◌++◌, map, Option, Some, None, refl, sym, ap, subst, ◌∙◌, append_assoc, inl, inr, ◌⊎◌}
use Rattle.std.specs.Prelude.{option_map, ◌==◌, ◌&&◌, not, codes}
use Rattle.std.specs.Option.{option_and_then}
use Rattle.std.specs.List.{list_all, AllByRecursion}
use Rattle.std.proofs.lemmas.Bool.{eqb-true}
use Rattle.std.proofs.lemmas.List.Folds.{list_all-append}
use Rattle.sip_text.specs.Words.{is_token_byte, is_token_text}
use Rattle.sip_text.specs.Lists.{is_blank, trimmed, end_trimmed, cut}
use Rattle.sip_text.proofs.Trims.{IsTight, ends_full, tight_of, tight_behind, end_again}
use Rattle.sip_text.proofs.ListItems.{IsItemOf, items_are, all_trimmed_pass}
use Rattle.sip_message_fields.specs.declared.field.Field.{Field}
use Rattle.sip_message_fields.specs.declared.field_name.FieldName.{FieldName}
use Rattle.sip_message_fields.specs.declared.field_name.FieldName.TheVariants.{Other}
use Rattle.sip_message.specs.Lines.{is_crlf, is_fold, IsOneLine, IsLine}
use Rattle.sip_text.specs.Splits.{in_front, split_at_byte}
use Rattle.sip_message_fields.specs.FieldName.{spelling, Known, known_names, is_named, named_in, name_of, is_length, is_list}
use Rattle.sip_message.specs.Start.{is_unbroken}
use Rattle.sip_text_runs.specs.TextRun.{is_text}
use Rattle.sip_message.specs.Field.{field_from, field_of, entries_of, pieces, kept}
use Rattle.sip_message_form.specs.Text.{field_line}
use Rattle.sip_message.proofs.CutLaws.{some_is, pair_is}

-- ---- bytes that pass a test

pub and_both : (a b : Bool) → (a && b) ≡ true → (a ≡ true) × (b ≡ true)
and_both true b e = (refl, e)
and_both false b e = absurd cc

pub and_is : (a b : Bool) → a ≡ true → b ≡ true → (a && b) ≡ true
and_is a b e f = rw (e, f) refl

pub all_weaker : (p q : ℕ → Bool) → ((b : ℕ) → p b ≡ true → q b ≡ true) → (bs : List ℕ) → list_all p bs ≡ true → list_all q bs ≡ true
all_weaker p q weaker [] e = refl
all_weaker p q weaker (b ∷ bs) e =
    let both = and_both (p b) (list_all p bs) e in
    and_is (q b) (list_all q bs) (weaker b both.0) (all_weaker p q weaker bs both.1)

pub all_join : (p : ℕ → Bool) (xs ys : List ℕ) → list_all p xs ≡ true → list_all p ys ≡ true → list_all p (xs ++ ys) ≡ true
all_join p xs ys e f = list_all-append p xs ys ∙ and_is (list_all p xs) (list_all p ys) e f

-- a byte that doesn't pass is no byte that does
pub differs : (p : ℕ → Bool) (mark : ℕ) → p mark ≡ false → (b : ℕ) → p b ≡ true → (b == mark) ≡ false
differs p mark fails b passes = by_test (b == mark) refl
  where
    by_test : (t : Bool) → (b == mark) ≡ t → (b == mark) ≡ false
    by_test false e = e
    by_test true e =
        let same : b ≡ mark = eqb-true b mark e in
        let never : true ≡ false = sym passes ∙ ap p same ∙ fails in
        absurd cc

abbrev pub is_other : ℕ → ℕ → Bool
is_other mark b = not (b == mark)

pub others : (p : ℕ → Bool) (mark : ℕ) → p mark ≡ false → (bs : List ℕ) → list_all p bs ≡ true → list_all (is_other mark) bs ≡ true
others p mark fails bs e = all_weaker p (is_other mark) (λ b h. ap not (differs p mark fails b h)) bs e

pub unbroken : (p : ℕ → Bool) → p 13 ≡ false → p 10 ≡ false → (bs : List ℕ) → list_all p bs ≡ true → list_all is_unbroken bs ≡ true
unbroken p cr lf bs e = all_weaker p is_unbroken (λ b h. rw (differs p 13 cr b h, differs p 10 lf b h) refl) bs e

not_is : (t : Bool) → not t ≡ true → t ≡ false
not_is true e = absurd cc
not_is false e = refl

pub split_again : (mark : ℕ) (front back : List ℕ) → list_all (is_other mark) front ≡ true → (mark == mark) ≡ true
    → split_at_byte mark (front ++ mark ∷ back) ≡ Some (front, back)
split_again mark [] back e same = rw same refl
split_again mark (b ∷ front) back e same =
    let both = and_both (is_other mark b) (list_all (is_other mark) front) e in
    rw (not_is (b == mark) both.0, split_again mark front back both.1 same) refl

-- what is split stands so
pub record IsSplitAt (mark : ℕ) (bytes front back : List ℕ) : Type 0 where
  pub whole : bytes ≡ front ++ mark ∷ back

split_longer : (mark b : ℕ) (bytes front back : List ℕ) (o : Option (List ℕ × List ℕ)) → in_front (b ∷ []) o ≡ Some (front, back)
    → ((f : List ℕ) (g : List ℕ) → o ≡ Some (f, g) → bytes ≡ f ++ mark ∷ g) → b ∷ bytes ≡ front ++ mark ∷ back
split_longer mark b bytes front back None e is = absurd cc
split_longer mark b bytes front back (Some x) e is =
    let p = pair_is (b ∷ x.0, x.1) (front, back) e in
    rw (← p.0, ← p.1) (ap (λ (w : List ℕ). b ∷ w) (is x.0 x.1 refl))

split_either : (mark b : ℕ) (bytes front back : List ℕ) (t : Bool) → (b == mark) ≡ t → split_at_byte mark (b ∷ bytes) ≡ Some (front, back)
    → ((f : List ℕ) (g : List ℕ) → split_at_byte mark bytes ≡ Some (f, g) → bytes ≡ f ++ mark ∷ g) → b ∷ bytes ≡ front ++ mark ∷ back
split_either mark b bytes front back true is e on =
    let got : Some ([], bytes) ≡ Some (front, back) = sym (rw is refl) ∙ e in
    let p = pair_is ([], bytes) (front, back) got in
    rw (← p.0, ← p.1) (ap (λ (k : ℕ). k ∷ bytes) (eqb-true b mark is))
split_either mark b bytes front back false is e on =
    let one : split_at_byte mark (b ∷ bytes) ≡ in_front (b ∷ []) (split_at_byte mark bytes) = rw is refl in
    split_longer mark b bytes front back (split_at_byte mark bytes) (sym one ∙ e) on

pub split_is : (mark : ℕ) (bytes front back : List ℕ) → split_at_byte mark bytes ≡ Some (front, back) → bytes ≡ front ++ mark ∷ back
split_is mark [] front back e = absurd cc
split_is mark (b ∷ bytes) front back e = split_either mark b bytes front back (b == mark) refl e (λ f g h. split_is mark bytes f g h)

-- a line of unbroken bytes is one line
no_end : (b c : ℕ) → is_unbroken b ≡ true → is_crlf b c ≡ false
no_end b c e = ap (λ t. t && (c == 10)) (differs is_unbroken 13 refl b e)

pub one_line : (bs : List ℕ) → list_all is_unbroken bs ≡ true → IsOneLine bs
one_line [] e = tt
one_line (b ∷ []) e = tt
one_line (b ∷ c ∷ bs) e =
    let both = and_both (is_unbroken b) (list_all is_unbroken (c ∷ bs)) e in
    (no_end b c both.0, one_line (c ∷ bs) both.1)

-- ---- names

pub token_bytes : (bs : List ℕ) → is_token_text bs ≡ true → list_all is_token_byte bs ≡ true
token_bytes [] e = absurd cc
token_bytes (b ∷ bs) e = e

blank_or : (b : ℕ) → (b == 32) ≡ false → (b == 9) ≡ false → is_blank b ≡ false
blank_or b e f = rw (e, f) refl

pub no_blank : (p : ℕ → Bool) → p 32 ≡ false → p 9 ≡ false → (b : ℕ) → p b ≡ true → is_blank b ≡ false
no_blank p space tab b e = blank_or b (differs p 32 space b e) (differs p 9 tab b e)

pub full_end : (p : ℕ → Bool) → p 32 ≡ false → p 9 ≡ false → (b : ℕ) (bs : List ℕ) → list_all p (b ∷ bs) ≡ true → ends_full (b ∷ bs)
full_end p space tab b [] e = no_blank p space tab b (and_both (p b) true e).0
full_end p space tab b (c ∷ bs) e = full_end p space tab c bs (and_both (p b) (list_all p (c ∷ bs)) e).1

token_end : (bs : List ℕ) → is_token_text bs ≡ true → end_trimmed bs ≡ bs
token_end [] e = absurd cc
token_end (b ∷ bs) e = end_again (b ∷ bs) (full_end is_token_byte refl refl b bs e)

-- a name whose spelling is read again
pub record IsGoodName (name : FieldName) : Type 0 where
  pub again : name_of (spelling name) ≡ name
  pub token : is_token_text (spelling name) ≡ true

known_good : AllByRecursion (λ k. IsGoodName k.name) known_names
known_good = (
  record { again = refl; token = refl },
  (
    record { again = refl; token = refl },
    (
      record { again = refl; token = refl },
      (
        record { again = refl; token = refl },
        (
          record { again = refl; token = refl },
          (
            record { again = refl; token = refl },
            (
              record { again = refl; token = refl },
              (
                record { again = refl; token = refl },
                (
                  record { again = refl; token = refl },
                  (
                    record { again = refl; token = refl },
                    (
                      record { again = refl; token = refl },
                      (
                        record { again = refl; token = refl },
                        (
                          record { again = refl; token = refl },
                          (
                            record { again = refl; token = refl },
                            (
                              record { again = refl; token = refl },
                              (
                                record { again = refl; token = refl },
                                (
                                  record { again = refl; token = refl },
                                  (
                                    record { again = refl; token = refl },
                                    (
                                      record { again = refl; token = refl },
                                      (
                                        record { again = refl; token = refl },
                                        (
                                          record { again = refl; token = refl },
                                          (
                                            record { again = refl; token = refl },
                                            (
                                              record { again = refl; token = refl },
                                              (record { again = refl; token = refl }, (record { again = refl; token = refl }, tt)),
                                            ),
                                          ),
                                        ),
                                      ),
                                    ),
                                  ),
                                ),
                              ),
                            ),
                          ),
                        ),
                      ),
                    ),
                  ),
                ),
              ),
            ),
          ),
        ),
      ),
    ),
  ),
)

known_or_other : (ks : List Known) (w : List ℕ) → AllByRecursion (λ k. IsGoodName k.name) ks → IsGoodName (named_in ks w) ⊎ (named_in ks w ≡ Other w)
known_or_other [] w good = inr refl
known_or_other (k ∷ ks) w good = by_test (is_named (spelling k.name) k.compact w) (known_or_other ks w good.1)
  where
    by_test : (t : Bool) → IsGoodName (named_in ks w) ⊎ (named_in ks w ≡ Other w) → IsGoodName (cond t k.name (named_in ks w)) ⊎ (cond t k.name (named_in ks w) ≡ Other w)
    by_test true h = inl good.0
    by_test false h = h

pub good_name : (w : List ℕ) → is_token_text w ≡ true → IsGoodName (name_of w)
good_name w token =
    elim (known_or_other known_names w known_good) [
      | inl good ↦ good
      | inr other ↦ record { again = ap (λ n. name_of (spelling n)) other; token = ap (λ n. is_token_text (spelling n)) other ∙ token }
    ]

-- ---- fields

-- a field that a line writes
pub record IsEntry (f : Field) : Type 0 where
  pub name : IsGoodName f.name
  pub is_text : list_all is_text f.value ≡ true
  pub tight : IsTight f.value

pub entry_again : (f : Field) → IsEntry f → field_of (field_line f) ≡ Some f
entry_again f is =
    let token = token_bytes (spelling f.name) is.name.token in
    let grouped : field_line f ≡ spelling f.name ++ 58 ∷ (32 ∷ f.value) = append_assoc (spelling f.name) (codes ": ") f.value in
    let split : split_at_byte 58 (field_line f) ≡ Some (spelling f.name, 32 ∷ f.value) = ap (split_at_byte 58) grouped
    ∙ split_again 58 (spelling f.name) (32 ∷ f.value) (others is_token_byte 58 refl (spelling f.name) token) refl in
    let end : end_trimmed (spelling f.name) ≡ spelling f.name = token_end (spelling f.name) is.name.token in
    let from : field_from (spelling f.name) (32 ∷ f.value) ≡ Some f = rw (end, is.name.token, is.is_text, is.name.again, tight_behind f.value is.tight) refl in
    ap (option_and_then (λ x. field_from x.0 x.1)) split ∙ from

pub entry_line : (f : Field) → IsEntry f → IsLine (field_line f) × (is_fold (field_line f) ≡ false)
entry_line f is =
    let grouped : field_line f ≡ spelling f.name ++ 58 ∷ (32 ∷ f.value) = append_assoc (spelling f.name) (codes ": ") f.value in
    let token = token_bytes (spelling f.name) is.name.token in
    let whole : list_all is_unbroken (spelling f.name ++ 58 ∷ (32 ∷ f.value)) ≡ true =
    all_join is_unbroken (spelling f.name) (58 ∷ (32 ∷ f.value)) (unbroken is_token_byte refl refl (spelling f.name) token)
    (unbroken is_text refl refl f.value is.is_text) in
    subst (λ w. IsLine w × (is_fold w ≡ false)) (sym grouped) (
      (one_line (spelling f.name ++ 58 ∷ (32 ∷ f.value)) whole, some (spelling f.name)),
      first_full (spelling f.name) is.name.token,
    )
  where
    some : (w : List ℕ) → w ++ 58 ∷ (32 ∷ f.value) ≢ []
    some [] e = cc
    some (b ∷ w) e = cc

    first_full : (w : List ℕ) → is_token_text w ≡ true → is_fold (w ++ 58 ∷ (32 ∷ f.value)) ≡ false
    first_full [] e = absurd cc
    first_full (b ∷ w) e = no_blank is_token_byte refl refl b (and_both (is_token_byte b) (list_all is_token_byte w) e).0

field_made : (front value : List ℕ) (f : Field) (s t : Bool) → is_token_text (end_trimmed front) ≡ s → list_all is_text value ≡ t
    → cond s (cond t (Some (record { name = name_of (end_trimmed front); value = trimmed value })) None) None ≡ Some f → IsEntry f
field_made front value f true true is_token are_text e =
    let made : Field = record { name = name_of (end_trimmed front); value = trimmed value } in
    let same : made ≡ f = some_is made f e in
    subst IsEntry same (record { name = good_name (end_trimmed front) is_token; is_text = all_trimmed_pass is_text value are_text; tight = tight_of value })
field_made front value f true false is_token are_text e = absurd cc
field_made front value f false t is_token are_text e = absurd cc

pub entry_of : (line : List ℕ) (f : Field) → field_of line ≡ Some f → IsEntry f
entry_of line f e = by_split (split_at_byte 58 line) e
  where
    by_split : (o : Option (List ℕ × List ℕ)) → option_and_then (λ x. field_from x.0 x.1) o ≡ Some f → IsEntry f
    by_split None e' = absurd cc
    by_split (Some x) e' = field_made x.0 x.1 f (is_token_text (end_trimmed x.0)) (list_all is_text x.1) refl refl e'

both_made : (o : Option Field) (p : Option (List Field)) (fields : List Field) → option_and_then (λ field. option_map (λ fields. field ∷ fields) p) o ≡ Some fields
    → ((f : Field) → o ≡ Some f → IsEntry f) → ((fs : List Field) → p ≡ Some fs → AllByRecursion IsEntry fs) → AllByRecursion IsEntry fields
both_made None p fields e one more = absurd cc
both_made (Some f) None fields e one more = absurd cc
both_made (Some f) (Some fs) fields e one more =
    let same : f ∷ fs ≡ fields = cc in
    subst (AllByRecursion IsEntry) same (one f refl, more fs refl)

pub entries_are : (lines : List (List ℕ)) (fields : List Field) → entries_of lines ≡ Some fields → AllByRecursion IsEntry fields
entries_are [] fields e =
    let same : [] ≡ fields = cc in
    subst (AllByRecursion IsEntry) same tt
entries_are (line ∷ lines) fields e = both_made (field_of line) (entries_of lines) fields e (λ f h. entry_of line f h) (λ fs h. entries_are lines fs h)

-- ---- the fields that are kept

-- a field of a message
pub record IsKept (f : Field) : Type 0 where
  pub entry : IsEntry f
  pub whole : pieces f ≡ Some (f ∷ [])
  pub no_length : is_length f.name ≡ false

one_piece : (f : Field) (item : List ℕ) → is_length f.name ≡ false → is_list f.name ≡ true → IsGoodName f.name → IsItemOf is_text item
    → IsKept (record f { value = item })
one_piece f item not_length listed good is = record {
  entry = record { name = good; is_text = is.pass; tight = is.tight };
  whole = rw (not_length, listed, is.one) refl;
  no_length = not_length;
}

each_piece : (f : Field) (items : List (List ℕ)) → is_length f.name ≡ false → is_list f.name ≡ true → IsGoodName f.name → AllByRecursion (IsItemOf is_text) items
    → AllByRecursion IsKept (map (λ item. record f { value = item }) items)
each_piece f [] not_length listed good are = tt
each_piece f (item ∷ items) not_length listed good are = (one_piece f item not_length listed good are.0, each_piece f items not_length listed good are.1)

pieces_of_list : (f : Field) (items : List Field) (o : Option (List (List ℕ))) → is_length f.name ≡ false → is_list f.name ≡ true → IsEntry f → cut f.value ≡ o
    → option_map (λ items. map (λ item. record f { value = item }) items) o ≡ Some items → AllByRecursion IsKept items
pieces_of_list f items None not_length listed entry c e = absurd cc
pieces_of_list f items (Some out) not_length listed entry c e =
    let same : map (λ item. record f { value = item }) out ≡ items = some_is (map (λ item. record f { value = item }) out) items e in
    subst (AllByRecursion IsKept) same (each_piece f out not_length listed entry.name (items_are is_text f.value out entry.is_text c))

pieces_by : (f : Field) (items : List Field) (s t : Bool) → is_length f.name ≡ s → is_list f.name ≡ t → IsEntry f → pieces f ≡ Some items → AllByRecursion IsKept items
pieces_by f items true t is_len listed entry e =
    let one : pieces f ≡ Some [] = rw is_len refl in
    let same : [] ≡ items = some_is [] items (sym one ∙ e) in
    subst (AllByRecursion IsKept) same tt
pieces_by f items false true is_len listed entry e =
    let one : pieces f ≡ option_map (λ items. map (λ item. record f { value = item }) items) (cut f.value) = rw (is_len, listed) refl in
    pieces_of_list f items (cut f.value) is_len listed entry refl (sym one ∙ e)
pieces_by f items false false is_len listed entry e =
    let one : pieces f ≡ Some (f ∷ []) = rw (is_len, listed) refl in
    let same : f ∷ [] ≡ items = some_is (f ∷ []) items (sym one ∙ e) in
    subst (AllByRecursion IsKept) same (record { entry = entry; whole = one; no_length = is_len }, tt)

all_both : (xs ys : List Field) → AllByRecursion IsKept xs → AllByRecursion IsKept ys → AllByRecursion IsKept (xs ++ ys)
all_both [] ys h k = k
all_both (x ∷ xs) ys h k = (h.0, all_both xs ys h.1 k)

both_kept : (o p : Option (List Field)) (fields : List Field) → option_and_then (λ front. option_map (λ rest. front ++ rest) p) o ≡ Some fields
    → ((fs : List Field) → o ≡ Some fs → AllByRecursion IsKept fs) → ((fs : List Field) → p ≡ Some fs → AllByRecursion IsKept fs) → AllByRecursion IsKept fields
both_kept None p fields e one more = absurd cc
both_kept (Some f) None fields e one more = absurd cc
both_kept (Some f) (Some fs) fields e one more =
    let same : f ++ fs ≡ fields = cc in
    subst (AllByRecursion IsKept) same (all_both f fs (one f refl) (more fs refl))

pub kept_are : (entries fields : List Field) → AllByRecursion IsEntry entries → kept entries ≡ Some fields → AllByRecursion IsKept fields
kept_are [] fields are e =
    let same : [] ≡ fields = cc in
    subst (AllByRecursion IsKept) same tt
kept_are (f ∷ entries) fields are e = both_kept (pieces f) (kept entries) fields e (λ fs h. pieces_by f fs (is_length f.name) (is_list f.name) refl refl are.0 h)
    (λ fs h. kept_are entries fs are.1 h)
