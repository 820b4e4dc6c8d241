-- What `cut` reads, as a grammar.
use Rattle.std.proofs.Common.{◌≡◌, ◌≢◌, ◌↔◌, ℕ, Bool, true, false, cond, List, [], ◌∷◌, ◌++◌, map, Option, Some, None, refl, sym, ap, subst, ◌∙◌, append_assoc, eqb-true}
use Rattle.std.specs.Prelude.{◌==◌, option_map}
use Rattle.std.specs.Option.{option_and_then}
use Rattle.std.specs.List.{AllByRecursion, flat_map, join_with_byte}
use Rattle.sip_text.specs.declared.lists.ListState.{ListState}
use Rattle.sip_text.specs.declared.lists.ListState.TheVariants.{Outside, Quoted, Escaped, Bracketed}
use Rattle.sip_text.specs.Lists.{trimmed, place_after, is_cut, onto, between_cuts, is_nil, all_trimmed, cut}
use Rattle.sip_text.specs.QuotedText.{QuotedPiece, QdText, QuotedPair, IsQuotedPiece, piece_text}
use Rattle.sip_text.specs.ListText.{ItemPart, OneByte, Quotes, Brackets, IsItemPart, part_text, IsItemText, IsList}
use Rattle.sip_text.proofs.ListItems.{IsOne, AreOnes, are_ones, one_rest, one_more, one_nil, not_cut_one}
use Rattle.sip_text.proofs.EscapedLaws.{differs, no_match}

-- ---- one item, from each place in it

-- the rest of an item inside quotes
record InQuotes (text : List ℕ) : Type 0 where
  pieces : List QuotedPiece
  each : AllByRecursion IsQuotedPiece pieces
  rest : List ℕ
  written : text ≡ flat_map piece_text pieces ++ 34 ∷ rest
  after : IsItemText rest

-- behind a `\` inside quotes
record InPair (text : List ℕ) : Type 0 where
  next : ℕ
  rest : List ℕ
  written : text ≡ next ∷ rest
  after : InQuotes rest

-- and inside brackets
record InBrackets (text : List ℕ) : Type 0 where
  bytes : List ℕ
  each : AllByRecursion (λ b. b ≢ 62) bytes
  rest : List ℕ
  written : text ≡ bytes ++ 62 ∷ rest
  after : IsItemText rest

abbrev RestAt : ListState → List ℕ → Type 0
RestAt Outside text = IsItemText text
RestAt Quoted text = InQuotes text
RestAt Escaped text = InPair text
RestAt Bracketed text = InBrackets text

step_outside : (b : ℕ) (bs : List ℕ) (quote bracket : Bool) → (b == 34) ≡ quote → (b == 60) ≡ bracket → (b == 44) ≡ false
    → RestAt (cond quote Quoted (cond bracket Bracketed Outside)) bs → IsItemText (b ∷ bs)
step_outside b bs true bracket q k c r =
    record {
      parts = Quotes r.pieces ∷ r.after.parts;
      each = (r.each, r.after.each);
      written =
          ap (λ (x : ℕ). x ∷ bs) (eqb-true b 34 q) ∙ ap (λ (x : List ℕ). 34 ∷ x) (r.written ∙ ap (λ (x : List ℕ). flat_map piece_text r.pieces ++ 34 ∷ x) r.after.written
          ∙ sym (append_assoc (flat_map piece_text r.pieces) (34 ∷ []) (flat_map part_text r.after.parts)));
    }
step_outside b bs false true q k c r =
    record {
      parts = Brackets r.bytes ∷ r.after.parts;
      each = (r.each, r.after.each);
      written =
          ap (λ (x : ℕ). x ∷ bs) (eqb-true b 60 k) ∙ ap (λ (x : List ℕ). 60 ∷ x) (r.written ∙ ap (λ (x : List ℕ). r.bytes ++ 62 ∷ x) r.after.written
          ∙ sym (append_assoc r.bytes (62 ∷ []) (flat_map part_text r.after.parts)));
    }
step_outside b bs false false q k c r =
    record { parts = OneByte b ∷ r.parts; each = ((differs b 44 c, differs b 34 q, differs b 60 k), r.each); written = ap (λ (x : List ℕ). b ∷ x) r.written }

step_quoted : (b : ℕ) (bs : List ℕ) (quote pair : Bool) → (b == 34) ≡ quote → (b == 92) ≡ pair → RestAt (cond quote Outside (cond pair Escaped Quoted)) bs
    → InQuotes (b ∷ bs)
step_quoted b bs true pair q p r = record { pieces = []; each = tt; rest = bs; written = ap (λ (x : ℕ). x ∷ bs) (eqb-true b 34 q); after = r }
step_quoted b bs false true q p r =
    record {
      pieces = QuotedPair r.next ∷ r.after.pieces;
      each = (tt, r.after.each);
      rest = r.after.rest;
      written = ap (λ (x : ℕ). x ∷ bs) (eqb-true b 92 p) ∙ ap (λ (x : List ℕ). 92 ∷ x) (r.written ∙ ap (λ (x : List ℕ). r.next ∷ x) r.after.written);
      after = r.after.after;
    }
step_quoted b bs false false q p r =
    record {
      pieces = QdText b ∷ r.pieces;
      each = ((differs b 34 q, differs b 92 p), r.each);
      rest = r.rest;
      written = ap (λ (x : List ℕ). b ∷ x) r.written;
      after = r.after;
    }

step_bracketed : (b : ℕ) (bs : List ℕ) (closes : Bool) → (b == 62) ≡ closes → RestAt (cond closes Outside Bracketed) bs → InBrackets (b ∷ bs)
step_bracketed b bs true k r = record { bytes = []; each = tt; rest = bs; written = ap (λ (x : ℕ). x ∷ bs) (eqb-true b 62 k); after = r }
step_bracketed b bs false k r = record {
  bytes = b ∷ r.bytes;
  each = (differs b 62 k, r.each);
  rest = r.rest;
  written = ap (λ (x : List ℕ). b ∷ x) r.written;
  after = r.after;
}

step : (place : ListState) (b : ℕ) (bs : List ℕ) → is_cut place b ≡ false → RestAt (place_after place b) bs → RestAt place (b ∷ bs)
step Outside b bs not_cut r = step_outside b bs (b == 34) (b == 60) refl refl not_cut r
step Quoted b bs not_cut r = step_quoted b bs (b == 34) (b == 92) refl refl r
step Escaped b bs not_cut r = record { next = b; rest = bs; written = refl; after = r }
step Bracketed b bs not_cut r = step_bracketed b bs (b == 62) refl r

nothing_left : (place : ListState) → place ≡ Outside → RestAt place []
nothing_left Outside is = record { parts = []; each = tt; written = refl }
nothing_left Quoted is = absurd cc
nothing_left Escaped is = absurd cc
nothing_left Bracketed is = absurd cc

rest_at : (place : ListState) (text : List ℕ) → IsOne place text → RestAt place text
rest_at place [] e = nothing_left place (one_nil place e)
rest_at place (b ∷ bs) e =
    let not_cut = not_cut_one place b bs (is_cut place b) refl e in
    step place b bs not_cut (rest_at (place_after place b) bs (one_rest place b bs not_cut e))

-- ---- and back

in_quotes : (pieces : List QuotedPiece) (rest : List ℕ) → AllByRecursion IsQuotedPiece pieces → IsOne Outside rest
    → IsOne Quoted ((flat_map piece_text pieces ++ 34 ∷ []) ++ rest)
in_quotes [] rest each one = one_more Quoted 34 rest refl one
in_quotes (QdText b ∷ pieces) rest each one =
    let stays : place_after Quoted b ≡ Quoted = rw (no_match b 34 each.0.0, no_match b 92 each.0.1) refl in
    one_more Quoted b _ refl (rw stays (in_quotes pieces rest each.1 one))
in_quotes (QuotedPair b ∷ pieces) rest each one = one_more Quoted 92 _ refl (one_more Escaped b _ refl (in_quotes pieces rest each.1 one))

in_brackets : (bytes rest : List ℕ) → AllByRecursion (λ b. b ≢ 62) bytes → IsOne Outside rest → IsOne Bracketed ((bytes ++ 62 ∷ []) ++ rest)
in_brackets [] rest each one = one_more Bracketed 62 rest refl one
in_brackets (b ∷ bytes) rest each one =
    let stays : place_after Bracketed b ≡ Bracketed = rw (no_match b 62 each.0) refl in
    one_more Bracketed b _ refl (rw stays (in_brackets bytes rest each.1 one))

one_of : (parts : List ItemPart) → AllByRecursion IsItemPart parts → IsOne Outside (flat_map part_text parts)
one_of [] each = refl
one_of (OneByte b ∷ parts) each =
    let stays : place_after Outside b ≡ Outside = rw (no_match b 34 each.0.1, no_match b 60 each.0.2) refl in
    one_more Outside b _ (no_match b 44 each.0.0) (rw stays (one_of parts each.1))
one_of (Quotes pieces ∷ parts) each = one_more Outside 34 _ refl (in_quotes pieces _ each.0 (one_of parts each.1))
one_of (Brackets bytes ∷ parts) each = one_more Outside 60 _ refl (in_brackets bytes _ each.0 (one_of parts each.1))

item_one : (text : List ℕ) → IsItemText text → IsOne Outside text
item_one text i = subst (IsOne Outside) (sym i.written) (one_of i.parts i.each)

-- ---- the items and their commas

joined_first : (b : ℕ) (first : List ℕ) (others : List (List ℕ)) → join_with_byte 44 ((b ∷ first) ∷ others) ≡ b ∷ join_with_byte 44 (first ∷ others)
joined_first b first [] = refl
joined_first b first (second ∷ others) = refl

text_cut : (b : ℕ) (bs : List ℕ) (items : List (List ℕ)) (o : Option (List (List ℕ))) → b ≡ 44 → option_map (λ items. [] ∷ items) o ≡ Some items
    → ((rest : List (List ℕ)) → o ≡ Some rest → AreOnes Outside rest × (bs ≡ join_with_byte 44 rest)) → b ∷ bs ≡ join_with_byte 44 items
text_cut b bs items None comma e rest_is = absurd cc
text_cut b bs items (Some []) comma e rest_is = absurd (rest_is [] refl).0
text_cut b bs items (Some (first ∷ others)) comma e rest_is =
    let is : [] ∷ first ∷ others ≡ items = cc in
    ap (λ (x : ℕ). x ∷ bs) comma ∙ ap (λ (x : List ℕ). 44 ∷ x) (rest_is (first ∷ others) refl).1 ∙ ap (join_with_byte 44) is

text_on : (b : ℕ) (bs : List ℕ) (place : ListState) (items : List (List ℕ)) (o : Option (List (List ℕ))) → option_map (λ items. onto (b ∷ []) items) o ≡ Some items
    → ((rest : List (List ℕ)) → o ≡ Some rest → AreOnes place rest × (bs ≡ join_with_byte 44 rest)) → b ∷ bs ≡ join_with_byte 44 items
text_on b bs place items None e rest_is = absurd cc
text_on b bs place items (Some []) e rest_is = absurd (rest_is [] refl).0
text_on b bs place items (Some (first ∷ others)) e rest_is =
    let is : (b ∷ first) ∷ others ≡ items = cc in
    ap (λ (x : List ℕ). b ∷ x) (rest_is (first ∷ others) refl).1 ∙ sym (joined_first b first others) ∙ ap (join_with_byte 44) is

text_step : (place : ListState) (b : ℕ) (bs : List ℕ) (items : List (List ℕ)) (t : Bool) → is_cut place b ≡ t → between_cuts place (b ∷ bs) ≡ Some items
    → ((p : ListState) (rest : List (List ℕ)) → between_cuts p bs ≡ Some rest → bs ≡ join_with_byte 44 rest) → b ∷ bs ≡ join_with_byte 44 items
text_step Outside b bs items true is e rest_is =
    let one : between_cuts Outside (b ∷ bs) ≡ option_map (λ items. [] ∷ items) (between_cuts Outside bs) = rw is refl in
    text_cut b bs items (between_cuts Outside bs) (eqb-true b 44 is) (sym one ∙ e) (λ rest h. (are_ones Outside bs rest h, rest_is Outside rest h))
text_step Quoted b bs items true is e rest_is = absurd cc
text_step Escaped b bs items true is e rest_is = absurd cc
text_step Bracketed b bs items true is e rest_is = absurd cc
text_step place b bs items false is e rest_is =
    let one : between_cuts place (b ∷ bs) ≡ option_map (λ items. onto (b ∷ []) items) (between_cuts (place_after place b) bs) = rw is refl in
    text_on b bs (place_after place b) items (between_cuts (place_after place b) bs) (sym one ∙ e)
    (λ rest h. (are_ones (place_after place b) bs rest h, rest_is (place_after place b) rest h))

text_nil : (place : ListState) (items : List (List ℕ)) → between_cuts place [] ≡ Some items → [] ≡ join_with_byte 44 items
text_nil Outside items e = let is : [] ∷ [] ≡ items = cc in ap (join_with_byte 44) is
text_nil Quoted items e = absurd cc
text_nil Escaped items e = absurd cc
text_nil Bracketed items e = absurd cc

text_is : (text : List ℕ) (place : ListState) (items : List (List ℕ)) → between_cuts place text ≡ Some items → text ≡ join_with_byte 44 items
text_is [] place items e = text_nil place items e
text_is (b ∷ bs) place items e = text_step place b bs items (is_cut place b) refl e (λ p rest h. text_is bs p rest h)

put_on : (b : ℕ) (first : List ℕ) (o : Option (List (List ℕ))) → option_map (λ items. onto (b ∷ []) items) (option_map (λ items. first ∷ items) o)
    ≡ option_map (λ items. (b ∷ first) ∷ items) o
put_on b first None = refl
put_on b first (Some items) = refl

one_before : (place : ListState) (first more : List ℕ) → IsOne place first → between_cuts place (first ++ 44 ∷ more)
    ≡ option_map (λ items. first ∷ items) (between_cuts Outside more)
one_before place [] more one = rw (one_nil place one) refl
one_before place (b ∷ bs) more one =
    let not_cut = not_cut_one place b bs (is_cut place b) refl one in
    let go_on : between_cuts place (b ∷ (bs ++ 44 ∷ more)) ≡ option_map (λ items. onto (b ∷ []) items) (between_cuts (place_after place b) (bs ++ 44 ∷ more)) =
    rw not_cut refl in
    go_on ∙ ap (option_map (λ items. onto (b ∷ []) items)) (one_before (place_after place b) bs more (one_rest place b bs not_cut one))
    ∙ put_on b bs (between_cuts Outside more)

cut_back : (first : List ℕ) (others : List (List ℕ)) → IsOne Outside first → AllByRecursion (IsOne Outside) others
    → between_cuts Outside (join_with_byte 44 (first ∷ others)) ≡ Some (first ∷ others)
cut_back first [] one each = one
cut_back first (second ∷ others) one each =
    one_before Outside first (join_with_byte 44 (second ∷ others)) one ∙ ap (option_map (λ items. first ∷ items)) (cut_back second others each.0 each.1)

-- ---- trimmed, and none empty

not_nil : (item : List ℕ) → is_nil item ≡ false → item ≢ []
not_nil [] e same = absurd cc
not_nil (b ∷ bs) e same = cc

nil_not : (item : List ℕ) → item ≢ [] → is_nil item ≡ false
nil_not [] ne = absurd (ne refl)
nil_not (b ∷ bs) ne = refl

record AreTrimmed (between items : List (List ℕ)) : Type 0 where
  trims : items ≡ map trimmed between
  full : AllByRecursion (λ item. item ≢ []) items

trim_one : (item : List ℕ) (others items : List (List ℕ)) (nil : Bool) (o : Option (List (List ℕ))) → is_nil (trimmed item) ≡ nil
    → cond nil None (option_map (λ others. trimmed item ∷ others) o) ≡ Some items → ((rest : List (List ℕ)) → o ≡ Some rest → AreTrimmed others rest)
    → AreTrimmed (item ∷ others) items
trim_one item others items true o is e rest_are = absurd cc
trim_one item others items false None is e rest_are = absurd cc
trim_one item others items false (Some rest) is e rest_are =
    let whole : trimmed item ∷ rest ≡ items = cc in
    let r = rest_are rest refl in
    subst (AreTrimmed (item ∷ others)) whole (record { trims = ap (λ (x : List (List ℕ)). trimmed item ∷ x) r.trims; full = (not_nil (trimmed item) is, r.full) })

are_trimmed : (between items : List (List ℕ)) → all_trimmed between ≡ Some items → AreTrimmed between items
are_trimmed [] items e = let is : [] ≡ items = cc in subst (AreTrimmed []) is (record { trims = refl; full = tt })
are_trimmed (item ∷ others) items e = trim_one item others items (is_nil (trimmed item)) (all_trimmed others) refl e (λ rest h. are_trimmed others rest h)

trim_back : (between : List (List ℕ)) → AllByRecursion (λ item. item ≢ []) (map trimmed between) → all_trimmed between ≡ Some (map trimmed between)
trim_back [] full = refl
trim_back (item ∷ others) full = rw (nil_not (trimmed item) full.0, trim_back others full.1) refl

-- ---- both ways

texts_of : (items : List (List ℕ)) → AllByRecursion (IsOne Outside) items → AllByRecursion IsItemText items
texts_of [] each = tt
texts_of (item ∷ items) each = (rest_at Outside item each.0, texts_of items each.1)

ones_of : (items : List (List ℕ)) → AllByRecursion IsItemText items → AllByRecursion (IsOne Outside) items
ones_of [] each = tt
ones_of (item ∷ items) each = (item_one item each.0, ones_of items each.1)

list_from : (text : List ℕ) (items between : List (List ℕ)) → AreOnes Outside between → text ≡ join_with_byte 44 between → AreTrimmed between items → IsList text items
list_from text items [] ones is t = absurd ones
list_from text items (first ∷ others) ones is t =
    record { between = first ∷ others; some = λ e. cc; each = (rest_at Outside first ones.0, texts_of others ones.1); written = is; trims = t.trims; full = t.full }

list_by : (text : List ℕ) (items : List (List ℕ)) (o : Option (List (List ℕ))) → between_cuts Outside text ≡ o → option_and_then all_trimmed o ≡ Some items
    → IsList text items
list_by text items None is e = absurd cc
list_by text items (Some between) is e = list_from text items between (are_ones Outside text between is) (text_is text Outside between is) (are_trimmed between items e)

cut_between : (between : List (List ℕ)) → between ≢ [] → AllByRecursion (IsOne Outside) between → between_cuts Outside (join_with_byte 44 between) ≡ Some between
cut_between [] some each = absurd (some refl)
cut_between (first ∷ others) some each = cut_back first others each.0 each.1

cut_list_text : (text : List ℕ) (items : List (List ℕ)) → IsList text items → cut text ≡ Some items
cut_list_text text items l =
    ap cut l.written ∙ ap (option_and_then all_trimmed) (cut_between l.between l.some (ones_of l.between l.each))
    ∙ trim_back l.between (subst (AllByRecursion (λ item. item ≢ [])) l.trims l.full) ∙ ap (λ (x : List (List ℕ)). Some x) (sym l.trims)

pub list_both : (text : List ℕ) (items : List (List ℕ)) → (cut text ≡ Some items) ↔ IsList text items
list_both text items = (λ e. list_by text items (between_cuts Outside text) refl e, cut_list_text text items)
