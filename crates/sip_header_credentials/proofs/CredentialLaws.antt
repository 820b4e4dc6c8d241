-- A value writes credentials exactly where it is read as those.
use Rattle.std.proofs.Common.{◌≡◌, ℕ, Bool, true, false, cond, List, [], ◌∷◌, ◌++◌, length, drop, Option, Some, None, refl, sym, ap, subst, ◌∙◌}
use Rattle.std.specs.Prelude.{option_map, codes, take_while, not}
use Rattle.std.proofs.lemmas.List.Sums.{take_while-cons}
use Rattle.std.specs.Option.{option_and_then}
use Rattle.std.specs.List.{AllZip}
use Rattle.sip_text.specs.Words.{is_token_text, is_same_text}
use Rattle.sip_text.specs.Lists.{is_blank, trimmed, front_trimmed}
use Rattle.sip_header_credentials.specs.declared.credentials.Item.{Item}
use Rattle.sip_header_credentials.specs.declared.credentials.Credentials.{Credentials}
use Rattle.sip_text.specs.declared.cuts.Quoting.TheVariants.{Outside}
use Rattle.sip_text.specs.Cuts.{split_outside, parts_at, IsParted, is_full, word_at, behind_word, IsWordAndRest}
use Rattle.sip_header_credentials.specs.Credentials.{value_said, IsItem, item_from, item_by, item_in, items_in, names_differ, credentials_from, from_items}
use Rattle.sip_header_credentials.specs.Credentials.{credentials_of, IsCredentials}
use Rattle.sip_header.proofs.Words.{AllPassing, Stops, behind_is, while_is, IsCutText, cut_text, blank_not_full}
use Rattle.sip_text.proofs.PartLaws.{are_parted, only_parts}
use Rattle.sip_header.proofs.ParameterLaws.{through, plain_text, IsSplitAt, split_back}

-- ---- a word and the rest

pub word_is : (text word rest : List ℕ) → IsWordAndRest text word rest → word_at text ≡ word
word_is text word rest is = ap word_at is.whole ∙ while_is is_full word ((is.blank ∷ is.blanks) ++ rest) is.is_word (blank_not_full is.blank is.are_blank.0)

front_on : (blanks rest : List ℕ) → AllPassing is_blank blanks → front_trimmed (blanks ++ rest) ≡ front_trimmed rest
front_on [] rest are = refl
front_on (b ∷ bs) rest are = one ∙ front_on bs rest are.1
  where
    one : front_trimmed (b ∷ (bs ++ rest)) ≡ front_trimmed (bs ++ rest)
    one =
        let front : take_while is_blank (b ∷ (bs ++ rest)) ≡ b ∷ take_while is_blank (bs ++ rest) = take_while-cons is_blank b (bs ++ rest) ∙ rw are.0 refl in
        ap (λ (w : List ℕ). drop (length w) (b ∷ (bs ++ rest))) front

pub rest_is : (text word rest : List ℕ) → IsWordAndRest text word rest → behind_word text ≡ rest
rest_is text word rest is =
    ap behind_word is.whole ∙ ap front_trimmed (behind_is is_full word ((is.blank ∷ is.blanks) ++ rest) is.is_word (blank_not_full is.blank is.are_blank.0))
    ∙ front_on (is.blank ∷ is.blanks) rest is.are_blank ∙ is.is_rest

front_again : (rest : List ℕ) → Stops is_blank rest → front_trimmed rest ≡ rest
front_again [] stops = refl
front_again (b ∷ bs) stops =
    let front : take_while is_blank (b ∷ bs) ≡ [] = take_while-cons is_blank b bs ∙ rw stops refl in
    ap (λ (w : List ℕ). drop (length w) (b ∷ bs)) front

-- ---- items

pub read_item : (text : List ℕ) (item : Item) → IsItem text item → item_in text ≡ Some item
read_item text item is =
    let token : is_token_text (trimmed is.left) ≡ true = ap is_token_text is.is_name ∙ is.is_token in
    let split : split_outside 61 text ≡ Some (is.left, is.right) = ap (split_outside 61) is.whole ∙ through 61 is.left is.right refl (plain_text is.left token) in
    let from : item_from item.name (trimmed is.right) ≡ Some item = rw (is.is_token, is.is_value) refl in
    ap item_by split ∙ ap (λ (n : List ℕ). item_from n (trimmed is.right)) is.is_name ∙ from

item_back : (text : List ℕ) (x : List ℕ × List ℕ) (item : Item) (a : Bool) (o : Option (List ℕ)) → IsSplitAt 61 text x → is_token_text (trimmed x.0) ≡ a
    → value_said (trimmed x.1) ≡ o
    → cond a (option_map (λ value. record { name = trimmed x.0; value = value }) o) None ≡ Some item → IsItem text item
item_back text x item false o split token said e = absurd cc
item_back text x item true None split token said e = absurd cc
item_back text x item true (Some value) split token said e =
    let same : ◌≡◌ {A = Item} (record { name = trimmed x.0; value = value }) item = cc in
    subst (IsItem text) same (record { left = x.0; right = x.1; whole = split.whole; is_name = refl; is_token = token; is_value = said })

by_split : (text : List ℕ) (item : Item) (o : Option (List ℕ × List ℕ)) → split_outside 61 text ≡ o → item_by o ≡ Some item → IsItem text item
by_split text item None split e = absurd cc
by_split text item (Some x) split e = item_back text x item (is_token_text (trimmed x.0)) (value_said (trimmed x.1)) (split_back Outside 61 text x split) refl refl e

read_items : (texts : List (List ℕ)) (items : List Item) → AllZip IsItem texts items → items_in texts ≡ Some items
read_items [] [] h = refl
read_items [] (item ∷ items) h = absurd h
read_items (text ∷ texts) [] h = absurd h
read_items (text ∷ texts) (item ∷ items) h =
    ap (option_and_then (λ i. option_map (λ others. i ∷ others) (items_in texts))) (read_item text item h.0)
    ∙ ap (option_map (λ (others : List Item). item ∷ others)) (read_items texts items h.1)

several_back : (text : List ℕ) (texts : List (List ℕ)) (items : List Item) (first : Option Item) (others : Option (List Item)) → item_in text ≡ first
    → ((rest : List Item) → others ≡ Some rest → AllZip IsItem texts rest) → option_and_then (λ i. option_map (λ xs. i ∷ xs) others) first ≡ Some items
    → AllZip IsItem (text ∷ texts) items
several_back text texts items None others is rest e = absurd cc
several_back text texts items (Some i) None is rest e = absurd cc
several_back text texts items (Some i) (Some xs) is rest e =
    let same : i ∷ xs ≡ items = cc in
    subst (AllZip IsItem (text ∷ texts)) same (by_split text i (split_outside 61 text) refl is, rest xs refl)

none_back : (items : List Item) → Some [] ≡ Some items → AllZip IsItem [] items
none_back [] e = tt
none_back (item ∷ items) e = absurd cc

written_items : (texts : List (List ℕ)) (items : List Item) → items_in texts ≡ Some items → AllZip IsItem texts items
written_items [] items e = none_back items e
written_items (text ∷ texts) items e = several_back text texts items (item_in text) (items_in texts) refl (λ rest h. written_items texts rest h) e

-- ---- credentials

pub read_credentials : (value : List ℕ) (credentials : Credentials) → IsCredentials value credentials → credentials_of value ≡ Some credentials
read_credentials value credentials is =
    let word : word_at value ≡ is.scheme = word_is value is.scheme is.rest is.is_cut in
    let digest : is_same_text (word_at value) (codes "Digest") ≡ true = ap (λ (w : List ℕ). is_same_text w (codes "Digest")) word ∙ is.is_digest in
    let texts : parts_at 44 (behind_word value) ≡ is.texts = ap (parts_at 44) (rest_is value is.scheme is.rest is.is_cut) ∙ sym (only_parts 44 is.rest is.texts is.parted)
    in
    let from : from_items is.items ≡ Some (credentials_from is.items) = rw is.differ refl in
    let whole : option_and_then from_items (items_in (parts_at 44 (behind_word value))) ≡ Some credentials =
    ap (λ (ts : List (List ℕ)). option_and_then from_items (items_in ts)) texts ∙ ap (option_and_then from_items) (read_items is.texts is.items is.are_items) ∙ from
    ∙ ap (λ (c : Credentials). Some c) is.are_said in
    rw digest whole

items_back : (value : List ℕ) (credentials : Credentials) (cut : IsWordAndRest value (word_at value) (behind_word value)) (texts : List (List ℕ)) (o : Option (List Item))
    (a : Bool) → is_same_text (word_at value) (codes "Digest") ≡ a
    → IsParted 44 (behind_word value) texts → items_in texts ≡ o → cond a (option_and_then from_items o) None ≡ Some credentials → IsCredentials value credentials
items_back value credentials cut texts o false digest parted is e = absurd cc
items_back value credentials cut texts None true digest parted is e = absurd cc
items_back value credentials cut texts (Some items) true digest parted is e = differ_by (names_differ items) refl e
  where
    differ_by : (t : Bool) → names_differ items ≡ t → cond t (Some (credentials_from items)) None ≡ Some credentials → IsCredentials value credentials
    differ_by false differ e = absurd cc
    differ_by true differ e =
        let same : credentials_from items ≡ credentials = cc in
        record {
          scheme = word_at value;
          rest = behind_word value;
          texts = texts;
          items = items;
          is_cut = cut;
          is_digest = digest;
          parted = parted;
          are_items = written_items texts items is;
          differ = differ;
          are_said = same;
        }

-- behind a word alone stands no item
no_rest : (value : List ℕ) (cut : IsCutText value) → cut.blanks ≡ [] → cut.rest ≡ []
no_rest value cut none = by_rest cut.rest refl
  where
    by_rest : (rest : List ℕ) → cut.rest ≡ rest → rest ≡ []
    by_rest [] is = refl
    by_rest (b ∷ bs) is =
        let next : Stops is_full (b ∷ bs) = subst (λ (w : List ℕ). Stops is_full w) (ap (λ (w : List ℕ). w ++ cut.rest) none ∙ is) cut.next in
        let stops : Stops is_blank (b ∷ bs) = subst (Stops is_blank) is cut.stops in
        absurd (both b next stops)
      where
        both : (b : ℕ) → is_full b ≡ false → is_blank b ≡ false → ⊥
        both b full blank = clash (ap not blank ∙ refl) full
          where
            clash : is_full b ≡ true → is_full b ≡ false → ⊥
            clash t f = cc

word_cut_of : (value : List ℕ) (cut : IsCutText value) (blanks : List ℕ) → cut.blanks ≡ blanks → (blanks ≡ [] → ⊥)
    → IsWordAndRest value (word_at value) (behind_word value)
word_cut_of value cut [] is some = absurd (some refl)
word_cut_of value cut (b ∷ bs) is some =
    record {
      blank = b;
      blanks = bs;
      whole = cut.whole ∙ ap (λ (w : List ℕ). cut.word ++ (w ++ cut.rest)) is ∙ ap (λ (w : List ℕ). w ++ ((b ∷ bs) ++ cut.rest)) (sym cut.is_word)
          ∙ ap (λ (w : List ℕ). word_at value ++ ((b ∷ bs) ++ w)) (sym cut.is_rest);
      is_word = subst (AllPassing is_full) (sym cut.is_word) cut.full;
      are_blank = subst (AllPassing is_blank) is cut.are_blank;
      is_rest = subst (λ (w : List ℕ). front_trimmed w ≡ w) (sym cut.is_rest) (front_again cut.rest cut.stops);
    }

-- nothing is no credentials
nothing : (a : Bool) (credentials : Credentials) → cond a (option_and_then from_items (items_in (parts_at 44 []))) None ≡ Some credentials → ⊥
nothing true credentials e = cc
nothing false credentials e = cc

pub written_credentials : (value : List ℕ) (credentials : Credentials) → credentials_of value ≡ Some credentials → IsCredentials value credentials
written_credentials value credentials e = by_blanks (cut_text value)
  where
    by_blanks : IsCutText value → IsCredentials value credentials
    by_blanks cut =
        items_back value credentials (word_cut_of value cut cut.blanks refl some) (parts_at 44 (behind_word value)) (items_in (parts_at 44 (behind_word value)))
        (is_same_text (word_at value) (codes "Digest")) refl (are_parted 44 (behind_word value)) refl e
      where
        some : cut.blanks ≡ [] → ⊥
        some none =
            let empty : behind_word value ≡ [] = cut.is_rest ∙ no_rest value cut none in
            nothing (is_same_text (word_at value) (codes "Digest")) credentials
            (ap (λ (w : List ℕ). cond (is_same_text (word_at value) (codes "Digest")) (option_and_then from_items (items_in (parts_at 44 w))) None) (sym empty) ∙ e)
