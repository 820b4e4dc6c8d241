-- An item in its usual form is read in one pass.
use Rattle.std.proofs.Common.{◌≡◌, ℕ, zero, suc, ◌+◌, ◌≤◌, Bool, true, false, cond, List, [], ◌∷◌, ◌++◌, length, take, drop, Option, Some, None, refl, sym, ap, ◌∙◌}
use Rattle.std.proofs.Common.{arith, append_assoc, length-append}
use Rattle.std.specs.Prelude.{option_map, ◌==◌, ◌&&◌, not}
use Rattle.std.specs.Option.{option_and_then}
use Rattle.std.proofs.lemmas.List.{append-nil}
use Rattle.std.proofs.lemmas.List.Sums.{take_while-cons}
use Rattle.std.proofs.lemmas.Bool.{eqb-true}
use Rattle.sip_text.specs.Words.{is_token_byte, is_token_text, token_at, behind_token}
use Rattle.sip_text.specs.Lists.{is_blank, trimmed, front_trimmed, onto}
use Rattle.sip_text.specs.Escapes.{inside_quotes, stands_for_itself, plain_front}
use Rattle.sip_text.specs.Splits.{split_at_byte, in_front}
use Rattle.sip_text.specs.declared.cuts.Quoting.TheVariants.{Inside}
use Rattle.sip_text.specs.Cuts.{parts_from, parts_at, parts_behind}
use Rattle.sip_text.proofs.Trims as Trims
use Rattle.sip_header.proofs.Words.{AllPassing, IsSplit, split_of, rest_is}
use Rattle.sip_header.proofs.Plain.{tokens, is_token_here, token_whole, token_not_blank}
use Rattle.sip_header.proofs.ParameterLaws.{is_plain, plain_text}
use Rattle.sip_header.proofs.Collecting.{behind, behind_more}
use Rattle.sip_header_credentials.specs.declared.credentials.Item.{Item}
use Rattle.sip_header_credentials.specs.Credentials.{value_said, item_in, items_in}
use Rattle.sip_header_credentials.specs.UsualItems.{comma_and, IsNameFirst, IsValueFirst}
use Rattle.sip_header_credentials.proofs.CredentialLaws.{read_item}

-- ---- a text cut at the first of a byte

split_step : (mark b : ℕ) (bs front rest : List ℕ) (t : Bool) (o : Option (List ℕ × List ℕ)) → (b == mark) ≡ t → split_at_byte mark bs ≡ o
    → ((f r : List ℕ) → o ≡ Some (f, r) → bs ≡ f ++ mark ∷ r)
    → cond t (Some ([], bs)) (in_front (b ∷ []) o) ≡ Some (front, rest) → b ∷ bs ≡ front ++ mark ∷ rest
split_step mark b bs front rest true o same is before e =
    let pair : ◌≡◌ {A = List ℕ × List ℕ} ([], bs) (front, rest) = cc in
    let first : [] ≡ front = ap (λ (w : List ℕ × List ℕ). w.0) pair in
    let behind : bs ≡ rest = ap (λ (w : List ℕ × List ℕ). w.1) pair in
    ap (λ (k : ℕ). k ∷ bs) (eqb-true b mark same) ∙ ap (λ (w : List ℕ). mark ∷ w) behind ∙ ap (λ (w : List ℕ). w ++ mark ∷ rest) first
split_step mark b bs front rest false None same is before e = absurd cc
split_step mark b bs front rest false (Some x) same is before e =
    let pair : ◌≡◌ {A = List ℕ × List ℕ} ((b ∷ []) ++ x.0, x.1) (front, rest) = cc in
    let first : b ∷ x.0 ≡ front = ap (λ (w : List ℕ × List ℕ). w.0) pair in
    let behind : x.1 ≡ rest = ap (λ (w : List ℕ × List ℕ). w.1) pair in
    ap (λ (w : List ℕ). b ∷ w) (before x.0 x.1 refl) ∙ ap (λ (w : List ℕ). (b ∷ x.0) ++ mark ∷ w) behind ∙ ap (λ (w : List ℕ). w ++ mark ∷ rest) first

pub split_whole : (mark : ℕ) (text front rest : List ℕ) → split_at_byte mark text ≡ Some (front, rest) → text ≡ front ++ mark ∷ rest
split_whole mark [] front rest e = absurd cc
split_whole mark (b ∷ bs) front rest e = split_step mark b bs front rest (b == mark) (split_at_byte mark bs) refl refl (λ f r h. split_whole mark bs f r h) e

pub cut_whole : (text front rest : List ℕ) → Some (front, rest) ≡ split_at_byte 44 text → text ≡ front ++ comma_and (Some rest)
cut_whole text front rest e = split_whole 44 text front rest (sym e)

pub uncut_whole : (text : List ℕ) → text ≡ text ++ comma_and None
uncut_whole text = sym (append-nil text)

-- ---- parts of what is plain

onto_twice : (xs ys : List ℕ) (ps : List (List ℕ)) → onto xs (onto ys ps) ≡ onto (xs ++ ys) ps
onto_twice xs ys [] = refl
onto_twice xs ys (p ∷ ps) = ap (λ (w : List ℕ). w ∷ ps) (sym (append_assoc xs ys p))

onto_none : (ps : List (List ℕ)) → onto [] ps ≡ ps
onto_none [] = refl
onto_none (p ∷ ps) = refl

is_other : (m b : ℕ) → is_plain m ≡ false → is_plain b ≡ true → (b == m) ≡ false
is_other m b fails passes = by_test (b == m) refl
  where
    by_test : (t : Bool) → (b == m) ≡ t → t ≡ false
    by_test false is = refl
    by_test true is =
        let same : b ≡ m = eqb-true b m is in
        let both : is_plain b ≡ false = ap is_plain same ∙ fails in
        cc

parts_plain : (left text : List ℕ) → AllPassing is_plain left → parts_at 44 (left ++ text) ≡ onto left (parts_at 44 text)
parts_plain [] text all = sym (onto_none (parts_at 44 text))
parts_plain (b ∷ left) text all =
    let other : (b == 44) ≡ false = is_other 44 b refl all.0 in
    let unquoted : (b == 34) ≡ false = is_other 34 b refl all.0 in
    let one : parts_at 44 (b ∷ (left ++ text)) ≡ onto (b ∷ []) (parts_at 44 (left ++ text)) = rw (other, unquoted) refl in
    one ∙ ap (onto (b ∷ [])) (parts_plain left text all.1) ∙ onto_twice (b ∷ []) left (parts_at 44 text)

parts_end : (rest : Option (List ℕ)) → parts_at 44 (comma_and rest) ≡ [] ∷ parts_behind 44 rest
parts_end None = refl
parts_end (Some rest) = refl

-- ---- an item by its value

module _ (left text written said : List ℕ) (rest : Option (List ℕ)) (cut : parts_at 44 text ≡ onto written (parts_at 44 (comma_and rest)))
    (is_said : value_said (trimmed written) ≡ Some said) (token : is_token_text (trimmed left) ≡ true) where
  item_parts : parts_at 44 (left ++ 61 ∷ text) ≡ (left ++ 61 ∷ written) ∷ parts_behind 44 rest
  item_parts =
      let value : parts_at 44 text ≡ written ∷ parts_behind 44 rest = cut ∙ ap (onto written) (parts_end rest)
      ∙ ap (λ (w : List ℕ). w ∷ parts_behind 44 rest) (append-nil written) in
      let equals : parts_at 44 (61 ∷ text) ≡ onto (61 ∷ []) (parts_at 44 text) = refl in
      parts_plain left (61 ∷ text) (plain_text left token) ∙ ap (onto left) (equals ∙ ap (onto (61 ∷ [])) value)

  item_first : items_in (parts_at 44 (left ++ 61 ∷ text)) ≡ option_map (λ (others : List Item). record { name = trimmed left; value = said } ∷ others)
      (items_in (parts_behind 44 rest))
  item_first =
      let item : item_in (left ++ 61 ∷ written) ≡ Some (record { name = trimmed left; value = said }) =
      read_item (left ++ 61 ∷ written) (record { name = trimmed left; value = said })
      (record { left = left; right = written; whole = refl; is_name = refl; is_token = token; is_value = is_said }) in
      ap items_in item_parts ∙ ap (λ (o : Option Item). option_and_then (λ i. option_map (λ others. i ∷ others) (items_in (parts_behind 44 rest))) o) item

-- ---- a token

pub token_first : (text written said : List ℕ) (rest : Option (List ℕ)) → text ≡ written ++ comma_and rest → said ≡ trimmed written → is_token_text said ≡ true
    → IsValueFirst text said rest
token_first text written said rest whole is token =
    let trim : is_token_text (trimmed written) ≡ true = ap is_token_text (sym is) ∙ token in
    let cut : parts_at 44 text ≡ onto written (parts_at 44 (comma_and rest)) = ap (parts_at 44) whole ∙ parts_plain written (comma_and rest) (plain_text written trim) in
    let says : value_said (trimmed written) ≡ Some (trimmed written) = rw trim refl in
    let said_is : value_said (trimmed written) ≡ Some said = says ∙ ap (λ (w : List ℕ). Some w) (sym is) in
    let size : length text ≡ length written + length (comma_and rest) = ap length whole ∙ length-append written (comma_and rest) in
    record { items = λ left is_name. item_first left text written said rest cut said_is is_name; shorter = omega (arith, size) }

-- ---- quoted text without a `\`

quote_unfolds : (b : ℕ) (bs : List ℕ) (t : Bool) → stands_for_itself b ≡ t → plain_front (b ∷ bs) ≡ cond t (b ∷ plain_front bs) []
quote_unfolds b bs t is = take_while-cons stands_for_itself b bs ∙ ap (λ s. cond s (b ∷ plain_front bs) []) is

not_quote : (q s : Bool) → (not q && not s) ≡ true → (q ≡ false) × (s ≡ false)
not_quote false false e = (refl, refl)
not_quote false true e = absurd cc
not_quote true s e = absurd cc

-- what a quoted text says, one more byte in front
said_more : (b : ℕ) (ys v : List ℕ) → stands_for_itself b ≡ true → inside_quotes ys ≡ Some v → inside_quotes (b ∷ ys) ≡ Some (b ∷ v)
said_more b [] v plain e = absurd cc
said_more b (c ∷ ys) v plain e =
    let n : ((b == 34) ≡ false) × ((b == 92) ≡ false) = not_quote (b == 34) (b == 92) plain in
    rw (n.0, n.1, e) refl

module _ (tail : List ℕ) where
  abbrev front_of : List ℕ → List ℕ
  front_of xs = take (length (plain_front xs)) xs

  pub record IsQuotedFirst (xs : List ℕ) : Type 0 where
    pub parts : parts_from Inside 44 xs ≡ onto (front_of xs ++ 34 ∷ []) (parts_at 44 tail)
    pub says : inside_quotes (front_of xs ++ 34 ∷ []) ≡ Some (front_of xs)

  quoted_by : (b : ℕ) (xs : List ℕ) (t : Bool) → stands_for_itself b ≡ t → (drop (length (plain_front xs)) xs ≡ 34 ∷ tail → IsQuotedFirst xs)
      → drop (length (plain_front (b ∷ xs))) (b ∷ xs) ≡ 34 ∷ tail → IsQuotedFirst (b ∷ xs)
  quoted_by b xs true is before e =
      let front : plain_front (b ∷ xs) ≡ b ∷ plain_front xs = quote_unfolds b xs true is in
      let taken : front_of (b ∷ xs) ≡ b ∷ front_of xs = ap (λ (w : List ℕ). take (length w) (b ∷ xs)) front in
      let left : drop (length (plain_front xs)) xs ≡ 34 ∷ tail = ap (λ (w : List ℕ). drop (length w) (b ∷ xs)) (sym front) ∙ e in
      let h : IsQuotedFirst xs = before left in
      let n : ((b == 34) ≡ false) × ((b == 92) ≡ false) = not_quote (b == 34) (b == 92) is in
      let one : parts_from Inside 44 (b ∷ xs) ≡ onto (b ∷ []) (parts_from Inside 44 xs) = rw (n.0, n.1) refl in
      let parts : parts_from Inside 44 (b ∷ xs) ≡ onto (b ∷ (front_of xs ++ 34 ∷ [])) (parts_at 44 tail) = one ∙ ap (onto (b ∷ [])) h.parts
      ∙ onto_twice (b ∷ []) (front_of xs ++ 34 ∷ []) (parts_at 44 tail) in
      let says : inside_quotes (b ∷ (front_of xs ++ 34 ∷ [])) ≡ Some (b ∷ front_of xs) = said_more b (front_of xs ++ 34 ∷ []) (front_of xs) is h.says in
      record {
        parts = parts ∙ ap (λ (w : List ℕ). onto (w ++ 34 ∷ []) (parts_at 44 tail)) (sym taken);
        says = ap (λ (w : List ℕ). inside_quotes (w ++ 34 ∷ [])) taken ∙ says ∙ ap (λ (w : List ℕ). Some w) (sym taken);
      }
  quoted_by b xs false is before e =
      let front : plain_front (b ∷ xs) ≡ [] = quote_unfolds b xs false is in
      let taken : front_of (b ∷ xs) ≡ [] = ap (λ (w : List ℕ). take (length w) (b ∷ xs)) front in
      let left : b ∷ xs ≡ 34 ∷ tail = ap (λ (w : List ℕ). drop (length w) (b ∷ xs)) (sym front) ∙ e in
      let parts : parts_from Inside 44 (b ∷ xs) ≡ onto (34 ∷ []) (parts_at 44 tail) = ap (parts_from Inside 44) left in
      record {
        parts = parts ∙ ap (λ (w : List ℕ). onto (w ++ 34 ∷ []) (parts_at 44 tail)) (sym taken);
        says = ap (λ (w : List ℕ). inside_quotes (w ++ 34 ∷ [])) taken ∙ ap (λ (w : List ℕ). Some w) (sym taken);
      }

  quoted_is : (xs : List ℕ) → drop (length (plain_front xs)) xs ≡ 34 ∷ tail → IsQuotedFirst xs
  quoted_is [] e = absurd cc
  quoted_is (b ∷ xs) e = quoted_by b xs (stands_for_itself b) refl (λ h. quoted_is xs h) e

ends_so : (xs : List ℕ) → Trims.ends_full (xs ++ 34 ∷ [])
ends_so [] = refl
ends_so (c ∷ []) = refl
ends_so (c ∷ d ∷ xs) = ends_so (d ∷ xs)

pub quoted_first : (text inside tail said : List ℕ) (rest : Option (List ℕ)) → text ≡ 34 ∷ inside → said ≡ take (length (plain_front inside)) inside
    → drop (length (plain_front inside)) inside ≡ 34 ∷ tail → tail ≡ comma_and rest → IsValueFirst text said rest
quoted_first text inside tail said rest whole is behind ends =
    let h : IsQuotedFirst tail inside = quoted_is tail inside behind in
    let front : List ℕ = take (length (plain_front inside)) inside in
    let written : List ℕ = 34 ∷ (front ++ 34 ∷ []) in
    let equals : parts_at 44 (34 ∷ inside) ≡ onto (34 ∷ []) (parts_from Inside 44 inside) = refl in
    let cut : parts_at 44 text ≡ onto written (parts_at 44 (comma_and rest)) =
    ap (parts_at 44) whole ∙ equals ∙ ap (onto (34 ∷ [])) h.parts ∙ onto_twice (34 ∷ []) (front ++ 34 ∷ []) (parts_at 44 tail)
    ∙ ap (λ (w : List ℕ). onto written (parts_at 44 w)) ends in
    let trim : trimmed written ≡ written = Trims.tight_again written (refl, ends_so (34 ∷ front)) in
    let says : value_said written ≡ Some front = h.says in
    let said_is : value_said (trimmed written) ≡ Some said = ap value_said trim ∙ says ∙ ap (λ (w : List ℕ). Some w) (sym is) in
    let size : length text ≡ suc (length inside) = ap length whole in
    let size_behind : length (drop (length (plain_front inside)) inside) ≡ suc (length (comma_and rest)) = ap length behind ∙ ap (λ (w : List ℕ). suc (length w)) ends in
    record {
      items = λ left is_name. item_first left text written said rest cut said_is is_name;
      shorter = omega (arith, size, size_behind, fewer inside (length (plain_front inside)));
    }
  where
    fewer : (xs : List ℕ) (n : ℕ) → length (drop n xs) ≤ length xs
    fewer xs zero = omega arith
    fewer [] (suc n) = omega arith
    fewer (b ∷ xs) (suc n) = let less = fewer xs n in omega (arith, less)

-- ---- an item

ends_token : (b : ℕ) (bs : List ℕ) → AllPassing is_token_byte (b ∷ bs) → Trims.ends_full (b ∷ bs)
ends_token b [] all = token_not_blank b all.0
ends_token b (c ∷ bs) all = ends_token c bs all.1

tight_token : (bytes : List ℕ) → AllPassing is_token_byte bytes → Trims.IsTight bytes
tight_token [] all = tt
tight_token (b ∷ bs) all = (token_not_blank b all.0, ends_token b bs all)

pub name_first : (text inner name rest right : List ℕ) → inner ≡ front_trimmed text → name ≡ token_at inner → rest ≡ behind_token inner → (length name == 0) ≡ false
    → rest ≡ 61 ∷ right → IsNameFirst text name right
name_first text inner name rest right trim front back some mark =
    let s : IsSplit is_blank text = split_of is_blank text in
    let token : is_token_text name ≡ true = is_token_here inner name front some in
    let whole : inner ≡ name ++ 61 ∷ right = token_whole inner name rest front back ∙ ap (λ (w : List ℕ). name ++ w) mark in
    let cut : text ≡ s.front ++ (name ++ 61 ∷ right) = s.whole ∙ ap (λ (w : List ℕ). s.front ++ w) (sym (trim ∙ rest_is is_blank text s) ∙ whole) in
    record {
      left = s.front ++ name;
      whole = cut ∙ sym (append_assoc s.front name (61 ∷ right));
      is_name = sym (ap trimmed (append-nil (s.front ++ name))) ∙ Trims.trimmed_is s.front name [] s.passing (tight_token name (tokens name token)) tt;
      is_token = token;
    }

pub usual_first : (text right name said : List ℕ) (rest : Option (List ℕ)) (item : Item) → IsNameFirst text name right → IsValueFirst right said rest
    → item ≡ record { name = name; value = said } → items_in (parts_at 44 text) ≡ option_map (λ (others : List Item). item ∷ others) (items_in (parts_behind 44 rest))
usual_first text right name said rest item n value made =
    ap (λ (w : List ℕ). items_in (parts_at 44 w)) n.whole ∙ value.items n.left (ap is_token_text n.is_name ∙ n.is_token)
    ∙ ap (λ (m : List ℕ). option_map (λ (others : List Item). record { name = m; value = said } ∷ others) (items_in (parts_behind 44 rest))) n.is_name
    ∙ ap (λ (i : Item). option_map (λ (others : List Item). i ∷ others) (items_in (parts_behind 44 rest))) (sym made)

pub usual_shorter : (text right name said : List ℕ) (rest : Option (List ℕ)) → IsNameFirst text name right → IsValueFirst right said rest
    → length (comma_and rest) ≤ length text
usual_shorter text right name said rest n value =
    let size : length text ≡ length n.left + length (61 ∷ right) = ap length n.whole ∙ length-append n.left (61 ∷ right) in
    omega (arith, size, value.shorter)

-- ---- one item more

pub goes_on : (items : List Item) (item : Item) (text : List ℕ) (rest : Option (List ℕ)) (total : Option (List Item))
    → items_in (parts_at 44 text) ≡ option_map (λ (others : List Item). item ∷ others) (items_in (parts_behind 44 rest))
    → behind items (items_in (parts_at 44 text)) ≡ total
    → behind (items ++ item ∷ []) (items_in (parts_behind 44 rest)) ≡ total
goes_on items item text rest total is so_far = behind_more items item (items_in (parts_behind 44 rest)) ∙ ap (behind items) (sym is) ∙ so_far
