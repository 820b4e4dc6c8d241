-- Cutting text at a byte outside quoted text.
use Rattle.std.proofs.Common.{◌≡◌, ℕ, ◌+◌, ◌<◌, ◌≤◌, Bool, true, false, List, [], ◌∷◌, ◌++◌, length, take, drop, get_or, Option, Some, None, refl, sym, ap, ◌∙◌}
use Rattle.std.proofs.Common.{append_assoc, arith, zero, suc}
use Rattle.std.specs.Prelude.{◌==◌}
use Rattle.std.proofs.lemmas.List.{append-nil, take_more, drop_more, drop_all}
use Rattle.sip_text.specs.declared.cuts.Quoting.{Quoting}
use Rattle.sip_text.specs.declared.cuts.Quoting.TheVariants.{Outside, Inside}
use Rattle.sip_text.specs.Lists.{onto}
use Rattle.sip_text.specs.Splits.{in_front}
use Rattle.sip_text.specs.Cuts.{quoting_after, quote_end, is_mark, split_from, split_outside, parts_from, parts_at}
use Rattle.sip_text.proofs.QuoteEnds.{where_ended, where_open}

in_front-twice : (a b : List ℕ) (o : Option (List ℕ × List ℕ)) → in_front a (in_front b o) ≡ in_front (a ++ b) o
in_front-twice a b None = refl
in_front-twice a b (Some x) = ap (λ (w : List ℕ). Some (w, x.1)) (sym (append_assoc a b x.0))

in_front-nil : (o : Option (List ℕ × List ℕ)) → in_front [] o ≡ o
in_front-nil None = refl
in_front-nil (Some x) = refl

pub split_begins : (quoting : Quoting) (mark : ℕ) (bytes : List ℕ) → in_front [] (split_from quoting mark bytes) ≡ split_from quoting mark bytes
split_begins quoting mark bytes = in_front-nil (split_from quoting mark bytes)

pub split_ends : (quoting : Quoting) (mark : ℕ) (bytes : List ℕ) (i : ℕ) (total : Option (List ℕ × List ℕ)) → i < length bytes
    → is_mark quoting mark (get_or bytes i 0) ≡ true
    → in_front (take i bytes) (split_from quoting mark (drop i bytes)) ≡ total → Some (take i bytes, drop (i + 1) bytes) ≡ total
split_ends quoting mark bytes i total lt is so_far =
    let here : split_from quoting mark (drop i bytes) ≡ Some ([], drop (i + 1) bytes) = ap (split_from quoting mark) (drop_more bytes i 0 lt) ∙ rw is refl in
    ap (λ (w : List ℕ). Some (w, drop (i + 1) bytes)) (sym (append-nil (take i bytes))) ∙ sym (ap (in_front (take i bytes)) here) ∙ so_far

pub split_goes_on : (quoting : Quoting) (mark : ℕ) (bytes : List ℕ) (i : ℕ) (total : Option (List ℕ × List ℕ)) → i < length bytes
    → is_mark quoting mark (get_or bytes i 0) ≡ false
    → in_front (take i bytes) (split_from quoting mark (drop i bytes)) ≡ total → in_front (take (i + 1) bytes)
    (split_from (quoting_after quoting (get_or bytes i 0)) mark (drop (i + 1) bytes)) ≡ total
split_goes_on quoting mark bytes i total lt is so_far =
    let rest : Option (List ℕ × List ℕ) = split_from (quoting_after quoting (get_or bytes i 0)) mark (drop (i + 1) bytes) in
    let here : split_from quoting mark (drop i bytes) ≡ in_front (get_or bytes i 0 ∷ []) rest = ap (split_from quoting mark) (drop_more bytes i 0 lt) ∙ rw is refl in
    ap (λ (w : List ℕ). in_front w rest) (take_more bytes i 0 lt)
    ∙ sym (in_front-twice (take i bytes) (get_or bytes i 0 ∷ []) rest)
    ∙ sym (ap (in_front (take i bytes)) here) ∙ so_far

pub split_nowhere : (quoting : Quoting) (mark : ℕ) (bytes : List ℕ) (i : ℕ) (total : Option (List ℕ × List ℕ)) → length bytes ≤ i
    → in_front (take i bytes) (split_from quoting mark (drop i bytes)) ≡ total → None ≡ total
split_nowhere quoting mark bytes i total le so_far =
    sym (ap (λ (w : List ℕ). in_front (take i bytes) (split_from quoting mark w)) (drop_all i bytes le)) ∙ so_far

-- ---- quoted text as a whole

drop_none : (n : ℕ) → ◌≡◌ {A = List ℕ} (drop n []) []
drop_none zero = refl
drop_none (suc n) = refl

take_none : (n : ℕ) → ◌≡◌ {A = List ℕ} (take n []) []
take_none zero = refl
take_none (suc n) = refl

drop_twice : (i n : ℕ) (bytes : List ℕ) → drop n (drop i bytes) ≡ drop (i + n) bytes
drop_twice zero n bytes = let same : n ≡ 0 + n = omega arith in ap (λ (k : ℕ). drop k bytes) same
drop_twice (suc i) n [] = drop_none n ∙ sym (drop_none (suc i + n))
drop_twice (suc i) n (b ∷ bs) =
    let same : suc (i + n) ≡ suc i + n = omega arith in
    drop_twice i n bs ∙ ap (λ (k : ℕ). drop k (b ∷ bs)) same

take_twice : (i n : ℕ) (bytes : List ℕ) → take i bytes ++ take n (drop i bytes) ≡ take (i + n) bytes
take_twice zero n bytes = let same : n ≡ 0 + n = omega arith in ap (λ (k : ℕ). take k bytes) same
take_twice (suc i) n [] = take_none n ∙ sym (take_none (suc i + n))
take_twice (suc i) n (b ∷ bs) =
    let same : suc (i + n) ≡ suc i + n = omega arith in
    ap (λ (w : List ℕ). b ∷ w) (take_twice i n bs) ∙ ap (λ (k : ℕ). take k (b ∷ bs)) same

module _ (mark : ℕ) where
  abbrev IsPassedAt : List ℕ → ℕ → Type 0
  IsPassedAt bytes n = split_from Inside mark bytes ≡ in_front (take (suc n) bytes) (split_from Outside mark (drop (suc n) bytes))

  passed_plain : (b : ℕ) (bs : List ℕ) (n : ℕ) → (b == 34) ≡ false → (b == 92) ≡ false → IsPassedAt bs n → IsPassedAt (b ∷ bs) (suc n)
  passed_plain b bs n q p is =
      let one : split_from Inside mark (b ∷ bs) ≡ in_front (b ∷ []) (split_from Inside mark bs) = rw (q, p) refl in
      one ∙ ap (in_front (b ∷ [])) is ∙ in_front-twice (b ∷ []) (take (suc n) bs) (split_from Outside mark (drop (suc n) bs))

  passed_pair : (c : ℕ) (bs : List ℕ) (n : ℕ) → IsPassedAt bs n → IsPassedAt (92 ∷ c ∷ bs) (suc (suc n))
  passed_pair c bs n is =
      let two : split_from Inside mark (92 ∷ c ∷ bs) ≡ in_front (92 ∷ []) (in_front (c ∷ []) (split_from Inside mark bs)) = refl in
      two ∙ in_front-twice (92 ∷ []) (c ∷ []) (split_from Inside mark bs) ∙ ap (in_front (92 ∷ c ∷ [])) is
      ∙ in_front-twice (92 ∷ c ∷ []) (take (suc n) bs) (split_from Outside mark (drop (suc n) bs))

  passed_at : (bytes : List ℕ) (n : ℕ) → quote_end Inside bytes ≡ Some n
      → split_from Inside mark bytes ≡ in_front (take (suc n) bytes) (split_from Outside mark (drop (suc n) bytes))
  passed_at bytes n e = where_ended IsPassedAt (λ bs. refl) passed_plain passed_pair bytes n e

  open_plain : (b : ℕ) (bs : List ℕ) → (b == 34) ≡ false → (b == 92) ≡ false → split_from Inside mark bs ≡ None → split_from Inside mark (b ∷ bs) ≡ None
  open_plain b bs q p is =
      let one : split_from Inside mark (b ∷ bs) ≡ in_front (b ∷ []) (split_from Inside mark bs) = rw (q, p) refl in
      one ∙ ap (in_front (b ∷ [])) is

  open_at : (bytes : List ℕ) → quote_end Inside bytes ≡ None → split_from Inside mark bytes ≡ None
  open_at bytes e = where_open (λ bs. split_from Inside mark bs ≡ None) refl refl open_plain
      (λ c bs is. ap (λ (o : Option (List ℕ × List ℕ)). in_front (92 ∷ []) (in_front (c ∷ []) o)) is) bytes e

-- the front up to a quote, and what follows it
at_quote : (mark : ℕ) (bytes : List ℕ) (i : ℕ) → i < length bytes → (get_or bytes i 0 == mark) ≡ false → (get_or bytes i 0 == 34) ≡ true
    → in_front (take i bytes) (split_from Outside mark (drop i bytes)) ≡ in_front (take (i + 1) bytes) (split_from Inside mark (drop (i + 1) bytes))
at_quote mark bytes i lt other is =
    let here : split_from Outside mark (drop i bytes) ≡ in_front (get_or bytes i 0 ∷ []) (split_from Inside mark (drop (i + 1) bytes)) =
    ap (split_from Outside mark) (drop_more bytes i 0 lt) ∙ rw (other, is) refl in
    ap (in_front (take i bytes)) here
    ∙ in_front-twice (take i bytes) (get_or bytes i 0 ∷ []) (split_from Inside mark (drop (i + 1) bytes))
    ∙ ap (λ (w : List ℕ). in_front w (split_from Inside mark (drop (i + 1) bytes))) (sym (take_more bytes i 0 lt))

pub quote_passed : (mark : ℕ) (bytes : List ℕ) (i n : ℕ) (total : Option (List ℕ × List ℕ)) → i < length bytes → (get_or bytes i 0 == mark) ≡ false
    → (get_or bytes i 0 == 34) ≡ true → Some n ≡ quote_end Inside (drop (i + 1) bytes)
    → in_front (take i bytes) (split_from Outside mark (drop i bytes)) ≡ total
    → in_front (take (i + (n + 2)) bytes) (split_from Outside mark (drop (i + (n + 2)) bytes)) ≡ total
quote_passed mark bytes i n total lt other is e so_far =
    let sum : (i + 1) + suc n ≡ i + (n + 2) = omega arith in
    let behind : drop (suc n) (drop (i + 1) bytes) ≡ drop (i + (n + 2)) bytes = drop_twice (i + 1) (suc n) bytes ∙ ap (λ (k : ℕ). drop k bytes) sum in
    let front : take (i + 1) bytes ++ take (suc n) (drop (i + 1) bytes) ≡ take (i + (n + 2)) bytes =
    take_twice (i + 1) (suc n) bytes ∙ ap (λ (k : ℕ). take k bytes) sum in
    let rest : Option (List ℕ × List ℕ) = split_from Outside mark (drop (suc n) (drop (i + 1) bytes)) in
    sym (ap (λ (w : List ℕ). in_front (take (i + 1) bytes ++ take (suc n) (drop (i + 1) bytes)) (split_from Outside mark w)) behind
    ∙ ap (λ (w : List ℕ). in_front w (split_from Outside mark (drop (i + (n + 2)) bytes))) front)
    ∙ sym (in_front-twice (take (i + 1) bytes) (take (suc n) (drop (i + 1) bytes)) rest)
    ∙ ap (in_front (take (i + 1) bytes)) (sym (passed_at mark (drop (i + 1) bytes) n (sym e)))
    ∙ sym (at_quote mark bytes i lt other is) ∙ so_far

pub quote_open : (mark : ℕ) (bytes : List ℕ) (i : ℕ) (total : Option (List ℕ × List ℕ)) → i < length bytes → (get_or bytes i 0 == mark) ≡ false
    → (get_or bytes i 0 == 34) ≡ true → None ≡ quote_end Inside (drop (i + 1) bytes)
    → in_front (take i bytes) (split_from Outside mark (drop i bytes)) ≡ total → None ≡ total
quote_open mark bytes i total lt other is e so_far =
    sym (ap (in_front (take (i + 1) bytes)) (open_at mark (drop (i + 1) bytes) (sym e))) ∙ sym (at_quote mark bytes i lt other is) ∙ so_far

-- ---- the first of the parts

-- the parts of a text that was split, or the text as one part
abbrev parts_by : ℕ → List ℕ → Option (List ℕ × List ℕ) → List (List ℕ)
parts_by mark text None = text ∷ []
parts_by mark text (Some x) = x.0 ∷ parts_at mark x.1

by_front : (mark b : ℕ) (bs : List ℕ) (o : Option (List ℕ × List ℕ)) → onto (b ∷ []) (parts_by mark bs o) ≡ parts_by mark (b ∷ bs) (in_front (b ∷ []) o)
by_front mark b bs None = refl
by_front mark b bs (Some x) = refl

by_test : (quoting : Quoting) (mark b : ℕ) (bs : List ℕ) (t : Bool) → is_mark quoting mark b ≡ t
    → parts_from (quoting_after quoting b) mark bs ≡ parts_by mark bs (split_from (quoting_after quoting b) mark bs)
    → parts_from quoting mark (b ∷ bs) ≡ parts_by mark (b ∷ bs) (split_from quoting mark (b ∷ bs))
by_test quoting mark b bs true is rest = rw is refl
by_test quoting mark b bs false is rest = rw is (ap (onto (b ∷ [])) rest ∙ by_front mark b bs (split_from (quoting_after quoting b) mark bs))

parts_are : (quoting : Quoting) (mark : ℕ) (bytes : List ℕ) → parts_from quoting mark bytes ≡ parts_by mark bytes (split_from quoting mark bytes)
parts_are quoting mark [] = refl
parts_are quoting mark (b ∷ bs) = by_test quoting mark b bs (is_mark quoting mark b) refl (parts_are (quoting_after quoting b) mark bs)

pub parts_split : (mark : ℕ) (bytes front rest : List ℕ) → Some (front, rest) ≡ split_outside mark bytes → parts_at mark bytes ≡ front ∷ parts_at mark rest
parts_split mark bytes front rest e = parts_are Outside mark bytes ∙ ap (parts_by mark bytes) (sym e)

pub one_part : (mark : ℕ) (bytes : List ℕ) → None ≡ split_outside mark bytes → parts_at mark bytes ≡ bytes ∷ []
one_part mark bytes e = parts_are Outside mark bytes ∙ ap (parts_by mark bytes) (sym e)

-- ---- what follows is shorter

abbrev rest_of : Option (List ℕ × List ℕ) → List ℕ
rest_of None = []
rest_of (Some x) = x.1

shorter_front : (b : ℕ) (bs front rest : List ℕ) (o : Option (List ℕ × List ℕ)) → Some (front, rest) ≡ in_front (b ∷ []) o
    → ((front rest : List ℕ) → Some (front, rest) ≡ o → length rest < length bs) → length rest < length (b ∷ bs)
shorter_front b bs front rest None e less = absurd cc
shorter_front b bs front rest (Some x) e less =
    let same : rest ≡ x.1 = ap rest_of e in
    omega (arith, less x.0 x.1 refl, ap length same)

shorter_test : (quoting : Quoting) (mark b : ℕ) (bs front rest : List ℕ) (t : Bool) → is_mark quoting mark b ≡ t → Some (front, rest) ≡ split_from quoting mark (b ∷ bs)
    → ((front rest : List ℕ) → Some (front, rest) ≡ split_from (quoting_after quoting b) mark bs → length rest < length bs) → length rest < length (b ∷ bs)
shorter_test quoting mark b bs front rest true is e less =
    let here : split_from quoting mark (b ∷ bs) ≡ Some ([], bs) = rw is refl in
    let same : rest ≡ bs = ap rest_of (e ∙ here) in
    omega (arith, ap length same)
shorter_test quoting mark b bs front rest false is e less =
    let here : split_from quoting mark (b ∷ bs) ≡ in_front (b ∷ []) (split_from (quoting_after quoting b) mark bs) = rw is refl in
    shorter_front b bs front rest (split_from (quoting_after quoting b) mark bs) (e ∙ here) less

shorter_from : (quoting : Quoting) (mark : ℕ) (bytes front rest : List ℕ) → Some (front, rest) ≡ split_from quoting mark bytes → length rest < length bytes
shorter_from quoting mark [] front rest e = absurd cc
shorter_from quoting mark (b ∷ bs) front rest e = shorter_test quoting mark b bs front rest (is_mark quoting mark b) refl e
    (λ f r h. shorter_from (quoting_after quoting b) mark bs f r h)

pub is_shorter : (mark : ℕ) (bytes front rest : List ℕ) → Some (front, rest) ≡ split_outside mark bytes → length rest < length bytes
is_shorter mark bytes front rest e = shorter_from Outside mark bytes front rest e
