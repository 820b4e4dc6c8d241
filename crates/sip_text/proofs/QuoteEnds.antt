-- Where quoted text ends, and what that says of texts that are cut outside it.
use Rattle.std.proofs.Common.{◌≡◌, ℕ, zero, suc, ◌+◌, ◌-◌, ◌<◌, ◌≤◌, Bool, true, false, cond, List, [], ◌∷◌, ◌++◌, length, take, drop, get_or, Option, Some, None}
use Rattle.std.proofs.Common.{refl, sym, ap, subst, ◌∙◌, arith, eqb-true}
use Rattle.std.specs.Prelude.{◌==◌, ◌||◌, option_map, is_some}
use Rattle.std.proofs.lemmas.List.{drop_more, drop_all, length-drop, take-append-drop}
use Rattle.memchr.specs.Find.{NoneBefore, Nowhere, Passes, is_byte2}
use Rattle.sip_text.specs.declared.cuts.Quoting.TheVariants.{Outside, Inside, Escaped}
use Rattle.sip_text.specs.Cuts.{quote_end}
use Rattle.sip_text.specs.Escapes.{inside_quotes, unquoted, with_front}
use Rattle.sip_text.proofs.Escaping.{some_behind}

-- ---- what is said of quoted text that ends, byte by byte and pair by pair

module _ (P : List ℕ → ℕ → Type 0) (finish : (bs : List ℕ) → P (34 ∷ bs) 0)
    (plain : (b : ℕ) (bs : List ℕ) (n : ℕ) → (b == 34) ≡ false → (b == 92) ≡ false → P bs n → P (b ∷ bs) (suc n))
    (pair : (c : ℕ) (bs : List ℕ) (n : ℕ) → P bs n → P (92 ∷ c ∷ bs) (suc (suc n))) where
  at_end : (b : ℕ) (bs : List ℕ) (n : ℕ) → (b == 34) ≡ true → Some 0 ≡ Some n → P (b ∷ bs) n
  at_end b bs n q e =
      let none : 0 ≡ n = cc in
      subst (λ (x : ℕ). P (x ∷ bs) n) (sym (eqb-true b 34 q)) (subst (λ (k : ℕ). P (34 ∷ bs) k) none (finish bs))

  by_plain : (b : ℕ) (bs : List ℕ) (n : ℕ) (o : Option ℕ) → (b == 34) ≡ false → (b == 92) ≡ false → quote_end Inside bs ≡ o → option_map (λ k. suc k) o ≡ Some n
      → ((m : ℕ) → quote_end Inside bs ≡ Some m → P bs m) → P (b ∷ bs) n
  by_plain b bs n None q p is e more = absurd cc
  by_plain b bs n (Some m) q p is e more =
      let same : suc m ≡ n = cc in
      subst (λ (k : ℕ). P (b ∷ bs) k) same (plain b bs m q p (more m is))

  by_pair : (b c : ℕ) (bs : List ℕ) (n : ℕ) (o : Option ℕ) → (b == 92) ≡ true → quote_end Inside bs ≡ o
      → option_map (λ k. suc k) (option_map (λ k. suc k) o) ≡ Some n
      → ((m : ℕ) → quote_end Inside bs ≡ Some m → P bs m) → P (b ∷ c ∷ bs) n
  by_pair b c bs n None p is e more = absurd cc
  by_pair b c bs n (Some m) p is e more =
      let same : suc (suc m) ≡ n = cc in
      subst (λ (x : ℕ). P (x ∷ c ∷ bs) n) (sym (eqb-true b 92 p)) (subst (λ (k : ℕ). P (92 ∷ c ∷ bs) k) same (pair c bs m (more m is)))

  by_last : (b n : ℕ) (quote : Bool) → (b == 34) ≡ quote → cond {A = Option ℕ} quote (Some 0) None ≡ Some n → P (b ∷ []) n
  by_last b n true q e = at_end b [] n q e
  by_last b n false q e = absurd cc

  by_two : (b c : ℕ) (bs : List ℕ) (n : ℕ) (quote slash : Bool) → (b == 34) ≡ quote → (b == 92) ≡ slash
      → cond {A = Option ℕ} quote (Some 0) (option_map (λ k. suc k) (quote_end (cond quote Outside (cond slash Escaped Inside)) (c ∷ bs))) ≡ Some n
      → ((m : ℕ) → quote_end Inside (c ∷ bs) ≡ Some m → P (c ∷ bs) m) → ((m : ℕ) → quote_end Inside bs ≡ Some m → P bs m) → P (b ∷ c ∷ bs) n
  by_two b c bs n true slash q p e more behind = at_end b (c ∷ bs) n q e
  by_two b c bs n false true q p e more behind = by_pair b c bs n (quote_end Inside bs) p refl e behind
  by_two b c bs n false false q p e more behind = by_plain b (c ∷ bs) n (quote_end Inside (c ∷ bs)) q p refl e more

  pub where_ended : (bytes : List ℕ) (n : ℕ) → quote_end Inside bytes ≡ Some n → P bytes n
  where_ended [] n e = absurd cc
  where_ended (b ∷ []) n e = by_last b n (b == 34) refl e
  where_ended (b ∷ c ∷ bs) n e = by_two b c bs n (b == 34) (b == 92) refl refl e (λ m h. where_ended (c ∷ bs) m h) (λ m h. where_ended bs m h)

-- the same of a text in which none ends
module _ (P : List ℕ → Type 0) (nothing : P []) (slash : P (92 ∷ []))
    (plain : (b : ℕ) (bs : List ℕ) → (b == 34) ≡ false → (b == 92) ≡ false → P bs → P (b ∷ bs))
    (pair : (c : ℕ) (bs : List ℕ) → P bs → P (92 ∷ c ∷ bs)) where
  open_last : (b : ℕ) (quote back : Bool) → (b == 34) ≡ quote → (b == 92) ≡ back → cond {A = Option ℕ} quote (Some 0) None ≡ None → P (b ∷ [])
  open_last b true back q p e = absurd cc
  open_last b false true q p e = subst (λ (x : ℕ). P (x ∷ [])) (sym (eqb-true b 92 p)) slash
  open_last b false false q p e = plain b [] q p nothing

  none_next : (o : Option ℕ) → option_map (λ k. suc k) o ≡ None → o ≡ None
  none_next None e = refl
  none_next (Some n) e = absurd cc

  open_two : (b c : ℕ) (bs : List ℕ) (quote back : Bool) → (b == 34) ≡ quote → (b == 92) ≡ back
      → cond {A = Option ℕ} quote (Some 0) (option_map (λ k. suc k) (quote_end (cond quote Outside (cond back Escaped Inside)) (c ∷ bs))) ≡ None
      → (quote_end Inside (c ∷ bs) ≡ None → P (c ∷ bs)) → (quote_end Inside bs ≡ None → P bs) → P (b ∷ c ∷ bs)
  open_two b c bs true back q p e more behind = absurd cc
  open_two b c bs false true q p e more behind =
      subst (λ (x : ℕ). P (x ∷ c ∷ bs)) (sym (eqb-true b 92 p)) (pair c bs (behind (none_next (quote_end Inside bs)
      (none_next (option_map (λ k. suc k) (quote_end Inside bs)) e))))
  open_two b c bs false false q p e more behind = plain b (c ∷ bs) q p (more (none_next (quote_end Inside (c ∷ bs)) e))

  pub where_open : (bytes : List ℕ) → quote_end Inside bytes ≡ None → P bytes
  where_open [] e = nothing
  where_open (b ∷ []) e = open_last b (b == 34) (b == 92) refl refl e
  where_open (b ∷ c ∷ bs) e = open_two b c bs (b == 34) (b == 92) refl refl e (λ h. where_open (c ∷ bs) h) (λ h. where_open bs h)

-- ---- the search for it

abbrev after : ℕ → Option ℕ → Option ℕ
after k o = option_map (λ n. k + n) o

after_next : (k : ℕ) (o : Option ℕ) → option_map (λ n. suc n) (after k o) ≡ after (suc k) o
after_next k None = refl
after_next k (Some n) = let same : suc (k + n) ≡ suc k + n = omega arith in ap (λ (w : ℕ). Some w) same

after_twice : (j k : ℕ) (o : Option ℕ) → after j (after k o) ≡ after (j + k) o
after_twice j k None = refl
after_twice j k (Some n) = let same : j + (k + n) ≡ (j + k) + n = omega arith in ap (λ (w : ℕ). Some w) same

after_none : (k : ℕ) (o : Option ℕ) → k ≡ 0 → after k o ≡ o
after_none k None e = refl
after_none k (Some n) e = let same : k + n ≡ n = omega (arith, e) in ap (λ (w : ℕ). Some w) same

after_two : (o : Option ℕ) → option_map (λ n. suc n) (option_map (λ n. suc n) o) ≡ after 2 o
after_two None = refl
after_two (Some n) = let same : suc (suc n) ≡ 2 + n = omega arith in ap (λ (w : ℕ). Some w) same

no_stop : (b : ℕ) → (is_byte2 34 92 b ≡ true → ⊥) → ((b == 34) ≡ false) × ((b == 92) ≡ false)
no_stop b none = by_tests (b == 34) (b == 92) none
  where
    by_tests : (s t : Bool) → ((s || t) ≡ true → ⊥) → (s ≡ false) × (t ≡ false)
    by_tests true t h = absurd (h refl)
    by_tests false true h = absurd (h refl)
    by_tests false false h = (refl, refl)

is_slash : (b : ℕ) → is_byte2 34 92 b ≡ true → (b == 34) ≡ false → (b == 92) ≡ true
is_slash b is q = by_test (b == 92) (subst (λ (s : Bool). (s || (b == 92)) ≡ true) q is)
  where
    by_test : (t : Bool) → (false || t) ≡ true → t ≡ true
    by_test true h = refl
    by_test false h = absurd cc

one_on : (b : ℕ) (bs : List ℕ) → (is_byte2 34 92 b ≡ true → ⊥) → quote_end Inside (b ∷ bs) ≡ option_map (λ n. suc n) (quote_end Inside bs)
one_on b bs none = let t : ((b == 34) ≡ false) × ((b == 92) ≡ false) = no_stop b none in rw (t.0, t.1) refl

run_on : (k : ℕ) (bytes : List ℕ) → k ≤ length bytes → ((i : ℕ) → i < k → is_byte2 34 92 (get_or bytes i 0) ≡ true → ⊥)
    → quote_end Inside bytes ≡ after k (quote_end Inside (drop k bytes))
run_on zero bytes le none = sym (after_none 0 (quote_end Inside bytes) refl)
run_on (suc k) [] le none = absurd (omega arith)
run_on (suc k) (b ∷ bs) le none =
    one_on b bs (none 0 (omega arith)) ∙ ap (λ (o : Option ℕ). option_map (λ n. suc n) o) (run_on k bs (omega arith) (λ i lt. none (suc i) (omega arith)))
    ∙ after_next k (quote_end Inside (drop k bs))

abbrev IsStop : List ℕ → ℕ → Type 0
IsStop rest at = NoneBefore (Passes (is_byte2 34 92) rest) 0 (length rest) at × Passes (is_byte2 34 92) rest at

to_stop : (rest stop : List ℕ) (at : ℕ) → IsStop rest at → stop ≡ drop at rest → quote_end Inside rest ≡ after at (quote_end Inside stop)
to_stop rest stop at p is =
    run_on at rest (omega (arith, p.0.high)) (λ i lt. p.0.before i (omega arith) lt) ∙ ap (λ (w : List ℕ). after at (quote_end Inside w)) (sym is)

stop_byte : (rest stop : List ℕ) (at : ℕ) → at < length rest → stop ≡ drop at rest → get_or stop 0 0 ≡ get_or rest at 0
stop_byte rest stop at lt is = ap (λ (w : List ℕ). get_or w 0 0) (is ∙ drop_more rest at 0 lt)

here_ends : (stop : List ℕ) → 0 < length stop → (get_or stop 0 0 == 34) ≡ true → quote_end Inside stop ≡ Some 0
here_ends [] lt e = absurd (omega arith)
here_ends (b ∷ bs) lt e = let is : (b == 34) ≡ true = e in rw is refl

pair_ends : (stop : List ℕ) → 2 ≤ length stop → (get_or stop 0 0 == 34) ≡ false → (get_or stop 0 0 == 92) ≡ true
    → quote_end Inside stop ≡ after 2 (quote_end Inside (drop 2 stop))
pair_ends [] le q p = absurd (omega arith)
pair_ends (b ∷ []) le q p = absurd (omega arith)
pair_ends (b ∷ c ∷ bs) le q p =
    let other : (b == 34) ≡ false = q in
    let slash : (b == 92) ≡ true = p in
    rw (other, slash) (after_two (quote_end Inside bs))

alone_ends : (stop : List ℕ) → length stop < 2 → (get_or stop 0 0 == 34) ≡ false → quote_end Inside stop ≡ None
alone_ends [] lt q = refl
alone_ends (b ∷ []) lt q = let other : (b == 34) ≡ false = q in rw other refl
alone_ends (b ∷ c ∷ bs) lt q = absurd (omega arith)

pub begun : (inside : List ℕ) → after (length inside - length inside) (quote_end Inside inside) ≡ quote_end Inside inside
begun inside = let none : length inside - length inside ≡ 0 = omega arith in after_none (length inside - length inside) (quote_end Inside inside) none

pub ended : (inside rest stop : List ℕ) (at : ℕ) → length rest ≤ length inside → after (length inside - length rest) (quote_end Inside rest) ≡ quote_end Inside inside
    → NoneBefore (Passes (is_byte2 34 92) rest) 0 (length rest) at × Passes (is_byte2 34 92) rest at → stop ≡ drop at rest → (get_or stop 0 0 == 34) ≡ true
    → Some (length inside - length stop) ≡ quote_end Inside inside
ended inside rest stop at le so_far p is e =
    let size : length stop ≡ length rest - at = ap length is ∙ length-drop at rest in
    let lt : at < length rest = p.0.high in
    let here : quote_end Inside rest ≡ after at (Some 0) = to_stop rest stop at p is ∙ ap (after at) (here_ends stop (omega (arith, size, lt)) e) in
    let sum : length inside - length stop ≡ (length inside - length rest) + (at + 0) = omega (arith, size, lt, le) in
    ap (λ (w : ℕ). Some w) sum ∙ sym (ap (after (length inside - length rest)) here) ∙ so_far

pub pair_passed : (inside rest stop behind : List ℕ) (at : ℕ) → length rest ≤ length inside
    → after (length inside - length rest) (quote_end Inside rest) ≡ quote_end Inside inside
    → NoneBefore (Passes (is_byte2 34 92) rest) 0 (length rest) at × Passes (is_byte2 34 92) rest at → stop ≡ drop at rest → (get_or stop 0 0 == 34) ≡ false
    → 2 ≤ length stop → behind ≡ drop 2 stop
    → after (length inside - length behind) (quote_end Inside behind) ≡ quote_end Inside inside
pair_passed inside rest stop behind at le so_far p is q two next =
    let size : length stop ≡ length rest - at = ap length is ∙ length-drop at rest in
    let less : length behind ≡ length stop - 2 = ap length next ∙ length-drop 2 stop in
    let lt : at < length rest = p.0.high in
    let byte : get_or stop 0 0 ≡ get_or rest at 0 = stop_byte rest stop at lt is in
    let slash : (get_or stop 0 0 == 92) ≡ true = is_slash (get_or stop 0 0) (ap (λ (b : ℕ). is_byte2 34 92 b) byte ∙ p.1) q in
    let here : quote_end Inside rest ≡ after at (after 2 (quote_end Inside behind)) =
    to_stop rest stop at p is ∙ ap (after at) (pair_ends stop two q slash ∙ ap (λ (w : List ℕ). after 2 (quote_end Inside w)) (sym next)) in
    let sum : length inside - length behind ≡ (length inside - length rest) + (at + 2) = omega (arith, size, less, lt, le, two) in
    ap (λ (k : ℕ). after k (quote_end Inside behind)) sum
    ∙ sym (after_twice (length inside - length rest) (at + 2) (quote_end Inside behind))
    ∙ ap (after (length inside - length rest)) (sym (after_twice at 2 (quote_end Inside behind)))
    ∙ sym (ap (after (length inside - length rest)) here) ∙ so_far

pub pair_open : (inside rest stop : List ℕ) (at : ℕ) → after (length inside - length rest) (quote_end Inside rest) ≡ quote_end Inside inside
    → NoneBefore (Passes (is_byte2 34 92) rest) 0 (length rest) at × Passes (is_byte2 34 92) rest at → stop ≡ drop at rest → (get_or stop 0 0 == 34) ≡ false
    → length stop < 2 → None ≡ quote_end Inside inside
pair_open inside rest stop at so_far p is q short =
    let here : quote_end Inside rest ≡ None = to_stop rest stop at p is ∙ ap (after at) (alone_ends stop short q) in
    sym (ap (after (length inside - length rest)) here) ∙ so_far

pub never_ended : (inside rest : List ℕ) → after (length inside - length rest) (quote_end Inside rest) ≡ quote_end Inside inside
    → Nowhere (Passes (is_byte2 34 92) rest) 0 (length rest) → None ≡ quote_end Inside inside
never_ended inside rest so_far none =
    let all : quote_end Inside rest ≡ after (length rest) (quote_end Inside (drop (length rest) rest)) =
    run_on (length rest) rest (omega arith) (λ i lt. none i (omega arith) lt) in
    let here : quote_end Inside rest ≡ None =
    all ∙ ap (λ (w : List ℕ). after (length rest) (quote_end Inside w)) (drop_all (length rest) rest (omega arith)) in
    sym (ap (after (length inside - length rest)) here) ∙ so_far

-- ---- quoted text as a whole

plain_inside : (b : ℕ) (rest : List ℕ) → (b == 34) ≡ false → (b == 92) ≡ false → inside_quotes (b ∷ rest) ≡ with_front (b ∷ []) (inside_quotes rest)
plain_inside b [] q p = rw q refl
plain_inside b (c ∷ rest) q p = rw (q, p) refl

abbrev IsWholeAt : List ℕ → ℕ → Type 0
IsWholeAt bytes n = (suc n ≡ length bytes → is_some (inside_quotes bytes) ≡ true) × ((suc n ≡ length bytes → ⊥) → is_some (inside_quotes bytes) ≡ false)

whole_ended : (bs : List ℕ) → IsWholeAt (34 ∷ bs) 0
whole_ended [] = (λ e. refl, λ other. absurd (other refl))
whole_ended (b ∷ bs) = (λ e. absurd (omega (arith, e)), λ other. refl)

whole_plain : (b : ℕ) (bs : List ℕ) (n : ℕ) → (b == 34) ≡ false → (b == 92) ≡ false → IsWholeAt bs n → IsWholeAt (b ∷ bs) (suc n)
whole_plain b bs n q p is =
    let same : is_some (inside_quotes (b ∷ bs)) ≡ is_some (inside_quotes bs) =
    ap (λ (o : Option (List ℕ)). is_some o) (plain_inside b bs q p) ∙ some_behind (b ∷ []) (inside_quotes bs) in
    (λ e. same ∙ is.0 (omega (arith, e)), λ other. same ∙ is.1 (λ e. other (omega (arith, e))))

whole_pair : (c : ℕ) (bs : List ℕ) (n : ℕ) → IsWholeAt bs n → IsWholeAt (92 ∷ c ∷ bs) (suc (suc n))
whole_pair c bs n is =
    let same : is_some (inside_quotes (92 ∷ c ∷ bs)) ≡ is_some (inside_quotes bs) = some_behind (c ∷ []) (inside_quotes bs) in
    (λ e. same ∙ is.0 (omega (arith, e)), λ other. same ∙ is.1 (λ e. other (omega (arith, e))))

whole_at : (bytes : List ℕ) (n : ℕ) → quote_end Inside bytes ≡ Some n → IsWholeAt bytes n
whole_at bytes n e = where_ended IsWholeAt whole_ended whole_plain whole_pair bytes n e

open_inside : (bytes : List ℕ) → quote_end Inside bytes ≡ None → is_some (inside_quotes bytes) ≡ false
open_inside bytes e = where_open (λ bs. is_some (inside_quotes bs) ≡ false) refl refl
    (λ b bs q p is. ap (λ (o : Option (List ℕ)). is_some o) (plain_inside b bs q p) ∙ some_behind (b ∷ []) (inside_quotes bs) ∙ is)
    (λ c bs is. some_behind (c ∷ []) (inside_quotes bs) ∙ is) bytes e

same_number : (n : ℕ) → (n == n) ≡ true
same_number n = grind arith

whole_by : (end size : ℕ) (whole : Bool) (t : Bool) → (end + 1 == size) ≡ t → (suc end ≡ size → whole ≡ true) → ((suc end ≡ size → ⊥) → whole ≡ false) → t ≡ whole
whole_by end size whole true e is other =
    let same : end + 1 ≡ size = eqb-true (end + 1) size e in
    sym (is (omega (arith, same)))
whole_by end size whole false e is other = sym (other (λ same. clash same))
  where
    clash : suc end ≡ size → ⊥
    clash same =
        let size_is : size ≡ end + 1 = omega (arith, same) in
        let equal : (end + 1 == size) ≡ true = ap (λ (k : ℕ). end + 1 == k) size_is ∙ same_number (end + 1) in
        absurd cc

pub is_whole : (text inside : List ℕ) (end : ℕ) → text ≡ 34 ∷ inside → Some end ≡ quote_end Inside inside
    → (end + 1 == length inside) ≡ is_some (unquoted text)
is_whole text inside end is e =
    let whole : IsWholeAt inside end = whole_at inside end (sym e) in
    whole_by end (length inside) (is_some (inside_quotes inside)) (end + 1 == length inside) refl whole.0 whole.1 ∙ ap (λ (w : List ℕ). is_some (unquoted w)) (sym is)

pub is_open : (text inside : List ℕ) → text ≡ 34 ∷ inside → None ≡ quote_end Inside inside → false ≡ is_some (unquoted text)
is_open text inside is e = sym (open_inside inside (sym e)) ∙ ap (λ (w : List ℕ). is_some (unquoted w)) (sym is)

-- ---- the quoted text at the front of a text

abbrev IsFrontAt : List ℕ → ℕ → Type 0
IsFrontAt bytes n = is_some (inside_quotes (take (suc n) bytes)) ≡ true

front_at : (bytes : List ℕ) (n : ℕ) → quote_end Inside bytes ≡ Some n → is_some (inside_quotes (take (suc n) bytes)) ≡ true
front_at bytes n e = where_ended IsFrontAt (λ bs. refl)
    (λ b bs n q p is. ap (λ (o : Option (List ℕ)). is_some o) (plain_inside b (take (suc n) bs) q p) ∙ some_behind (b ∷ []) (inside_quotes (take (suc n) bs)) ∙ is)
    (λ c bs n is. some_behind (c ∷ []) (inside_quotes (take (suc n) bs)) ∙ is) bytes n e

pub quoted_whole : (text front rest : List ℕ) (end : ℕ) → front ≡ take (end + 2) text → rest ≡ drop (end + 2) text → text ≡ front ++ rest
quoted_whole text front rest end front_is rest_is = rw (front_is, rest_is) (sym (take-append-drop (end + 2) text))

pub front_quoted : (text inside front : List ℕ) (end : ℕ) → text ≡ 34 ∷ inside → Some end ≡ quote_end Inside inside → front ≡ take (end + 2) text
    → is_some (unquoted front) ≡ true
front_quoted text inside front end is e front_is =
    let next : end + 2 ≡ suc (suc end) = omega arith in
    let shape : front ≡ 34 ∷ take (suc end) inside = front_is ∙ ap (λ (n : ℕ). take n text) next ∙ ap (λ (w : List ℕ). take (suc (suc end)) w) is in
    ap (λ (w : List ℕ). is_some (unquoted w)) shape ∙ front_at inside end (sym e)
