-- What is trimmed stays so, also behind a space.
use Rattle.std.proofs.Common.{◌≡◌, ℕ, zero, suc, ◌-◌, Bool, true, false, List, [], ◌∷◌, ◌++◌, length, take, drop, refl, sym, ap, subst, ◌∙◌, append_assoc, arith}
use Rattle.std.proofs.Common.{length-append, inl, inr, ◌⊎◌}
use Rattle.std.specs.Prelude.{reverse, take_while}
use Rattle.std.specs.List.{AllByRecursion}
use Rattle.std.proofs.lemmas.List.{append-nil, reverse-append, length-reverse, take_at, drop_at}
use Rattle.std.proofs.lemmas.List.Sums.{take_while-cons}
use Rattle.sip_text.specs.Lists.{is_blank, trimmed, end_trimmed}

abbrev pub Blanks : List ℕ → Type 0
Blanks bs = AllByRecursion (λ b. is_blank b ≡ true) bs

abbrev pub ends_full : List ℕ → Type 0
ends_full [] = ⊥
ends_full (c ∷ []) = is_blank c ≡ false
ends_full (c ∷ d ∷ cs) = ends_full (d ∷ cs)

abbrev pub IsTight : List ℕ → Type 0
IsTight [] = Unit {0}
IsTight (c ∷ cs) = (is_blank c ≡ false) × ends_full (c ∷ cs)

blanks_push : (bs : List ℕ) (b : ℕ) → Blanks bs → is_blank b ≡ true → Blanks (bs ++ b ∷ [])
blanks_push [] b h e = (e, tt)
blanks_push (c ∷ bs) b h e = (h.0, blanks_push bs b h.1 e)

blanks_reverse : (bs : List ℕ) → Blanks bs → Blanks (reverse bs)
blanks_reverse [] h = tt
blanks_reverse (b ∷ bs) h = subst Blanks (sym (reverse-append (b ∷ []) bs)) (blanks_push (reverse bs) b (blanks_reverse bs h.1) h.0)

while_step : (b : ℕ) (bs : List ℕ) → is_blank b ≡ true → take_while is_blank (b ∷ bs) ≡ b ∷ take_while is_blank bs
while_step b bs e = take_while-cons is_blank b bs ∙ rw e refl

while_stop : (b : ℕ) (bs : List ℕ) → is_blank b ≡ false → take_while is_blank (b ∷ bs) ≡ []
while_stop b bs e = take_while-cons is_blank b bs ∙ rw e refl

while_blanks : (us : List ℕ) (c : ℕ) (cs : List ℕ) → Blanks us → is_blank c ≡ false → take_while is_blank (us ++ c ∷ cs) ≡ us
while_blanks [] c cs h e = while_stop c cs e
while_blanks (a ∷ us) c cs h e = while_step a (us ++ c ∷ cs) h.0 ∙ ap (λ (w : List ℕ). a ∷ w) (while_blanks us c cs h.1 e)

while_all : (us : List ℕ) → Blanks us → take_while is_blank us ≡ us
while_all [] h = refl
while_all (a ∷ us) h = while_step a us h.0 ∙ ap (λ (w : List ℕ). a ∷ w) (while_all us h.1)

-- the last of what ends with no blank
record Last (cs : List ℕ) : Type 0 where
  front : List ℕ
  last : ℕ
  whole : cs ≡ front ++ last ∷ []
  full : is_blank last ≡ false

last_of : (cs : List ℕ) → ends_full cs → Last cs
last_of [] h = absurd h
last_of (c ∷ []) h = record { front = []; last = c; whole = refl; full = h }
last_of (c ∷ d ∷ cs) h =
    let l : Last (d ∷ cs) = last_of (d ∷ cs) h in
    record { front = c ∷ l.front; last = l.last; whole = ap (λ (w : List ℕ). c ∷ w) l.whole; full = l.full }

behind_is : (xs cs bs : List ℕ) → ends_full cs → Blanks bs → take_while is_blank (reverse ((xs ++ cs) ++ bs)) ≡ reverse bs
behind_is xs cs bs full blanks =
    let l : Last cs = last_of cs full in
    let turned : reverse ((xs ++ cs) ++ bs) ≡ reverse bs ++ (l.last ∷ reverse (xs ++ l.front)) =
    reverse-append (xs ++ cs) bs ∙ ap (λ (w : List ℕ). reverse bs ++ w) (ap (λ (w : List ℕ). reverse (xs ++ w)) l.whole
    ∙ ap reverse (sym (append_assoc xs l.front (l.last ∷ []))) ∙ reverse-append (xs ++ l.front) (l.last ∷ [])) in
    ap (take_while is_blank) turned ∙ while_blanks (reverse bs) l.last (reverse (xs ++ l.front)) (blanks_reverse bs blanks) l.full

end_is : (xs cs bs : List ℕ) → ends_full cs → Blanks bs → take (length ((xs ++ cs) ++ bs) - length (take_while is_blank (reverse ((xs ++ cs) ++ bs)))) ((xs ++ cs) ++ bs)
    ≡ xs ++ cs
end_is xs cs bs full blanks =
    let n : length (take_while is_blank (reverse ((xs ++ cs) ++ bs))) ≡ length bs = ap length (behind_is xs cs bs full blanks) ∙ length-reverse bs in
    let k : length ((xs ++ cs) ++ bs) - length (take_while is_blank (reverse ((xs ++ cs) ++ bs))) ≡ length (xs ++ cs) = omega (arith, n, length-append (xs ++ cs) bs) in
    ap (λ (m : ℕ). take m ((xs ++ cs) ++ bs)) k ∙ take_at (xs ++ cs) bs (length (xs ++ cs)) refl

both_blank : (xs ys : List ℕ) → Blanks xs → Blanks ys → Blanks (xs ++ ys)
both_blank [] ys x y = y
both_blank (c ∷ xs) ys x y = (x.0, both_blank xs ys x.1 y)

drop_none : (n : ℕ) → drop {A = ℕ} n [] ≡ []
drop_none zero = refl
drop_none (suc n) = refl

pub all_blank : (xs : List ℕ) → Blanks xs → trimmed xs ≡ []
all_blank xs h =
    let n : length (take_while is_blank (reverse xs)) ≡ length xs = ap length (while_all (reverse xs) (blanks_reverse xs h)) ∙ length-reverse xs in
    let k : length xs - length (take_while is_blank (reverse xs)) ≡ 0 = omega (arith, n) in
    rw k (drop_none (length (take_while is_blank xs)))

pub trimmed_is : (us cs bs : List ℕ) → Blanks us → IsTight cs → Blanks bs → trimmed ((us ++ cs) ++ bs) ≡ cs
trimmed_is us [] bs a t b = all_blank ((us ++ []) ++ bs) (both_blank (us ++ []) bs (both_blank us [] a tt) b)
trimmed_is us (c ∷ cs) bs a t b =
    let f : length (take_while is_blank ((us ++ c ∷ cs) ++ bs)) ≡ length us = ap length
    (ap (take_while is_blank) (append_assoc us (c ∷ cs) bs) ∙ while_blanks us c (cs ++ bs) a t.0) in
    ap (drop (length (take_while is_blank ((us ++ c ∷ cs) ++ bs)))) (end_is us (c ∷ cs) bs t.1 b)
    ∙ ap (λ (n : ℕ). drop n (us ++ c ∷ cs)) f ∙ drop_at us (c ∷ cs) (length us) refl

-- blanks, what is tight, blanks
pub record IsSplit (bytes : List ℕ) : Type 0 where
  pub before : List ℕ
  pub core : List ℕ
  pub behind : List ℕ
  pub whole : bytes ≡ (before ++ core) ++ behind
  pub blanks_before : Blanks before
  pub tight : IsTight core
  pub blanks_behind : Blanks behind

-- nothing or what ends with no blank, and blanks
pub record IsBack (bytes : List ℕ) : Type 0 where
  pub core : List ℕ
  pub behind : List ℕ
  pub whole : bytes ≡ core ++ behind
  pub full : (core ≡ []) ⊎ ends_full core
  pub blanks : Blanks behind

back_step : (b : ℕ) (bytes core behind : List ℕ) → bytes ≡ core ++ behind → ends_full core → Blanks behind → IsBack (b ∷ bytes)
back_step b bytes [] behind e full h = absurd full
back_step b bytes (c ∷ core) behind e full h = record { core = b ∷ c ∷ core; behind = behind; whole = ap (λ (w : List ℕ). b ∷ w) e; full = inr full; blanks = h }

back_empty : (b : ℕ) (bytes behind : List ℕ) → bytes ≡ behind → Blanks behind → (t : Bool) → is_blank b ≡ t → IsBack (b ∷ bytes)
back_empty b bytes behind e h true is = record { core = []; behind = b ∷ behind; whole = ap (λ (w : List ℕ). b ∷ w) e; full = inl refl; blanks = (is, h) }
back_empty b bytes behind e h false is = record { core = b ∷ []; behind = behind; whole = ap (λ (w : List ℕ). b ∷ w) e; full = inr is; blanks = h }

pub back_of : (bytes : List ℕ) → IsBack bytes
back_of [] = record { core = []; behind = []; whole = refl; full = inl refl; blanks = tt }
back_of (b ∷ bytes) =
    let r : IsBack bytes = back_of bytes in
    elim r.full [
      | inl none ↦ back_empty b bytes r.behind (r.whole ∙ ap (λ (w : List ℕ). w ++ r.behind) none) r.blanks (is_blank b) refl
      | inr full ↦ back_step b bytes r.core r.behind r.whole full r.blanks
    ]

split_back : (bytes : List ℕ) (b : ℕ) → is_blank b ≡ false → IsBack bytes → IsSplit (b ∷ bytes)
split_back bytes b e r =
    elim r.full [
      | inl none ↦ record {
        before = [];
        core = b ∷ [];
        behind = r.behind;
        whole = ap (λ (w : List ℕ). b ∷ w) (r.whole ∙ ap (λ (w : List ℕ). w ++ r.behind) none);
        blanks_before = tt;
        tight = (e, e);
        blanks_behind = r.blanks;
      }
      | inr full ↦ record {
        before = [];
        core = b ∷ r.core;
        behind = r.behind;
        whole = ap (λ (w : List ℕ). b ∷ w) r.whole;
        blanks_before = tt;
        tight = (e, longer b r.core full);
        blanks_behind = r.blanks;
      }
    ]
  where
    longer : (b : ℕ) (cs : List ℕ) → ends_full cs → ends_full (b ∷ cs)
    longer b [] full = absurd full
    longer b (c ∷ cs) full = full

split_more : (bytes : List ℕ) (b : ℕ) (t : Bool) → is_blank b ≡ t → IsSplit bytes → IsSplit (b ∷ bytes)
split_more bytes b true e s = record {
  before = b ∷ s.before;
  core = s.core;
  behind = s.behind;
  whole = ap (λ (w : List ℕ). b ∷ w) s.whole;
  blanks_before = (e, s.blanks_before);
  tight = s.tight;
  blanks_behind = s.blanks_behind;
}
split_more bytes b false e s = split_back bytes b e (back_of bytes)

pub split_of : (bytes : List ℕ) → IsSplit bytes
split_of [] = record { before = []; core = []; behind = []; whole = refl; blanks_before = tt; tight = tt; blanks_behind = tt }
split_of (b ∷ bytes) = split_more bytes b (is_blank b) refl (split_of bytes)

pub core_is : (bytes : List ℕ) (s : IsSplit bytes) → trimmed bytes ≡ s.core
core_is bytes s = ap trimmed s.whole ∙ trimmed_is s.before s.core s.behind s.blanks_before s.tight s.blanks_behind

pub tight_of : (bytes : List ℕ) → IsTight (trimmed bytes)
tight_of bytes =
    let s : IsSplit bytes = split_of bytes in
    subst IsTight (sym (core_is bytes s)) s.tight

pub tight_again : (core : List ℕ) → IsTight core → trimmed core ≡ core
tight_again core t = ap trimmed (sym (append-nil core)) ∙ trimmed_is [] core [] tt t tt

pub tight_behind : (core : List ℕ) → IsTight core → trimmed (32 ∷ core) ≡ core
tight_behind core t = ap trimmed (ap (λ (w : List ℕ). 32 ∷ w) (sym (append-nil core))) ∙ trimmed_is (32 ∷ []) core [] (refl, tt) t tt

-- what ends with no blank loses none there
pub end_again : (bytes : List ℕ) → ends_full bytes → end_trimmed bytes ≡ bytes
end_again bytes full = ap end_trimmed (sym (append-nil bytes)) ∙ end_is [] bytes [] full tt

pub end_without : (bytes bs : List ℕ) → ends_full bytes → Blanks bs → end_trimmed (bytes ++ bs) ≡ bytes
end_without bytes bs full blanks = end_is [] bytes bs full blanks

-- what is left without the blanks at the end, and the blanks
pub record EndSplit (bytes : List ℕ) : Type 0 where
  pub blanks : List ℕ
  pub whole : bytes ≡ end_trimmed bytes ++ blanks
  pub are_blank : Blanks blanks

only_blanks : (bs : List ℕ) → Blanks bs → end_trimmed bs ≡ []
only_blanks bs h =
    let n : length (take_while is_blank (reverse bs)) ≡ length bs = ap length (while_all (reverse bs) (blanks_reverse bs h)) ∙ length-reverse bs in
    let k : length bs - length (take_while is_blank (reverse bs)) ≡ 0 = omega (arith, n) in
    rw k refl

pub end_split : (bytes : List ℕ) → EndSplit bytes
end_split bytes =
    let r : IsBack bytes = back_of bytes in
    elim r.full [
      | inl none ↦
          let e : bytes ≡ r.behind = r.whole ∙ ap (λ (w : List ℕ). w ++ r.behind) none in
          let nil : end_trimmed bytes ≡ [] = ap end_trimmed e ∙ only_blanks r.behind r.blanks in
          record { blanks = r.behind; whole = e ∙ ap (λ (w : List ℕ). w ++ r.behind) (sym nil); are_blank = r.blanks }
      | inr full ↦
          let front : end_trimmed bytes ≡ r.core = ap end_trimmed r.whole ∙ end_without r.core r.behind full r.blanks in
          record { blanks = r.behind; whole = r.whole ∙ ap (λ (w : List ℕ). w ++ r.behind) (sym front); are_blank = r.blanks }
    ]
