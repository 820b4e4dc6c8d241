-- Timers in the order in which they fire, by those of each moment.
use Rattle.std.proofs.Common.{◌≡◌, ◌≢◌, ℕ, ◌+◌, ◌<◌, List, [], ◌∷◌, ◌++◌, length, eqb, ltb, cond, Bool, true, false, refl, ap, sym, ◌∙◌, arith, get_or, drop}
use Rattle.std.specs.Prelude.{count_by}
use Rattle.std.proofs.lemmas.Bool.Decides.{nat_tests}
use Rattle.std.proofs.lemmas.List.{append-nil, append_assoc}
use Rattle.std.proofs.lemmas.List.Elements.{filter-append}
use Rattle.std.proofs.lemmas.List.Sums.{sum_by-cons}
use Rattle.sip_timers.specs.declared.timer.Timer.{Timer}
use Rattle.sip_timers.specs.Timers.{placed, due_before, AreOrdered}
use Rattle.sip_timers_wheel.specs.Order.{due_at, all_placed, in_order}

count-cons : {X : Type 0} (p : X → Bool) (x : X) (xs : List X) → count_by p (x ∷ xs) ≡ cond (p x) 1 0 + count_by p xs
count-cons p x xs = sum_by-cons (λ x. cond (p x) 1 0) x xs

-- ---- those of one moment

-- none is due at a moment before the first of them
pub due_at-none : (d e : ℕ) (ts : List Timer) → due_before e ts ≡ 0 → d < e → due_at d ts ≡ []
due_at-none d e [] h lt = refl
due_at-none d e (t ∷ ts) h lt =
    elim (eqb t.due d) as (λ b. (eqb t.due d ≡ b) → cond b (t ∷ due_at d ts) (due_at d ts) ≡ []) [
      | true ↦ (λ k. absurd (grind (arith, nat_tests, count-cons (λ x. ltb x.due e) t ts, k)))
      | false ↦ (λ k. due_at-none d e ts (grind (arith, count-cons (λ x. ltb x.due e) t ts)) lt)
    ] refl

pub due_at-same : (t : Timer) (ts : List Timer) → due_at t.due (t ∷ ts) ≡ t ∷ due_at t.due ts
due_at-same t ts =
    elim (eqb t.due t.due) as (λ b. (eqb t.due t.due ≡ b) → cond b (t ∷ due_at t.due ts) (due_at t.due ts) ≡ t ∷ due_at t.due ts) [
      | true ↦ (λ k. refl)
      | false ↦ (λ k. absurd (grind (arith, nat_tests, k)))
    ] refl

pub due_at-other : (d : ℕ) (t : Timer) (ts : List Timer) → d ≢ t.due → due_at d (t ∷ ts) ≡ due_at d ts
due_at-other d t ts h =
    elim (eqb t.due d) as (λ b. (eqb t.due d ≡ b) → cond b (t ∷ due_at d ts) (due_at d ts) ≡ due_at d ts) [
      | true ↦ (λ k. absurd (h (grind (arith, nat_tests, k))))
      | false ↦ (λ k. refl)
    ] refl

-- a timer that is set is the last of its moment
pub due_at-placed : (d : ℕ) (t : Timer) (ts : List Timer) → AreOrdered ts → due_at d (placed t ts) ≡ due_at d ts ++ due_at d (t ∷ [])
due_at-placed d t [] h = refl
due_at-placed d t (u ∷ us) h =
    elim (ltb t.due u.due) as (λ b. (ltb t.due u.due ≡ b) → due_at d (cond b (t ∷ u ∷ us) (u ∷ placed t us)) ≡ due_at d (u ∷ us) ++ due_at d (t ∷ [])) [
      | true ↦ (λ k. elim (eqb t.due d) as (λ b. (eqb t.due d ≡ b) → cond b (t ∷ due_at d (u ∷ us)) (due_at d (u ∷ us)) ≡ due_at d (u ∷ us) ++ cond b (t ∷ []) []) [
        | true ↦ (λ e. let none : due_at d (u ∷ us) ≡ [] = due_at-none d u.due (u ∷ us) (grind (arith, nat_tests, count-cons (λ x. ltb x.due u.due) u us, h.0))
            (grind (arith, nat_tests, k, e)) in rw none refl)
        | false ↦ (λ e. sym (append-nil (due_at d (u ∷ us))))
      ] refl)
      | false ↦ (λ k. elim (eqb u.due d) as (λ b. cond b (u ∷ due_at d (placed t us)) (due_at d (placed t us)) ≡ cond b (u ∷ due_at d us) (due_at d us)
          ++ due_at d (t ∷ [])) [
            | true ↦ ap (λ xs. u ∷ xs) (due_at-placed d t us h.1)
            | false ↦ due_at-placed d t us h.1
          ])
    ] refl

-- ---- ordered lists

before-no : (x : Timer) (xs : List Timer) (y : Timer) (ys : List Timer) → AreOrdered (y ∷ ys) → due_at x.due (x ∷ xs) ≡ due_at x.due (y ∷ ys) → x.due < y.due → ⊥
before-no x xs y ys hy h lt =
    let none : due_at x.due (y ∷ ys) ≡ [] = due_at-none x.due y.due (y ∷ ys) (grind (arith, nat_tests, count-cons (λ z. ltb z.due y.due) y ys, hy.0)) lt in
    let e : x ∷ due_at x.due xs ≡ [] = sym (due_at-same x xs) ∙ (h ∙ none) in
    let n : length (x ∷ due_at x.due xs) ≡ 0 = ap (λ l. length l) e in
    grind (arith, n)

due_at-tails : (d : ℕ) (x : Timer) (xs ys : List Timer) → due_at d (x ∷ xs) ≡ due_at d (x ∷ ys) → due_at d xs ≡ due_at d ys
due_at-tails d x xs ys =
    elim (eqb x.due d) as (λ b. cond b (x ∷ due_at d xs) (due_at d xs) ≡ cond b (x ∷ due_at d ys) (due_at d ys) → due_at d xs ≡ due_at d ys) [
      | true ↦ (λ e. ap (λ l. drop 1 l) e)
      | false ↦ (λ e. e)
    ]

same_heads : (x : Timer) (xs : List Timer) (y : Timer) (ys : List Timer) → AreOrdered (x ∷ xs) → AreOrdered (y ∷ ys) → ((d : ℕ) → due_at d (x ∷ xs) ≡ due_at d (y ∷ ys))
    → x ≡ y
same_heads x xs y ys hx hy h =
    let not_before : ¬ (x.due < y.due) = before-no x xs y ys hy (h x.due) in
    let not_behind : ¬ (y.due < x.due) = before-no y ys x xs hx (sym (h y.due)) in
    let e : x.due ≡ y.due = grind (arith, not_before, not_behind) in
    let same : x ∷ due_at x.due xs ≡ y ∷ due_at y.due ys = sym (due_at-same x xs) ∙ (h x.due ∙ (ap (λ d. due_at d (y ∷ ys)) e ∙ due_at-same y ys)) in
    ap (λ l. get_or l 0 x) same

-- two ordered lists that have the same timers of each moment are the same
pub same_by_dues : (xs ys : List Timer) → AreOrdered xs → AreOrdered ys → ((d : ℕ) → due_at d xs ≡ due_at d ys) → xs ≡ ys
same_by_dues [] [] hx hy h = refl
same_by_dues [] (y ∷ ys) hx hy h = absurd (grind (arith, ap (λ l. length l) (h y.due ∙ due_at-same y ys)))
same_by_dues (x ∷ xs) [] hx hy h = absurd (grind (arith, ap (λ l. length l) (sym (h x.due) ∙ due_at-same x xs)))
same_by_dues (x ∷ xs) (y ∷ ys) hx hy h =
    let head : x ≡ y = same_heads x xs y ys hx hy h in
    let tail : xs ≡ ys = same_by_dues xs ys hx.1 hy.1 (λ d. due_at-tails d x xs ys (h d ∙ sym (ap (λ z. due_at d (z ∷ ys)) head))) in
    ap (λ z. z ∷ xs) head ∙ ap (λ zs. y ∷ zs) tail

-- the first of an ordered list: the first one of the first moment at which one is due
pub head_by_dues : (xs : List Timer) (t : Timer) (ts : List Timer) → AreOrdered xs → ((d : ℕ) → d < t.due → due_at d xs ≡ []) → due_at t.due xs ≡ t ∷ ts
    → xs ≡ t ∷ drop 1 xs
head_by_dues [] t ts hx before at = absurd (grind (arith, ap (λ l. length l) at))
head_by_dues (x ∷ xs) t ts hx before at =
    let not_before : ¬ (x.due < t.due) = (λ lt. grind (arith, ap (λ l. length l) (sym (due_at-same x xs) ∙ before x.due lt))) in
    let not_behind : ¬ (t.due < x.due) = (λ lt. grind (
      arith,
      ap (λ l. length l) (sym at
          ∙ due_at-none t.due x.due (x ∷ xs) (grind (arith, nat_tests, count-cons (λ z. ltb z.due x.due) x xs, hx.0)) lt),
    )) in
    let e : x.due ≡ t.due = grind (arith, not_before, not_behind) in
    let same : x ∷ due_at x.due xs ≡ t ∷ ts = sym (due_at-same x xs) ∙ (ap (λ d. due_at d (x ∷ xs)) e ∙ at) in
    ap (λ z. z ∷ xs) (ap (λ l. get_or l 0 x) same)

-- ---- in order

-- a timer that is set stays in order, as sip_timers's law says
abbrev pub StaysOrdered : Type 0
StaysOrdered = (t : Timer) (ts : List Timer) → AreOrdered ts → AreOrdered (placed t ts)

-- a timer that is set stands among the others, as sip_timers's law says
abbrev pub StandsThen : Type 0
StandsThen = (p : Timer → Bool) (t : Timer) (ts : List Timer) → count_by p (placed t ts) ≡ count_by p ts + cond (p t) 1 0

due_at-all_placed : StaysOrdered → (d : ℕ) (standing ts : List Timer) → AreOrdered standing → due_at d (all_placed standing ts) ≡ due_at d standing ++ due_at d ts
due_at-all_placed set d standing [] h = sym (append-nil (due_at d standing))
due_at-all_placed set d standing (t ∷ ts) h =
    due_at-all_placed set d (placed t standing) ts (set t standing h)
    ∙ (ap (λ l. l ++ due_at d ts) (due_at-placed d t standing h)
    ∙ (append_assoc (due_at d standing) (due_at d (t ∷ [])) (due_at d ts)
    ∙ ap (λ l. due_at d standing ++ l) (sym (filter-append (λ u. eqb u.due d) (t ∷ []) ts))))

AreOrdered-all_placed : StaysOrdered → (standing ts : List Timer) → AreOrdered standing → AreOrdered (all_placed standing ts)
AreOrdered-all_placed set standing [] h = h
AreOrdered-all_placed set standing (t ∷ ts) h = AreOrdered-all_placed set (placed t standing) ts (set t standing h)

pub AreOrdered-in_order : StaysOrdered → (ts : List Timer) → AreOrdered (in_order ts)
AreOrdered-in_order set ts = AreOrdered-all_placed set [] ts tt

pub due_at-in_order : StaysOrdered → (d : ℕ) (ts : List Timer) → due_at d (in_order ts) ≡ due_at d ts
due_at-in_order set d ts = due_at-all_placed set d [] ts tt

count-all_placed : StandsThen → (p : Timer → Bool) (standing ts : List Timer) → count_by p (all_placed standing ts) ≡ count_by p standing + count_by p ts
count-all_placed stands p standing [] = grind (arith)
count-all_placed stands p standing (t ∷ ts) = grind (arith, count-all_placed stands p (placed t standing) ts, stands p t standing, count-cons p t ts)

pub count-in_order : StandsThen → (p : Timer → Bool) (ts : List Timer) → count_by p (in_order ts) ≡ count_by p ts
count-in_order stands p ts = omega (arith, count-all_placed stands p [] ts)
