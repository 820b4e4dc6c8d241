-- Those that a step may change, by their places.
use Rattle.std.proofs.Common.{◌≡◌, ℕ, zero, suc, ◌+◌, ◌<◌, ◌≤◌, Bool, true, false, cond, List, [], ◌∷◌, ◌++◌, length, map, filter, take, drop, refl, sym, ◌∙◌, ap, ap₂, arith, slice_set, slice_index_or, append-nil}
use Rattle.std.proofs.lemmas.List.Elements.{filter-append}
use Rattle.sip_text.specs.Items.{written}
use Rattle.sip_days.specs.Changing.{places_from, with_one, with_each, holds_at}

-- ---- places behind one more

shifted_by : {X : Type 0} (p : X → Bool) (n : ℕ) (xs : List X) (is : Bool) → places_from p (suc (suc n)) xs ≡ map suc (places_from p (suc n) xs)
    → cond is (suc n ∷ places_from p (suc (suc n)) xs) (places_from p (suc (suc n)) xs) ≡ map suc (cond is (n ∷ places_from p (suc n) xs) (places_from p (suc n) xs))
shifted_by p n xs true h = ap (λ (ns : List ℕ). suc n ∷ ns) h
shifted_by p n xs false h = h

shifted : {X : Type 0} (p : X → Bool) (n : ℕ) (xs : List X) → places_from p (suc n) xs ≡ map suc (places_from p n xs)
shifted p n [] = refl
shifted p n (x ∷ xs) = shifted_by p n xs (p x) (shifted p (suc n) xs)

-- ---- each that is open

behind : {X : Type 0} (f : X → X) (ns : List ℕ) (x : X) (xs : List X) → with_each f (map suc ns) (x ∷ xs) ≡ x ∷ with_each f ns xs
behind f [] x xs = refl
behind f (n ∷ ns) x xs = behind f ns x (with_one f n xs)

all_by : {X : Type 0} (f : X → X) (p : X → Bool) (x : X) (xs : List X) (is : Bool) → p x ≡ is → (p x ≡ false → f x ≡ x)
    → with_each f (places_from p zero xs) xs ≡ map f xs
    → with_each f (cond is (zero ∷ places_from p 1 xs) (places_from p 1 xs)) (x ∷ xs) ≡ f x ∷ map f xs
all_by f p x xs true e fixed h =
    ap (λ (ns : List ℕ). with_each f ns (f x ∷ xs)) (shifted p zero xs) ∙ behind f (places_from p zero xs) (f x) xs ∙ ap (λ ys. f x ∷ ys) h
all_by f p x xs false e fixed h =
    ap (λ (ns : List ℕ). with_each f ns (x ∷ xs)) (shifted p zero xs) ∙ behind f (places_from p zero xs) x xs ∙ ap (λ ys. x ∷ ys) h
    ∙ ap (λ y. y ∷ map f xs) (sym (fixed e))

-- what changes none but the open ones is done to all once it is done to these
pub each_is_all : {X : Type 0} (f : X → X) (p : X → Bool) → ((x : X) → p x ≡ false → f x ≡ x) → (xs : List X)
    → with_each f (places_from p zero xs) xs ≡ map f xs
each_is_all f p fixed [] = refl
each_is_all f p fixed (x ∷ xs) = all_by f p x xs (p x) refl (fixed x) (each_is_all f p fixed xs)

-- ---- which are open then

filter_by : {X : Type 0} (p : X → Bool) (y : X) (ys : List X) (ns : List ℕ) (n : ℕ) (is : Bool)
    → filter (holds_at p (y ∷ ys)) (map suc ns) ≡ map suc (filter (holds_at p ys) ns)
    → cond is (suc n ∷ filter (holds_at p (y ∷ ys)) (map suc ns)) (filter (holds_at p (y ∷ ys)) (map suc ns)) ≡ map suc (cond is (n ∷ filter (holds_at p ys) ns) (filter (holds_at p ys) ns))
filter_by p y ys ns n true h = ap (λ (l : List ℕ). suc n ∷ l) h
filter_by p y ys ns n false h = h

filter_behind : {X : Type 0} (p : X → Bool) (y : X) (ys : List X) (ns : List ℕ)
    → filter (holds_at p (y ∷ ys)) (map suc ns) ≡ map suc (filter (holds_at p ys) ns)
filter_behind p y ys [] = refl
filter_behind p y ys (n ∷ ns) = filter_by p y ys ns n (holds_at p ys n) (filter_behind p y ys ns)

kept_behind : {X : Type 0} (p : X → Bool) (y : X) (xs ys : List X) → filter (holds_at p ys) (places_from p zero xs) ≡ places_from p zero ys
    → filter (holds_at p (y ∷ ys)) (places_from p 1 xs) ≡ places_from p 1 ys
kept_behind p y xs ys h =
    ap (λ (ns : List ℕ). filter (holds_at p (y ∷ ys)) ns) (shifted p zero xs) ∙ filter_behind p y ys (places_from p zero xs) ∙ ap (map suc) h
    ∙ sym (shifted p zero ys)

kept_both : {X : Type 0} (p : X → Bool) (y : X) (xs ys : List X) (is : Bool) → filter (holds_at p (y ∷ ys)) (places_from p 1 xs) ≡ places_from p 1 ys
    → cond is (zero ∷ filter (holds_at p (y ∷ ys)) (places_from p 1 xs)) (filter (holds_at p (y ∷ ys)) (places_from p 1 xs)) ≡ cond is (zero ∷ places_from p 1 ys) (places_from p 1 ys)
kept_both p y xs ys true h = ap (λ (l : List ℕ). zero ∷ l) h
kept_both p y xs ys false h = h

kept_none : {X : Type 0} (p : X → Bool) (y : X) (xs ys : List X) (is : Bool) → is ≡ false → filter (holds_at p (y ∷ ys)) (places_from p 1 xs) ≡ places_from p 1 ys
    → filter (holds_at p (y ∷ ys)) (places_from p 1 xs) ≡ cond is (zero ∷ places_from p 1 ys) (places_from p 1 ys)
kept_none p y xs ys true e h = absurd cc
kept_none p y xs ys false e h = h

kept_by : {X : Type 0} (p : X → Bool) (x y : X) (xs ys : List X) (is : Bool) → (is ≡ false → p y ≡ false)
    → filter (holds_at p ys) (places_from p zero xs) ≡ places_from p zero ys
    → filter (holds_at p (y ∷ ys)) (cond is (zero ∷ places_from p 1 xs) (places_from p 1 xs)) ≡ places_from p zero (y ∷ ys)
kept_by p x y xs ys true closed h = kept_both p y xs ys (p y) (kept_behind p y xs ys h)
kept_by p x y xs ys false closed h = kept_none p y xs ys (p y) (closed refl) (kept_behind p y xs ys h)

-- of what changes none but the open ones, these are open afterwards: those that were and still are
pub still : {X : Type 0} (f : X → X) (p : X → Bool) → ((x : X) → p x ≡ false → f x ≡ x) → (xs : List X)
    → filter (holds_at p (map f xs)) (places_from p zero xs) ≡ places_from p zero (map f xs)
still f p fixed [] = refl
still f p fixed (x ∷ xs) =
    kept_by p x (f x) xs (map f xs) (p x) (λ e. ap p (fixed x e) ∙ e) (still f p fixed xs)

-- ---- one more

abbrev one_place : {X : Type 0} → (X → Bool) → X → ℕ → List ℕ
one_place p x n = cond (p x) (n ∷ []) []

more_by : {X : Type 0} (p : X → Bool) (xs : List X) (x y : X) (n : ℕ) (is : Bool)
    → places_from p (suc n) (xs ++ x ∷ []) ≡ places_from p (suc n) xs ++ one_place p x (suc n + length xs)
    → cond is (n ∷ places_from p (suc n) (xs ++ x ∷ [])) (places_from p (suc n) (xs ++ x ∷ [])) ≡ cond is (n ∷ places_from p (suc n) xs) (places_from p (suc n) xs) ++ one_place p x (suc n + length xs)
more_by p xs x y n true h = ap (λ (l : List ℕ). n ∷ l) h
more_by p xs x y n false h = h

one_more : {X : Type 0} (p : X → Bool) (xs : List X) (x : X) (n : ℕ) → places_from p n (xs ++ x ∷ []) ≡ places_from p n xs ++ one_place p x (n + length xs)
one_more p [] x n = let e : n + 0 ≡ n = omega arith in rw e refl
one_more p (y ∷ xs) x n =
    let e : n + suc (length xs) ≡ suc n + length xs = omega arith in
    rw e (more_by p xs x y n (p y) (one_more p xs x (suc n)))

opened_by : {X : Type 0} (p : X → Bool) (xs : List X) (x : X) (is : Bool) → p x ≡ is → places_from p zero (xs ++ x ∷ []) ≡ places_from p zero xs ++ cond is (length xs ∷ []) []
opened_by p xs x is e =
    let none : zero + length xs ≡ length xs = omega arith in
    one_more p xs x zero
    ∙ ap (λ (n : ℕ). places_from p zero xs ++ cond (p x) (n ∷ []) []) none
    ∙ ap (λ (b : Bool). places_from p zero xs ++ cond b (length xs ∷ []) []) e

-- one more comes last: its place is one of them where it has the property
pub placed : {X : Type 0} (p : X → Bool) (xs ys seen : List X) (x : X) (is : Bool) (ns made : List ℕ) → ns ≡ places_from p zero xs → seen ≡ xs → is ≡ p x
    → made ≡ ns ++ cond is (length seen ∷ []) [] → ys ≡ xs ++ x ∷ [] → made ≡ places_from p zero ys
placed {X} p xs ys seen x is ns made are same has keeps adds =
    keeps
    ∙ ap (λ (l : List ℕ). l ++ cond is (length seen ∷ []) []) are
    ∙ ap (λ (l : List X). places_from p zero xs ++ cond is (length l ∷ []) []) same
    ∙ sym (opened_by p xs x is (sym has))
    ∙ ap (places_from p zero) (sym adds)

-- ---- in a slice

set_one : {X : Type 0} (f : X → X) (xs : List X) (n : ℕ) (d : X) → n < length xs → slice_set xs n (f (slice_index_or xs n d)) ≡ with_one f n xs
set_one f [] n d lt = absurd (omega arith)
set_one f (x ∷ xs) zero d lt = refl
set_one f (x ∷ xs) (suc n) d lt = ap (λ ys. x ∷ ys) (set_one f xs n d (omega arith))

-- as a slice is written
pub set_as : {X : Type 0} (f : X → X) (xs : List X) (n : ℕ) (y d : X) → n < length xs → y ≡ f (slice_index_or xs n d) → slice_set xs n y ≡ with_one f n xs
set_as f xs n y d lt made = ap (slice_set xs n) made ∙ set_one f xs n d lt

pub set_none : {X : Type 0} (f : X → X) (xs : List X) (n : ℕ) → length xs ≤ n → xs ≡ with_one f n xs
set_none f [] n past = refl
set_none f (x ∷ xs) zero past = absurd (omega arith)
set_none f (x ∷ xs) (suc n) past = ap (λ ys. x ∷ ys) (set_none f xs n (omega arith))

pub at_place : {X : Type 0} (p : X → Bool) (xs : List X) (n : ℕ) (d : X) → n < length xs → p (slice_index_or xs n d) ≡ holds_at p xs n
at_place p [] n d lt = absurd (omega arith)
at_place p (x ∷ xs) zero d lt = refl
at_place p (x ∷ xs) (suc n) d lt = at_place p xs n d (omega arith)

pub at_none : {X : Type 0} (p : X → Bool) (xs : List X) (n : ℕ) → length xs ≤ n → false ≡ holds_at p xs n
at_none p [] n past = refl
at_none p (x ∷ xs) zero past = absurd (omega arith)
at_none p (x ∷ xs) (suc n) past = at_none p xs n (omega arith)

-- ---- loops over places

each_joined : {X : Type 0} (f : X → X) (ns : List ℕ) (n : ℕ) (xs : List X) → with_each f (ns ++ n ∷ []) xs ≡ with_one f n (with_each f ns xs)
each_joined f [] n xs = refl
each_joined f (k ∷ ns) n xs = each_joined f ns n (with_one f k xs)

-- one place more was gone to
pub each_next : {X : Type 0} (f : X → X) (front : List ℕ) (n : ℕ) (all : List ℕ) (xs was made : List X) → was ≡ with_each f front xs → made ≡ with_one f n was
    → all ≡ front ++ n ∷ [] → made ≡ with_each f all xs
each_next {X} f front n all xs was made so_far makes more =
    makes ∙ ap (λ (l : List X). with_one f n l) so_far ∙ sym (each_joined f front n xs) ∙ ap (λ (ns : List ℕ). with_each f ns xs) (sym more)

-- one place more was looked at
pub kept_next : (p : ℕ → Bool) (front : List ℕ) (n : ℕ) (all left made : List ℕ) → left ≡ filter p front → made ≡ left ++ filter p (n ∷ [])
    → all ≡ front ++ n ∷ [] → made ≡ filter p all
kept_next p front n all left made so_far adds more =
    adds ∙ ap (λ (l : List ℕ). l ++ filter p (n ∷ [])) so_far ∙ sym (filter-append p front (n ∷ [])) ∙ ap (filter p) (sym more)

-- ---- written back

length_one : {X : Type 0} (f : X → X) (n : ℕ) (xs : List X) → length (with_one f n xs) ≡ length xs
length_one f n [] = refl
length_one f zero (x ∷ xs) = refl
length_one f (suc n) (x ∷ xs) = ap suc (length_one f n xs)

length_each : {X : Type 0} (f : X → X) (ns : List ℕ) (xs : List X) → length (with_each f ns xs) ≡ length xs
length_each f [] xs = refl
length_each f (n ∷ ns) xs = length_each f ns (with_one f n xs) ∙ length_one f n xs

written_whole : {X : Type 0} (old new : List X) → length new ≡ length old → written old new ≡ new
written_whole [] [] h = refl
written_whole [] (x ∷ new) h = absurd (omega (arith, h))
written_whole (x ∷ old) [] h = absurd (omega (arith, h))
written_whole (x ∷ old) (y ∷ new) h = ap (λ l. y ∷ l) (written_whole old new (omega (arith, h)))

pub written_each : {X : Type 0} (f : X → X) (ns : List ℕ) (old new : List X) → new ≡ with_each f ns old → written old new ≡ with_each f ns old
written_each {X} f ns old new is = written_whole old new (ap (λ (l : List X). length l) is ∙ length_each f ns old) ∙ is
