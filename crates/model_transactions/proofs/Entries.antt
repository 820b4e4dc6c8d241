-- Timers without their keys: which are the same, and how many.
use Rattle.std.proofs.Common.{◌≡◌, ℕ, ◌+◌, ◌≤◌, List, [], ◌∷◌, ◌++◌, cond, Bool, true, false, refl, sym, ap, ◌∙◌, arith}
use Rattle.std.specs.Prelude.{◌&&◌, ◌||◌, ◌==◌, count_by, if◌then◌else◌}
use Rattle.std.specs.List.{AllByRecursion}
use Rattle.std.proofs.lemmas.Bool.Decides.{nat_tests}
use Rattle.std.proofs.lemmas.List.Sums.{sum_by-cons, sum_by-append}
use Rattle.sip_timers.specs.declared.letter.Letter.{Letter}
use Rattle.sip_timers.specs.declared.letter.Letter.TheVariants as By
use Rattle.sip_timers.specs.declared.timer.Name.{Name}
use Rattle.sip_timers.specs.declared.timer.Owner.{Owner}
use Rattle.sip_timers.specs.declared.timer.Owner.TheVariants as Of
use Rattle.model_transactions.specs.Queue.{Entry, same_owner, number_of, same_name, same_entry, has}

-- ---- which are the same

abbrev letter_at : ℕ → Letter
letter_at n =
    (if n == 1 then By.A else
    (if n == 2 then By.B else
    (if n == 3 then By.C else
    (if n == 4 then By.D else
    (if n == 5 then By.E else
    (if n == 6 then By.F else
    (if n == 7 then By.G else
    (if n == 8 then By.H else
    (if n == 9 then By.I else
    (if n == 10 then By.J else
    (if n == 11 then By.K else
    (if n == 12 then By.L else
    (if n == 13 then By.M else
    By.Cancelled)))))))))))))

its_letter : (l : Letter) → letter_at (number_of l) ≡ l
its_letter By.A = refl
its_letter By.B = refl
its_letter By.C = refl
its_letter By.D = refl
its_letter By.E = refl
its_letter By.F = refl
its_letter By.G = refl
its_letter By.H = refl
its_letter By.I = refl
its_letter By.J = refl
its_letter By.K = refl
its_letter By.L = refl
its_letter By.M = refl
its_letter By.Cancelled = refl

letter_is : (a b : Letter) → number_of a ≡ number_of b → a ≡ b
letter_is a b e = sym (its_letter a) ∙ ap letter_at e ∙ its_letter b

equal : (n m : ℕ) → (n == m) ≡ true → n ≡ m
equal n m e = grind (arith, nat_tests)

itself : (n : ℕ) → (n == n) ≡ true
itself n = grind (arith, nat_tests)

owner_is : (a b : Owner) → same_owner a b ≡ true → a ≡ b
owner_is Of.Server Of.Server e = refl
owner_is Of.Server (Of.Branch m) e = absurd (cc)
owner_is Of.Server (Of.Cancel m) e = absurd (cc)
owner_is (Of.Branch n) Of.Server e = absurd (cc)
owner_is (Of.Branch n) (Of.Branch m) e = ap (λ (k : ℕ). Of.Branch k) (equal n m e)
owner_is (Of.Branch n) (Of.Cancel m) e = absurd (cc)
owner_is (Of.Cancel n) Of.Server e = absurd (cc)
owner_is (Of.Cancel n) (Of.Branch m) e = absurd (cc)
owner_is (Of.Cancel n) (Of.Cancel m) e = ap (λ (k : ℕ). Of.Cancel k) (equal n m e)

owner_itself : (a : Owner) → same_owner a a ≡ true
owner_itself Of.Server = refl
owner_itself (Of.Branch n) = itself n
owner_itself (Of.Cancel n) = itself n

both-true : (a b : Bool) → (a && b) ≡ true → (a ≡ true) × (b ≡ true)
both-true true b e = (refl, e)
both-true false b e = absurd (cc)

true-both : (a b : Bool) → a ≡ true → b ≡ true → (a && b) ≡ true
true-both a b e f = ap (λ (x : Bool). x && b) e ∙ f

name_is : (a b : Name) → same_name a b ≡ true → a ≡ b
name_is a b e =
    let first = both-true (a.request == b.request) (same_owner a.owner b.owner && (number_of a.letter == number_of b.letter)) e in
    let rest = both-true (same_owner a.owner b.owner) (number_of a.letter == number_of b.letter) first.1 in
    ap (λ (n : ℕ). record { request = n; owner = a.owner; letter = a.letter }) (equal a.request b.request first.0)
    ∙ ap (λ (o : Owner). record { request = b.request; owner = o; letter = a.letter }) (owner_is a.owner b.owner rest.0)
    ∙ ap (λ (l : Letter). record { request = b.request; owner = b.owner; letter = l })
    (letter_is a.letter b.letter (equal (number_of a.letter) (number_of b.letter) rest.1))

name_itself : (a : Name) → same_name a a ≡ true
name_itself a =
    true-both (a.request == a.request) (same_owner a.owner a.owner && (number_of a.letter == number_of a.letter)) (itself a.request)
    (true-both (same_owner a.owner a.owner) (number_of a.letter == number_of a.letter) (owner_itself a.owner) (itself (number_of a.letter)))

pub entry_is : (a b : Entry) → same_entry a b ≡ true → a ≡ b
entry_is a b e =
    let parts = both-true (a.due == b.due) (same_name a.name b.name) e in
    ap (λ (n : ℕ). record { due = n; name = a.name }) (equal a.due b.due parts.0) ∙ ap (λ (m : Name). record { due = b.due; name = m }) (name_is a.name b.name parts.1)

pub entry_itself : (a : Entry) → same_entry a a ≡ true
entry_itself a = true-both (a.due == a.due) (same_name a.name a.name) (itself a.due) (name_itself a.name)

-- ---- counts

pub every : {X : Type 0} {P Q : X → Type 0} (xs : List X) → ((x : X) → P x → Q x) → AllByRecursion P xs → AllByRecursion Q xs
every [] more all = tt
every (x ∷ xs) more all = (more x all.0, every xs more all.1)

pub entries-cons : (p : Entry → Bool) (e : Entry) (es : List Entry) → count_by p (e ∷ es) ≡ cond (p e) 1 0 + count_by p es
entries-cons p e es = sum_by-cons (λ (x : Entry). cond (p x) 1 0) e es

pub entries-append : (p : Entry → Bool) (xs ys : List Entry) → count_by p (xs ++ ys) ≡ count_by p xs + count_by p ys
entries-append p xs ys = sum_by-append (λ (x : Entry). cond (p x) 1 0) xs ys

-- one that is there is counted
pub has_counts : (e : Entry) (es : List Entry) → has e es ≡ true → 1 ≤ count_by (same_entry e) es
has_counts e [] h = absurd (cc)
has_counts e (x ∷ xs) h = by_test (same_entry e x) refl h (λ k. has_counts e xs k) where
  by_test : (t : Bool) → same_entry e x ≡ t → (t || has e xs) ≡ true → (has e xs ≡ true → 1 ≤ count_by (same_entry e) xs) → 1 ≤ count_by (same_entry e) (x ∷ xs)
  by_test true is there rest = omega (arith, entries-cons (same_entry e) x xs, ap (λ (b : Bool). cond {A = ℕ} b 1 0) is)
  by_test false is there rest = omega (arith, entries-cons (same_entry e) x xs, rest there)

-- one that isn't is not
pub lacks_counts : (e : Entry) (es : List Entry) → has e es ≡ false → count_by (same_entry e) es ≡ 0
lacks_counts e [] h = refl
lacks_counts e (x ∷ xs) h = by_test (same_entry e x) refl h (λ k. lacks_counts e xs k) where
  by_test : (t : Bool) → same_entry e x ≡ t → (t || has e xs) ≡ false → (has e xs ≡ false → count_by (same_entry e) xs ≡ 0) → count_by (same_entry e) (x ∷ xs) ≡ 0
  by_test true is there rest = absurd (cc)
  by_test false is there rest = omega (arith, entries-cons (same_entry e) x xs, rest there, ap (λ (b : Bool). cond {A = ℕ} b 1 0) is)

pub has_by_count : (e : Entry) (es : List Entry) → 1 ≤ count_by (same_entry e) es → has e es ≡ true
has_by_count e es h = by_test (has e es) refl where
  by_test : (t : Bool) → has e es ≡ t → has e es ≡ true
  by_test true is = is
  by_test false is = absurd (omega (arith, h, lacks_counts e es is))

pub lacks_by_count : (e : Entry) (es : List Entry) → count_by (same_entry e) es ≡ 0 → has e es ≡ false
lacks_by_count e es h = by_test (has e es) refl where
  by_test : (t : Bool) → has e es ≡ t → has e es ≡ false
  by_test true is = absurd (omega (arith, h, has_counts e es is))
  by_test false is = is

-- each is there
pub all_there : (es : List Entry) → AllByRecursion (λ (e : Entry). 1 ≤ count_by (same_entry e) es) es
all_there [] = tt
all_there (e ∷ es) = (
  omega (arith, entries-cons (same_entry e) e es, ap (λ (b : Bool). cond {A = ℕ} b 1 0) (entry_itself e)),
  every es (λ x h. omega (arith, h, entries-cons (same_entry x) e es)) (all_there es),
)
