-- What is known of dialogs, and what is made of them, doesn't depend on their order.
use Rattle.std.proofs.Common.{◌≡◌, ℕ, zero, suc, slice_get, Some, ◌≤◌, ◌+◌, List, [], ◌∷◌, ◌++◌, length, cond, ltb, Bool, true, false, refl, sym, ◌∙◌, ap, ap₂, arith}
use Rattle.std.proofs.Common.{map}
use Rattle.std.specs.Prelude.{◌&&◌, ◌||◌, not, filter, count_by, nat_le}
use Rattle.std.specs.List.{list_any}
use Rattle.std.proofs.lemmas.Bool.Decides.{nat_tests}
use Rattle.std.proofs.lemmas.List.Sums.{sum_by-cons, sum_by-append}
use Rattle.sip_uri.specs.declared.addr.Addr.{Addr}
use Rattle.sip_dialog.specs.declared.dialog.DialogId.{DialogId}
use Rattle.sip_dialog.specs.declared.dialog.Dialog.{Dialog}
use Rattle.sip_dialog.specs.declared.dialog.InviteAnswer.{InviteAnswer}
use Rattle.sip_dialog.specs.Sameness.{SameDialogs}
use Rattle.sip_dialog.specs.Dialogs.{is_known, known, is_named, holds, is_in_dialog, edited, learnt, knows, answered_again, begun, without_dialog, is_unconfirmed}
use Rattle.sip_dialog.specs.Dialogs.{after_invite}

-- ---- counts

-- one more element
pub count_first : {X : Type 0} (p : X → Bool) (x : X) (xs : List X) → count_by p (x ∷ xs) ≡ cond (p x) 1 0 + count_by p xs
count_first p x xs = sum_by-cons (λ y. cond (p y) 1 0) x xs

pub count_filter : {X : Type 0} (p q : X → Bool) (xs : List X) → count_by p (filter q xs) ≡ count_by (λ x. q x && p x) xs
count_filter p q [] = refl
count_filter p q (x ∷ xs) = by_test (q x) (count_filter p q xs) ∙ sym (count_first (λ y. q y && p y) x xs) where
  by_test : (t : Bool) → count_by p (filter q xs) ≡ count_by (λ y. q y && p y) xs → count_by p (cond t (x ∷ filter q xs) (filter q xs))
      ≡ cond (t && p x) 1 0 + count_by (λ y. q y && p y) xs
  by_test true e = count_first p x (filter q xs) ∙ ap (λ n. cond (p x) 1 0 + n) e
  by_test false e = omega (arith, e)

pub count_map : {X Y : Type 0} (p : Y → Bool) (f : X → Y) (xs : List X) → count_by p (map f xs) ≡ count_by (λ x. p (f x)) xs
count_map p f [] = refl
count_map p f (x ∷ xs) = count_first p (f x) (map f xs) ∙ ap (λ n. cond (p (f x)) 1 0 + n) (count_map p f xs) ∙ sym (count_first (λ y. p (f y)) x xs)

pub any_counts : {X : Type 0} (p : X → Bool) (xs : List X) → list_any p xs ≡ ltb 0 (count_by p xs)
any_counts p [] = refl
any_counts p (x ∷ xs) = by_test (p x) (count_by p xs) (any_counts p xs) ∙ ap (ltb 0) (sym (count_first p x xs)) where
  by_test : (t : Bool) (n : ℕ) → list_any p xs ≡ ltb 0 n → (t || list_any p xs) ≡ ltb 0 (cond t 1 0 + n)
  by_test true n e = grind (arith, nat_tests)
  by_test false n e = let same : n ≡ 0 + n = omega arith in e ∙ ap (ltb 0) same

pub length_counts : {X : Type 0} (xs : List X) → length xs ≡ count_by (λ x. true) xs
length_counts [] = refl
length_counts (x ∷ xs) = omega (arith, length_counts xs, count_first (λ y. true) x xs)

pub count_joined : {X : Type 0} (p : X → Bool) (xs ys : List X) → count_by p (xs ++ ys) ≡ count_by p xs + count_by p ys
count_joined p xs ys = sum_by-append (λ y. cond (p y) 1 0) xs ys

-- tests that agree count the same
pub count_alike : {X : Type 0} (p q : X → Bool) (xs : List X) → ((x : X) → p x ≡ q x) → count_by p xs ≡ count_by q xs
count_alike p q [] h = refl
count_alike p q (x ∷ xs) h = count_first p x xs ∙ ap₂ (λ (b : Bool) (n : ℕ). cond b 1 0 + n) (h x) (count_alike p q xs h) ∙ sym (count_first q x xs)

-- what passes a test, and what doesn't
pub split_by : {X : Type 0} (p test : X → Bool) (xs : List X) → count_by test xs ≡ count_by (λ x. p x && test x) xs + count_by (λ x. not (p x) && test x) xs
split_by p test [] = refl
split_by p test (x ∷ xs) =
    let rest = split_by p test xs in
    omega (arith, count_first test x xs, count_first (λ y. p y && test y) x xs, count_first (λ y. not (p y) && test y) x xs, rest, by_tests (p x) (test x))
  where
    by_tests : (a b : Bool) → cond b 1 0 ≡ cond (a && b) 1 0 + cond (not a && b) 1 0
    by_tests true true = refl
    by_tests true false = refl
    by_tests false true = refl
    by_tests false false = refl

-- one that stands at an index
pub counted_at : {X : Type 0} (test : X → Bool) (xs : List X) (at : ℕ) (x : X) → slice_get xs at ≡ Some x → cond (test x) 1 0 ≤ count_by test xs
counted_at test [] at x h = absurd (cc)
counted_at {X} test (y ∷ ys) zero x h =
    let is : y ≡ x = cc in
    let here : cond (test y) 1 0 ≡ cond (test x) 1 0 = ap (λ (z : X). cond {A = ℕ} (test z) 1 0) is in
    omega (arith, count_first test y ys, here)
counted_at test (y ∷ ys) (suc at) x h = let rest = counted_at test ys at x h in omega (arith, count_first test y ys, rest)

and_moves : (x y z : Bool) → (x && y && z) ≡ (x && (y && z))
and_moves true y z = refl
and_moves false y z = refl

-- ---- dialogs

same_filtered : (q : Dialog → Bool) (now : ℕ) (left right : List Dialog) → SameDialogs now left right
    → SameDialogs now (filter q (known now left)) (filter q (known now right))
same_filtered q now left right h = λ p. at_once p left ∙ h (λ d. q d && (is_known now d && p d)) ∙ sym (at_once p right) where
  at_once : (p : Dialog → Bool) (ds : List Dialog) → count_by p (known now (filter q (known now ds))) ≡ count_by (λ d. q d && (is_known now d && p d)) (known now ds)
  at_once p ds = count_filter p (is_known now) (filter q (known now ds)) ∙ count_filter (λ d. is_known now d && p d) q (known now ds)

-- an edit
pub edited_same : (now : ℕ) (id : DialogId) (edit : Dialog → Dialog) (left right : List Dialog) → SameDialogs now left right
    → SameDialogs now (edited now id edit left) (edited now id edit right)
edited_same now id edit left right h = λ p. at_once p left ∙ h (λ d. is_known now (one d) && p (one d)) ∙ sym (at_once p right) where
  one : Dialog → Dialog
  one d = cond (is_named id d) (edit d) d

  at_once : (p : Dialog → Bool) (ds : List Dialog) → count_by p (known now (map one (known now ds))) ≡ count_by (λ d. is_known now (one d) && p (one d)) (known now ds)
  at_once p ds = count_filter p (is_known now) (map one (known now ds)) ∙ count_map (λ d. is_known now d && p d) one (known now ds)

-- the end of a dialog, and of an INVITE without a 2xx
pub without_same : (now : ℕ) (id : DialogId) (left right : List Dialog) → SameDialogs now left right
    → SameDialogs now (without_dialog now id left) (without_dialog now id right)
without_same now id left right h = same_filtered (λ d. not (is_named id d)) now left right h

pub after_invite_same : (now number : ℕ) (left right : List Dialog) → SameDialogs now left right
    → SameDialogs now (after_invite now number left) (after_invite now number right)
after_invite_same now number left right h = same_filtered (λ d. not (is_unconfirmed number d)) now left right h

-- what is known
pub knows_same : (now : ℕ) (id : DialogId) (left right : List Dialog) → SameDialogs now left right → knows now id left ≡ knows now id right
knows_same now id left right h = any_counts (is_named id) (known now left) ∙ ap (ltb 0) (h (is_named id)) ∙ sym (any_counts (is_named id) (known now right))

pub length_same : (now : ℕ) (left right : List Dialog) → SameDialogs now left right → length (known now left) ≡ length (known now right)
length_same now left right h = length_counts (known now left) ∙ h (λ d. true) ∙ sym (length_counts (known now right))

pub same_known : (now : ℕ) (more left right : List Dialog) → SameDialogs now left right → SameDialogs now (known now left ++ more) (known now right ++ more)
same_known now more left right h = λ p. at_once p left ∙ ap (λ n. n + count_by (λ d. is_known now d && p d) more) (h (λ d. is_known now d && p d))
    ∙ sym (at_once p right) where
      at_once : (p : Dialog → Bool) (ds : List Dialog)
          → count_by p (known now (known now ds ++ more)) ≡ count_by (λ d. is_known now d && p d) (known now ds) + count_by (λ d. is_known now d && p d) more
      at_once p ds = count_filter p (is_known now) (known now ds ++ more) ∙ count_joined (λ d. is_known now d && p d) (known now ds) more

-- what an answer to an INVITE teaches
pub learnt_same : (now : ℕ) (a : InviteAnswer) (left right : List Dialog) → SameDialogs now left right → SameDialogs now (learnt now a left) (learnt now a right)
learnt_same now a left right h =
    rw (knows_same now a.id left right h, length_same now left right h) (by_tests (knows now a.id right)
    (not (knows now a.id right) && nat_le 4096 (length (known now right)))) where
      by_tests : (is_there is_full : Bool)
          → SameDialogs now (cond is_there (edited now a.id (answered_again a) left) (cond is_full (known now left) (known now left ++ begun a ∷ [])))
          (cond is_there (edited now a.id (answered_again a) right) (cond is_full (known now right) (known now right ++ begun a ∷ [])))
      by_tests true is_full = edited_same now a.id (answered_again a) left right h
      by_tests false true = λ p.
          count_filter p (is_known now) (known now left) ∙ h (λ d. is_known now d && p d) ∙ sym (count_filter p (is_known now) (known now right))
      by_tests false false = same_known now (begun a ∷ []) left right h

-- whether a request is in a dialog
pub in_dialog_same : (now : ℕ) (left right : List Dialog) (id : DialogId) (address : Addr) → SameDialogs now left right
    → is_in_dialog now left id address ≡ is_in_dialog now right id address
in_dialog_same now left right id address h = at_once left ∙ ap (ltb 0) (h (λ d. is_named id d && holds address d)) ∙ sym (at_once right) where
  at_once : (ds : List Dialog) → is_in_dialog now ds id address ≡ ltb 0 (count_by (λ d. is_named id d && holds address d) (known now ds))
  at_once ds =
      any_counts (λ d. is_known now d && is_named id d && holds address d) ds
      ∙ ap (ltb 0) (count_alike _ _ ds (λ d. and_moves (is_known now d) (is_named id d) (holds address d))
      ∙ sym (count_filter (λ d. is_named id d && holds address d) (is_known now) ds))

-- what is known later is what is known now and still known then
known_later : (now later : ℕ) (ds : List Dialog) → now ≤ later → known later ds ≡ filter (is_known later) (known now ds)
known_later now later [] le = refl
known_later now later (d ∷ ds) le = by_tests (is_known now d) (is_known later d) refl known_before (known_later now later ds le) where
  known_before : is_known later d ≡ true → is_known now d ≡ true
  known_before e = grind (arith, nat_tests)

  by_tests : (at_now at_later : Bool) → is_known later d ≡ at_later → (at_later ≡ true → at_now ≡ true) → known later ds ≡ filter (is_known later) (known now ds)
      → cond at_later (d ∷ known later ds) (known later ds) ≡ filter (is_known later) (cond at_now (d ∷ known now ds) (known now ds))
  by_tests true true is h e = rw is (ap (λ rest. d ∷ rest) e)
  by_tests true false is h e = rw is e
  by_tests false true is h e = let bad = h refl in absurd (cc)
  by_tests false false is h e = e

-- lists that say the same do so later
pub dialogs_later : (now later : ℕ) (left right : List Dialog) → now ≤ later → SameDialogs now left right → SameDialogs later left right
dialogs_later now later left right le h = λ p. at_once p left ∙ h (λ d. is_known later d && p d) ∙ sym (at_once p right) where
  at_once : (p : Dialog → Bool) (ds : List Dialog) → count_by p (known later ds) ≡ count_by (λ d. is_known later d && p d) (known now ds)
  at_once p ds = ap (count_by p) (known_later now later ds le) ∙ count_filter p (is_known later) (known now ds)

-- ---- an equivalence

pub dialogs_self : (now : ℕ) (left right : List Dialog) → left ≡ right → SameDialogs now left right
dialogs_self now left right e = λ p. ap (λ (ds : List Dialog). count_by p (known now ds)) e

pub dialogs_turned : (now : ℕ) (left right : List Dialog) → SameDialogs now left right → SameDialogs now right left
dialogs_turned now left right h = λ p. sym (h p)

pub dialogs_joined : (now : ℕ) (left middle right : List Dialog) → SameDialogs now left middle → SameDialogs now middle right → SameDialogs now left right
dialogs_joined now left middle right h k = λ p. h p ∙ k p
