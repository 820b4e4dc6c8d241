-- A value without commas, quotes and brackets, or of one pair of brackets, is one item.
use Rattle.std.proofs.Common.{◌≡◌, ℕ, zero, suc, ◌+◌, ◌-◌, ◌<◌, ◌≤◌, Bool, true, false, List, [], ◌∷◌, length, drop, get_or, Some, refl, sym, ap, subst, ◌∙◌, arith}
use Rattle.std.specs.Prelude.{not, ◌&&◌}
use Rattle.std.specs.List.{list_all}
use Rattle.std.proofs.lemmas.Bool.Decides.{nat_tests}
use Rattle.std.proofs.lemmas.List.Folds.{list_all_at}
use Rattle.memchr.specs.Find.{Nowhere, Passes, is_byte, is_byte3}
use Rattle.httparse.specs.Pieces.{AllPassBetween, PassesIn}
use Rattle.httparse.proofs.LaneLemmas.{covered}
use Rattle.sip_text.specs.Lists.{is_blank, cut}
use Rattle.sip_text.proofs.OneItem.{none_cuts, one_bracket, tight_item}
use Rattle.sip_text_runs.specs.Marks.{is_unmarked}

nowhere : (xs : List ℕ) → list_all is_unmarked xs ≡ true → Nowhere (Passes (is_byte3 44 34 60) xs) 0 (length xs)
nowhere xs all = λ k low lt here.
    let clash : true ≡ false = sym all ∙ list_all_at is_unmarked xs k 0 lt (ap not here) in
    absurd cc

pub over_blank : (b : ℕ) → 32 < b → is_blank b ≡ false
over_blank b lt = grind (arith, nat_tests, lt)

pub plain_value : (value : List ℕ) → 0 < length value → 32 < get_or value 0 0 → 32 < get_or value (length value - 1) 0 → list_all is_unmarked value ≡ true
    → cut value ≡ Some (value ∷ [])
plain_value value some first last all = tight_item value some (over_blank _ first) (over_blank _ last) (none_cuts value (nowhere value all))

-- ---- a pair of brackets

-- where the first `>` stands
record FirstEnd (bytes : List ℕ) : Type 0 where
  at : ℕ
  within : at < length bytes
  none : (k : ℕ) → k < at → is_byte 62 (get_or bytes k 0) ≡ true → ⊥
  here : is_byte 62 (get_or bytes at 0) ≡ true

next_end : (b : ℕ) (bs : List ℕ) (t : Bool) → is_byte 62 b ≡ t → FirstEnd bs → FirstEnd (b ∷ bs)
next_end b bs true is f = record { at = 0; within = omega arith; none = λ k lt h. absurd (omega arith); here = is }
next_end b bs false is f = record { at = suc f.at; within = omega (arith, f.within); none = not_before; here = f.here }
  where
    not_before : (k : ℕ) → k < suc f.at → is_byte 62 (get_or (b ∷ bs) k 0) ≡ true → ⊥
    not_before zero lt h =
        let clash : true ≡ false = sym h ∙ is in
        absurd cc
    not_before (suc k) lt h = f.none k (omega arith) h

first_end : (bytes : List ℕ) (n : ℕ) → n < length bytes → is_byte 62 (get_or bytes n 0) ≡ true → FirstEnd bytes
first_end [] n lt is = absurd (omega arith)
first_end (b ∷ bs) zero lt is = record { at = 0; within = omega arith; none = λ k less h. absurd (omega arith); here = is }
first_end (b ∷ bs) (suc n) lt is = next_end b bs (is_byte 62 b) refl (first_end bs n (omega arith) is)

right_of : (a b : Bool) → (a && b) ≡ true → b ≡ true
right_of true b e = e
right_of false b e = absurd cc

all_behind : (n : ℕ) (xs : List ℕ) → list_all is_unmarked xs ≡ true → list_all is_unmarked (drop n xs) ≡ true
all_behind zero xs all = all
all_behind (suc n) [] all = refl
all_behind (suc n) (x ∷ xs) all = all_behind n xs (right_of (is_unmarked x) (list_all is_unmarked xs) all)

rest_behind : (n : ℕ) (xs : List ℕ) → list_all is_unmarked (drop 1 xs) ≡ true → list_all is_unmarked (drop (suc n) xs) ≡ true
rest_behind n [] all = refl
rest_behind n (x ∷ xs) all = all_behind n xs all

pub bracketed_value : (value inner : List ℕ) → 0 < length value → 32 < get_or value 0 0 → 32 < get_or value (length value - 1) 0 → get_or value 0 0 ≡ 60
    → get_or value (length value - 1) 0 ≡ 62 → inner ≡ drop 1 value
    → list_all is_unmarked inner ≡ true → cut value ≡ Some (value ∷ [])
bracketed_value value inner some first last begins ends is all =
    let f : FirstEnd value = first_end value (length value - 1) (omega (arith, some)) (ap (is_byte 62) ends) in
    let next : f.at + 1 ≡ suc f.at = omega arith in
    let rest : list_all is_unmarked (drop (f.at + 1) value) ≡ true =
    subst (λ (n : ℕ). list_all is_unmarked (drop n value) ≡ true) (sym next) (rest_behind f.at value (subst (λ (w : List ℕ). list_all is_unmarked w ≡ true) is all)) in
    tight_item value some (over_blank _ first) (over_blank _ last)
    (one_bracket value (drop (f.at + 1) value) f.at begins (record { low = omega arith; high = f.within; before = λ k low lt h. f.none k lt h }, f.here) refl
    (none_cuts (drop (f.at + 1) value) (nowhere (drop (f.at + 1) value) rest)))

-- ---- by so many bytes at once

-- the bytes before a place cut no list and begin no quote and no bracket
pub record IsUnmarkedBefore (bytes : List ℕ) (end : ℕ) : Type 0 where
  pub pass : AllPassBetween is_unmarked bytes 0 end

pub unmarked_all : (bytes : List ℕ) (seen run last : ℕ) → 16 ≤ length bytes → last ≡ length bytes - 16 → last ≤ seen → IsUnmarkedBefore bytes seen
    → PassesIn is_unmarked bytes last 16 run → 16 ≤ run → list_all is_unmarked bytes ≡ true
unmarked_all bytes seen run last long is overlaps front back whole =
    covered is_unmarked bytes seen 16 long (omega (arith, is, overlaps)) front.pass (λ k from to. back.1 k (omega (arith, is, from)) (omega (arith, is, to, whole)))
