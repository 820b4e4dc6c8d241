-- The words of a text, one by one.
use Rattle.std.proofs.Common.{◌≡◌, ℕ, suc, ◌+◌, ◌-◌, ◌/◌, ◌^◌, ◌<◌, ◌≤◌, Bool, true, false, cond, List, [], ◌∷◌, length, take, drop, refl, sym, ap, ◌∙◌, arith}
use Rattle.std.specs.Prelude.{fold, nat_lt}
use Rattle.std.proofs.lemmas.Bool.Decides.{nat_tests}
use Rattle.std.specs.Hash.{le_bytes}
use Rattle.std.specs.Int.{w64, from_le_bytes}
use Rattle.std.proofs.lemmas.Nat.{from_le_bytes-to_le_bytes_8}
use Rattle.sip_base.specs.declared.word_hasher.WordHasher.{WordHasher}
use Rattle.sip_base.specs.WordHasher.{with_byte, last_word, words_before, write_word, write_rest, write}

-- the first word is that of the first eight bytes
front : (text : List ℕ) → from_le_bytes w64 (take 8 text) ≡ from_le_bytes w64 text
front [] = refl
front (a ∷ []) = refl
front (a ∷ b ∷ []) = refl
front (a ∷ b ∷ c ∷ []) = refl
front (a ∷ b ∷ c ∷ d ∷ []) = refl
front (a ∷ b ∷ c ∷ d ∷ e ∷ []) = refl
front (a ∷ b ∷ c ∷ d ∷ e ∷ f ∷ []) = refl
front (a ∷ b ∷ c ∷ d ∷ e ∷ f ∷ g ∷ []) = refl
front (a ∷ b ∷ c ∷ d ∷ e ∷ f ∷ g ∷ h ∷ text) = refl

-- the last word of a text of eight bytes or more
pub long : (text word : List ℕ) → 8 ≤ length text → word ≡ drop (length text - 8) text → from_le_bytes w64 word ≡ last_word text
long text word many is = by_test (nat_lt (length text) 8) (not_few (length text) many) where
  not_few : (n : ℕ) → 8 ≤ n → nat_lt n 8 ≡ false
  not_few n le = grind (arith, nat_tests)

  by_test : (t : Bool) → t ≡ false → from_le_bytes w64 word ≡ cond t (fold with_byte 0 text) (from_le_bytes w64 (drop (length text - 8) text))
  by_test true e = absurd cc
  by_test false e = ap (from_le_bytes w64) is

-- and that of a shorter one
pub short : (text : List ℕ) → length text < 8 → fold with_byte 0 text ≡ last_word text
short text few = by_test (nat_lt (length text) 8) (is_few (length text) few) where
  is_few : (n : ℕ) → n < 8 → nat_lt n 8 ≡ true
  is_few n lt = grind (arith, nat_tests)

  by_test : (t : Bool) → t ≡ true → fold with_byte 0 text ≡ cond t (fold with_byte 0 text) (from_le_bytes w64 (drop (length text - 8) text))
  by_test true e = refl
  by_test false e = absurd cc

-- a rest of eight bytes or more is its first word, and then what stands behind
pub a_word : (s : WordHasher) (last : ℕ) (text word behind : List ℕ) → word ≡ take 8 text → behind ≡ drop 8 text → length behind + 8 ≡ length text
    → write_rest (write_word s (from_le_bytes w64 word)) last behind ≡ write_rest s last text
unfolding write_rest
a_word s last text word behind is rest long =
    let count : length text / 8 ≡ suc (length behind / 8) = omega arith in
    let first : from_le_bytes w64 word ≡ from_le_bytes w64 text = ap (from_le_bytes w64) is ∙ front text in
    ap (λ w. fold write_word (write_word s w) (words_before last (length behind / 8) behind)) first
    ∙ ap (λ t. fold write_word (write_word s (from_le_bytes w64 text)) (words_before last (length behind / 8) t)) rest
    ∙ ap (λ n. fold write_word s (words_before last n text)) (sym count)

-- one of fewer is the last word
pub last_is : (s : WordHasher) (last : ℕ) (text : List ℕ) → 0 < length text → length text < 8 → write_word s last ≡ write_rest s last text
unfolding write_rest
last_is s last [] some few = absurd (omega arith)
last_is s last (b ∷ text) some few =
    let none : length (b ∷ text) / 8 ≡ 0 = omega arith in
    ap (λ n. fold write_word s (words_before last n (b ∷ text))) (sym none)

-- one of none has no word
pub no_word : (s : WordHasher) (last : ℕ) (text : List ℕ) → length text ≡ 0 → s ≡ write_rest s last text
unfolding write_rest
no_word s last [] none = refl
no_word s last (b ∷ text) none = absurd cc

-- a whole text is the rest of it at first
pub whole : (s : WordHasher) (text : List ℕ) → write_rest s (last_word text) text ≡ write s text
unfolding write
whole s text = refl

-- a number of 64 bits is its own word
pub is_number : (s : WordHasher) (number : ℕ) → number < 2 ^ 64 → write_word s number ≡ write s (le_bytes 8 number)
unfolding write write_rest le_bytes
is_number s number fits = ap (write_word s) (sym (from_le_bytes-to_le_bytes_8 number fits))
