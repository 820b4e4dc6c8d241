-- Words of marks.
use Rattle.std.proofs.Common.{◌≡◌, ℕ, ◌+◌, ◌/◌, ◌%◌, ◌^◌, ◌-◌, ◌≤◌, ◌<◌, ap, sym, ◌∙◌, arith, w64}
use Rattle.std.specs.Int.{bit_at, trailing_zeros}
use Rattle.std.proofs.lemmas.Bool.Decides.{nat_tests}
use Rattle.std.proofs.lemmas.Nat.{shr-shr, shr_le, pow_pos}
use Rattle.std.proofs.lemmas.Nat.Bits.{bit_at-trailing_zeros, bit_at_above}
use Rattle.sip_timers_wheel.specs.Marks.{IsNextMark}
use Rattle.sip_timers_wheel.proofs.Marked.{by_below}

bit-above : (word from i : ℕ) → bit_at (word / 2 ^ from) i ≡ bit_at word (from + i)
bit-above word from i = ap (λ x. x % 2) (shr-shr word from i)

below-by : (x m : ℕ) → x / m ≡ 0 → 0 < m → x < m
below-by x m e pos = grind (arith, nat_tests, e, pos)

small : (x : ℕ) → x < 64 → x % 64 ≡ x
small x h = omega (arith, h)

module _ (word from : ℕ) (fits : word < 2 ^ 64) (within : from < 64) where
  module _ (some : 0 < word / 2 ^ from) where
    abbrev at : ℕ
    at = trailing_zeros w64 (word / 2 ^ from)

    bits-of : (at < 64) × (bit_at (word / 2 ^ from) at ≡ 1) × ((i : ℕ) → i < at → bit_at (word / 2 ^ from) i ≡ 0)
    bits-of = bit_at-trailing_zeros w64 (word / 2 ^ from) some (omega (arith, fits, shr_le word from))

    in-word : from + at < 64
    in-word = by_below (from + at < 64) (from + at) 64 (λ lt. lt)
        (λ le. absurd (omega (arith, bits-of.1, bit-above word from at, bit_at_above word 64 (from + at) fits le)))

    pub mark-above : IsNextMark word from at
    mark-above = record {
      within = bits-of.0;
      marked = ap (λ p. bit_at word p) (small (from + at) in-word) ∙ (sym (bit-above word from at) ∙ bits-of.1);
      before = (λ i lt. ap (λ p. bit_at word p) (small (from + i) (omega (arith, lt, in-word))) ∙ (sym (bit-above word from i) ∙ bits-of.2 i lt));
    }

  module _ (none : word / 2 ^ from ≡ 0) (some : 0 < word) where
    abbrev first : ℕ
    first = trailing_zeros w64 word

    bits-of-word : (first < 64) × (bit_at word first ≡ 1) × ((i : ℕ) → i < first → bit_at word i ≡ 0)
    bits-of-word = bit_at-trailing_zeros w64 word some fits

    none-above : (i : ℕ) → from ≤ i → bit_at word i ≡ 0
    none-above i le = bit_at_above word from i (below-by word (2 ^ from) none (pow_pos from)) le

    first-below : first < from
    first-below = by_below (first < from) first from (λ lt. lt) (λ le. absurd (omega (arith, bits-of-word.1, none-above first le)))

    pub mark-round : IsNextMark word from (64 - from + first)
    mark-round = record {
      within = omega (arith, first-below, within);
      marked = ap (λ p. bit_at word p) (omega (arith, first-below, within)) ∙ bits-of-word.1;
      before = (λ i lt. by_below (bit_at word ((from + i) % 64) ≡ 0) (from + i) 64
          (λ low. ap (λ p. bit_at word p) (small (from + i) low) ∙ none-above (from + i) (omega arith))
          (λ high. bits-of-word.2 ((from + i) % 64) (omega (arith, lt, high, within, first-below))));
    }
