-- Slots by their moments.
use Rattle.std.proofs.Common.{◌≡◌, ◌≢◌, ℕ, ◌+◌, ◌*◌, ◌/◌, ◌%◌, ◌≤◌, ◌<◌, eqb, leb, true, false, refl, ap, sym, ◌∙◌, arith}
use Rattle.std.proofs.lemmas.Bool.Decides.{nat_tests}
use Rattle.std.proofs.lemmas.Nat.{mul-le}
use Rattle.sip_timers_wheel.specs.Places.{width, level_of, slot_at, slot_of, start_of}

-- ---- levels by quotients

pub level-0 : (b d : ℕ) → d / 64 ≡ b / 64 → level_of b d ≡ 0
level-0 b d h = grind (arith, nat_tests)

pub level-1 : (b d : ℕ) → d / 64 ≢ b / 64 → d / 4096 ≡ b / 4096 → level_of b d ≡ 1
level-1 b d h0 h1 = grind (arith, nat_tests)

pub level-2 : (b d : ℕ) → d / 64 ≢ b / 64 → d / 4096 ≢ b / 4096 → d / 262144 ≡ b / 262144 → level_of b d ≡ 2
level-2 b d h0 h1 h2 = grind (arith, nat_tests)

pub level-3 : (b d : ℕ) → d / 64 ≢ b / 64 → d / 4096 ≢ b / 4096 → d / 262144 ≢ b / 262144 → d / 16777216 ≡ b / 16777216 → level_of b d ≡ 3
level-3 b d h0 h1 h2 h3 = grind (arith, nat_tests)

pub level-4 : (b d : ℕ) → d / 64 ≢ b / 64 → d / 4096 ≢ b / 4096 → d / 262144 ≢ b / 262144 → d / 16777216 ≢ b / 16777216 → level_of b d ≡ 4
level-4 b d h0 h1 h2 h3 = grind (arith, nat_tests)

-- which quotients differ and which don't, with the level
pub record At0 (b d : ℕ) : Type 0 where
  pub level : level_of b d ≡ 0
  pub same : d / 64 ≡ b / 64

pub record At1 (b d : ℕ) : Type 0 where
  pub level : level_of b d ≡ 1
  pub below : d / 64 ≢ b / 64
  pub same : d / 4096 ≡ b / 4096

pub record At2 (b d : ℕ) : Type 0 where
  pub level : level_of b d ≡ 2
  pub below : d / 4096 ≢ b / 4096
  pub same : d / 262144 ≡ b / 262144

pub record At3 (b d : ℕ) : Type 0 where
  pub level : level_of b d ≡ 3
  pub below : d / 262144 ≢ b / 262144
  pub same : d / 16777216 ≡ b / 16777216

pub record At4 (b d : ℕ) : Type 0 where
  pub level : level_of b d ≡ 4
  pub below : d / 16777216 ≢ b / 16777216

-- by cases on the level
pub by_level : (P : Type 0) (b d : ℕ) → (At0 b d → P) → (At1 b d → P) → (At2 b d → P) → (At3 b d → P) → (At4 b d → P) → P
by_level P b d p0 p1 p2 p3 p4 =
    elim (eqb (d / 64) (b / 64)) as (λ v. (eqb (d / 64) (b / 64) ≡ v) → P) [
      | true ↦ (λ e0. let s0 : d / 64 ≡ b / 64 = grind (arith, nat_tests, e0) in p0 (record { level = level-0 b d s0; same = s0 }))
      | false ↦ (λ e0. let n0 : d / 64 ≢ b / 64 = grind (arith, nat_tests, e0) in
          elim (eqb (d / 4096) (b / 4096)) as (λ v. (eqb (d / 4096) (b / 4096) ≡ v) → P) [
            | true ↦ (λ e1. let s1 : d / 4096 ≡ b / 4096 = grind (arith, nat_tests, e1) in p1 (record { level = level-1 b d n0 s1; below = n0; same = s1 }))
            | false ↦ (λ e1. let n1 : d / 4096 ≢ b / 4096 = grind (arith, nat_tests, e1) in
                elim (eqb (d / 262144) (b / 262144)) as (λ v. (eqb (d / 262144) (b / 262144) ≡ v) → P) [
                  | true ↦ (λ e2. let s2 : d / 262144 ≡ b / 262144 = grind (arith, nat_tests, e2) in p2 (record { level = level-2 b d n0 n1 s2; below = n1; same = s2 }))
                  | false ↦ (λ e2. let n2 : d / 262144 ≢ b / 262144 = grind (arith, nat_tests, e2) in
                      elim (eqb (d / 16777216) (b / 16777216)) as (λ v. (eqb (d / 16777216) (b / 16777216) ≡ v) → P) [
                        | true ↦ (λ e3. let s3 : d / 16777216 ≡ b / 16777216 = grind (arith, nat_tests, e3) in
                            p3 (record { level = level-3 b d n0 n1 n2 s3; below = n2; same = s3 }))
                        | false ↦ (λ e3. let n3 : d / 16777216 ≢ b / 16777216 = grind (arith, nat_tests, e3) in
                            p4 (record { level = level-4 b d n0 n1 n2 n3; below = n3 }))
                      ] refl)
                ] refl)
          ] refl)
    ] refl

start-at : (b d k : ℕ) → level_of b d ≡ k → start_of b d ≡ d / width k * width k
start-at b d k h = ap (λ l. d / width l * width l) h

-- ---- what isn't reached yet stays where it is

stays-0 : (b c d : ℕ) → At0 b d → b ≤ c → c < d → level_of c d ≡ level_of b d
stays-0 b c d at le lt = level-0 c d (omega (arith, at.same, le, lt)) ∙ sym at.level

stays-1 : (b c d : ℕ) → At1 b d → b ≤ c → c < d / 64 * 64 → level_of c d ≡ level_of b d
stays-1 b c d at le lt = level-1 c d (omega (arith, lt)) (omega (arith, at.same, le, lt)) ∙ sym at.level

stays-2 : (b c d : ℕ) → At2 b d → b ≤ c → c < d / 4096 * 4096 → level_of c d ≡ level_of b d
stays-2 b c d at le lt = level-2 c d (omega (arith, lt)) (omega (arith, lt)) (omega (arith, at.same, le, lt)) ∙ sym at.level

stays-3 : (b c d : ℕ) → At3 b d → b ≤ c → c < d / 262144 * 262144 → level_of c d ≡ level_of b d
stays-3 b c d at le lt = level-3 c d (omega (arith, lt)) (omega (arith, lt)) (omega (arith, lt)) (omega (arith, at.same, le, lt)) ∙ sym at.level

stays-4 : (b c d : ℕ) → At4 b d → c < d / 16777216 * 16777216 → level_of c d ≡ level_of b d
stays-4 b c d at lt = level-4 c d (omega (arith, lt)) (omega (arith, lt)) (omega (arith, lt)) (omega (arith, lt)) ∙ sym at.level

pub level_stays : (b c d : ℕ) → b ≤ c → c < start_of b d → level_of c d ≡ level_of b d
level_stays b c d le lt = by_level (level_of c d ≡ level_of b d) b d
    (λ at. stays-0 b c d at le (omega (arith, lt, start-at b d 0 at.level)))
    (λ at. stays-1 b c d at le (omega (arith, lt, start-at b d 1 at.level)))
    (λ at. stays-2 b c d at le (omega (arith, lt, start-at b d 2 at.level)))
    (λ at. stays-3 b c d at le (omega (arith, lt, start-at b d 3 at.level)))
    (λ at. stays-4 b c d at (omega (arith, lt, start-at b d 4 at.level)))

-- ---- slots

pub slot-late : (b d : ℕ) → d ≤ b → slot_of b d ≡ 320
slot-late b d h = grind (arith, nat_tests)

pub slot-none : (b d : ℕ) → b + 1073741824 ≤ d → slot_of b d ≡ 321
slot-none b d h = grind (arith, nat_tests)

pub slot-in : (b d : ℕ) → b < d → d < b + 1073741824 → slot_of b d ≡ slot_at (level_of b d) d
slot-in b d h k = grind (arith, nat_tests)

pub level_below : (b d : ℕ) → level_of b d < 5
level_below b d = by_level (level_of b d < 5) b d (λ at. omega (arith, at.level)) (λ at. omega (arith, at.level)) (λ at. omega (arith, at.level))
    (λ at. omega (arith, at.level)) (λ at. omega (arith, at.level))

pub start_le : (b d : ℕ) → start_of b d ≤ d
start_le b d = by_level (start_of b d ≤ d) b d
    (λ at. omega (arith, start-at b d 0 at.level))
    (λ at. omega (arith, start-at b d 1 at.level))
    (λ at. omega (arith, start-at b d 2 at.level))
    (λ at. omega (arith, start-at b d 3 at.level))
    (λ at. omega (arith, start-at b d 4 at.level))

-- the slot of what is due begins behind the moment that was reached
pub start_after : (b d : ℕ) → b < d → b < start_of b d
start_after b d lt = by_level (b < start_of b d) b d
    (λ at. omega (arith, lt, start-at b d 0 at.level))
    (λ at. omega (arith, lt, at.below, start-at b d 1 at.level))
    (λ at. omega (arith, lt, at.below, start-at b d 2 at.level))
    (λ at. omega (arith, lt, at.below, start-at b d 3 at.level))
    (λ at. omega (arith, lt, at.below, start-at b d 4 at.level))

-- what isn't reached yet stays in its slot
pub slot_stays : (b c d : ℕ) → b ≤ c → b < d → d < b + 1073741824 → c < start_of b d → slot_of c d ≡ slot_of b d
slot_stays b c d le lt near before =
    let below : c < d = omega (arith, before, start_le b d) in
    slot-in c d below (omega (arith, near, le)) ∙ (ap (λ l. slot_at l d) (level_stays b c d le before) ∙ sym (slot-in b d lt near))

-- ---- how far ahead a slot is

pub ahead : (b d : ℕ) → b < d → d < b + 1073741824 → (b / width (level_of b d) < d / width (level_of b d)) × (d / width (level_of b d) ≤ b / width (level_of b d) + 64)
ahead b d lt near = by_level ((b / width (level_of b d) < d / width (level_of b d)) × (d / width (level_of b d) ≤ b / width (level_of b d) + 64)) b d
    (λ at. rw at.level (omega (arith, lt, at.same), omega (arith, lt, at.same)))
    (λ at. rw at.level (omega (arith, lt, at.below), omega (arith, lt, at.same)))
    (λ at. rw at.level (omega (arith, lt, at.below), omega (arith, lt, at.same)))
    (λ at. rw at.level (omega (arith, lt, at.below), omega (arith, lt, at.same)))
    (λ at. rw at.level (omega (arith, lt, at.below), omega (arith, lt, near)))

-- ---- what stands in a slot of a higher level is due behind all of a lower one

end-at : (b d k : ℕ) → level_of b d ≡ k → start_of b d + width (level_of b d) ≡ d / width k * width k + width k
end-at b d k h = ap (λ l. d / width l * width l + width l) h

behind-0 : (b d e : ℕ) → At0 b d → b < d → b < e → 0 < level_of b e → start_of b d + width (level_of b d) ≤ start_of b e
behind-0 b d e at lt le above = by_level (start_of b d + width (level_of b d) ≤ start_of b e) b e
    (λ to. absurd (omega (arith, above, to.level)))
    (λ to. omega (arith, lt, le, at.same, to.below, end-at b d 0 at.level, start-at b e 1 to.level))
    (λ to. omega (arith, lt, le, at.same, to.below, end-at b d 0 at.level, start-at b e 2 to.level))
    (λ to. omega (arith, lt, le, at.same, to.below, end-at b d 0 at.level, start-at b e 3 to.level))
    (λ to. omega (arith, lt, le, at.same, to.below, end-at b d 0 at.level, start-at b e 4 to.level))

behind-1 : (b d e : ℕ) → At1 b d → b < d → b < e → 1 < level_of b e → start_of b d + width (level_of b d) ≤ start_of b e
behind-1 b d e at lt le above = by_level (start_of b d + width (level_of b d) ≤ start_of b e) b e
    (λ to. absurd (omega (arith, above, to.level)))
    (λ to. absurd (omega (arith, above, to.level)))
    (λ to. omega (arith, lt, le, at.same, to.below, end-at b d 1 at.level, start-at b e 2 to.level))
    (λ to. omega (arith, lt, le, at.same, to.below, end-at b d 1 at.level, start-at b e 3 to.level))
    (λ to. omega (arith, lt, le, at.same, to.below, end-at b d 1 at.level, start-at b e 4 to.level))

behind-2 : (b d e : ℕ) → At2 b d → b < d → b < e → 2 < level_of b e → start_of b d + width (level_of b d) ≤ start_of b e
behind-2 b d e at lt le above = by_level (start_of b d + width (level_of b d) ≤ start_of b e) b e
    (λ to. absurd (omega (arith, above, to.level)))
    (λ to. absurd (omega (arith, above, to.level)))
    (λ to. absurd (omega (arith, above, to.level)))
    (λ to. omega (arith, lt, le, at.same, to.below, end-at b d 2 at.level, start-at b e 3 to.level))
    (λ to. omega (arith, lt, le, at.same, to.below, end-at b d 2 at.level, start-at b e 4 to.level))

behind-3 : (b d e : ℕ) → At3 b d → b < d → b < e → 3 < level_of b e → start_of b d + width (level_of b d) ≤ start_of b e
behind-3 b d e at lt le above = by_level (start_of b d + width (level_of b d) ≤ start_of b e) b e
    (λ to. absurd (omega (arith, above, to.level)))
    (λ to. absurd (omega (arith, above, to.level)))
    (λ to. absurd (omega (arith, above, to.level)))
    (λ to. absurd (omega (arith, above, to.level)))
    (λ to. omega (arith, lt, le, at.same, to.below, end-at b d 3 at.level, start-at b e 4 to.level))

pub behind_level : (b d e : ℕ) → b < d → b < e → level_of b d < level_of b e → start_of b d + width (level_of b d) ≤ start_of b e
behind_level b d e lt le above = by_level (start_of b d + width (level_of b d) ≤ start_of b e) b d
    (λ at. behind-0 b d e at lt le (omega (arith, above, at.level)))
    (λ at. behind-1 b d e at lt le (omega (arith, above, at.level)))
    (λ at. behind-2 b d e at lt le (omega (arith, above, at.level)))
    (λ at. behind-3 b d e at lt le (omega (arith, above, at.level)))
    (λ at. absurd (omega (arith, above, at.level, level_below b e)))

-- what stands further ahead in the same level
pub behind_slot : (b d e k : ℕ) → level_of b d ≡ k → level_of b e ≡ k → d / width k < e / width k → start_of b d + width (level_of b d) ≤ start_of b e
behind_slot b d e k hd he lt =
    let more : (d / width k + 1) * width k ≤ e / width k * width k = mul-le (d / width k + 1) (width k) (e / width k) (width k) (omega (arith, lt)) (omega arith) in
    let split : (d / width k + 1) * width k ≡ d / width k * width k + width k = grind (arith, nat_tests) in
    omega (arith, end-at b d k hd, start-at b e k he, more, split)

-- ---- one slot has one stretch of moments

-- two numbers up to 64 ahead that are the same number round 64 are the same
same_round : (q x y : ℕ) → q < x → x ≤ q + 64 → q < y → y ≤ q + 64 → x % 64 ≡ y % 64 → x ≡ y
same_round q x y a b c d e = omega (arith, a, b, c, d, e)

slot_at-level : (k d : ℕ) → slot_at k d / 64 ≡ k
slot_at-level k d = omega arith

slot_at-digit : (k d : ℕ) → slot_at k d % 64 ≡ d / width k % 64
slot_at-digit k d = omega arith

pub same_slot : (b d e : ℕ) → b < d → d < b + 1073741824 → b < e → e < b + 1073741824 → slot_of b d ≡ slot_of b e
    → (level_of b d ≡ level_of b e) × (d / width (level_of b d) ≡ e / width (level_of b d))
same_slot b d e ld nd le ne same =
    let s : slot_at (level_of b d) d ≡ slot_at (level_of b e) e = sym (slot-in b d ld nd) ∙ (same ∙ slot-in b e le ne) in
    let levels : level_of b d ≡ level_of b e = sym (slot_at-level (level_of b d) d) ∙ (ap (λ x. x / 64) s ∙ slot_at-level (level_of b e) e) in
    let digits : d / width (level_of b d) % 64 ≡ e / width (level_of b e) % 64 = sym (slot_at-digit (level_of b d) d)
    ∙ (ap (λ x. x % 64) s ∙ slot_at-digit (level_of b e) e) in
    let ahead_d = ahead b d ld nd in
    let ahead_e : (b / width (level_of b d) < e / width (level_of b d)) × (e / width (level_of b d) ≤ b / width (level_of b d) + 64) = rw levels (ahead b e le ne) in (
      levels,
      same_round (b / width (level_of b d)) (d / width (level_of b d)) (e / width (level_of b d)) ahead_d.0 ahead_d.1 ahead_e.0 ahead_e.1
          (digits ∙ ap (λ l. e / width l % 64) (sym levels)),
    )

pub same_start : (b d e : ℕ) → b < d → d < b + 1073741824 → b < e → e < b + 1073741824 → slot_of b d ≡ slot_of b e → start_of b d ≡ start_of b e
same_start b d e ld nd le ne same =
    let both = same_slot b d e ld nd le ne same in
    ap (λ q. q * width (level_of b d)) both.1 ∙ ap (λ l. e / width l * width l) both.0

-- what is due in a slot is due before its end
pub before_end : (b d : ℕ) → d < start_of b d + width (level_of b d)
before_end b d = by_level (d < start_of b d + width (level_of b d)) b d
    (λ at. omega (arith, end-at b d 0 at.level))
    (λ at. omega (arith, end-at b d 1 at.level))
    (λ at. omega (arith, end-at b d 2 at.level))
    (λ at. omega (arith, end-at b d 3 at.level))
    (λ at. omega (arith, end-at b d 4 at.level))

-- ---- a slot that is reached

upto-1 : (c d : ℕ) → d / 64 ≡ c / 64 → level_of c d < 1
upto-1 c d h = omega (arith, level-0 c d h)

upto-2 : (c d : ℕ) → d / 4096 ≡ c / 4096 → level_of c d < 2
upto-2 c d h = by_level (level_of c d < 2) c d (λ at. omega (arith, at.level)) (λ at. omega (arith, at.level)) (λ at. absurd (at.below h))
    (λ at. absurd (omega (arith, at.below, h))) (λ at. absurd (omega (arith, at.below, h)))

upto-3 : (c d : ℕ) → d / 262144 ≡ c / 262144 → level_of c d < 3
upto-3 c d h = by_level (level_of c d < 3) c d (λ at. omega (arith, at.level)) (λ at. omega (arith, at.level)) (λ at. omega (arith, at.level)) (λ at. absurd (at.below h))
    (λ at. absurd (omega (arith, at.below, h)))

upto-4 : (c d : ℕ) → d / 16777216 ≡ c / 16777216 → level_of c d < 4
upto-4 c d h = by_level (level_of c d < 4) c d (λ at. omega (arith, at.level)) (λ at. omega (arith, at.level)) (λ at. omega (arith, at.level))
    (λ at. omega (arith, at.level)) (λ at. absurd (at.below h))

-- what stands in a slot of which a moment is reached goes to a lower level, or is due
level_falls : (b c d : ℕ) → c < d → start_of b d ≤ c → c < start_of b d + width (level_of b d) → level_of c d < level_of b d
level_falls b c d lt begun inside = by_level (level_of c d < level_of b d) b d
    (λ at. absurd (omega (arith, lt, begun, start-at b d 0 at.level)))
    (λ at. omega (arith, at.level, upto-1 c d (omega (arith, begun, inside, start-at b d 1 at.level, end-at b d 1 at.level))))
    (λ at. omega (arith, at.level, upto-2 c d (omega (arith, begun, inside, start-at b d 2 at.level, end-at b d 2 at.level))))
    (λ at. omega (arith, at.level, upto-3 c d (omega (arith, begun, inside, start-at b d 3 at.level, end-at b d 3 at.level))))
    (λ at. omega (arith, at.level, upto-4 c d (omega (arith, begun, inside, start-at b d 4 at.level, end-at b d 4 at.level))))

pub slot_in-range : (b d : ℕ) → b < d → d < b + 1073741824 → (level_of b d * 64 ≤ slot_of b d) × (slot_of b d < level_of b d * 64 + 64)
slot_in-range b d lt near = (omega (arith, slot-in b d lt near), omega (arith, slot-in b d lt near))

pub slot_below : (b d : ℕ) → b < d → d < b + 1073741824 → slot_of b d < 320
slot_below b d lt near = omega (arith, slot_in-range b d lt near, level_below b d)

pub slot_falls : (b c d : ℕ) → b < d → d < b + 1073741824 → start_of b d ≤ c → c < start_of b d + width (level_of b d) → slot_of c d ≢ slot_of b d
slot_falls b c d lt near begun inside =
    elim (leb d c) as (λ v. (leb d c ≡ v) → slot_of c d ≢ slot_of b d) [
      | true ↦ (λ e. let late : slot_of c d ≡ 320 = slot-late c d (grind (arith, nat_tests, e)) in (λ same. omega (arith, same, late, slot_below b d lt near)))
      | false ↦ (λ e.
          let later : c < d = grind (arith, nat_tests, e) in
          let after : b < start_of b d = start_after b d lt in
          let range : (level_of c d * 64 ≤ slot_of c d) × (slot_of c d < level_of c d * 64 + 64) = slot_in-range c d later (omega (arith, near, after, begun)) in
          (λ same. omega (arith, same, range, slot_in-range b d lt near, level_falls b c d later begun inside)))
    ] refl

-- a slot that has a list is that of a level or of what is late
pub slot_known : (b d : ℕ) → d < b + 1073741824 → slot_of b d < 321
slot_known b d near =
    elim (leb d b) as (λ v. (leb d b ≡ v) → slot_of b d < 321) [
      | true ↦ (λ e. omega (arith, slot-late b d (grind (arith, nat_tests, e))))
      | false ↦ (λ e. omega (arith, slot_below b d (grind (arith, nat_tests, e)) near))
    ] refl
