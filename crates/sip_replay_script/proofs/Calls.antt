-- What is counted of calls.
use Rattle.std.proofs.Common.{◌≡◌, ◌⊎◌, inl, inr, ℕ, ◌+◌, ◌-◌, ◌≤◌, Option, None, Some, refl, sym, ◌∙◌, ap, arith}
use Rattle.sip_replay_script.specs.Devices.{later, IsAsked}
use Rattle.sip_replay_script.specs.Lines.{IsSpent}

-- one ask more, and one less that is left
pub later_less : (calls more : Option ℕ) (left fewer : ℕ) → more ≡ later 1 calls → left ≡ fewer + 1 → later fewer more ≡ later left calls
later_less None more left fewer h1 h2 = ap (later fewer) h1
later_less (Some n) more left fewer h1 h2 = let e : (n + 1) + fewer ≡ n + left = omega (arith, h2) in ap (later fewer) h1 ∙ ap (λ m. Some m) e

-- so many calls more
pub later_more : (calls mid new : Option ℕ) (n : ℕ) → mid ≡ later n calls → new ≡ later 1 mid → new ≡ later (n + 1) calls
later_more None mid new n h1 h2 = h2 ∙ ap (later 1) h1
later_more (Some m) mid new n h1 h2 = let e : (m + n) + 1 ≡ m + (n + 1) = omega arith in h2 ∙ ap (later 1) h1 ∙ ap (λ k. Some k) e

-- none is left
none_left : (new : Option ℕ) → later 0 new ≡ new
none_left None = refl
none_left (Some n) = let e : n + 0 ≡ n = omega arith in ap (λ m. Some m) e

-- where it may not be asked any more, it was asked as often as it may be
pub spent_at_last : (F : Type 0) (old new : Option ℕ) (most left : ℕ) → later left new ≡ later most old → IsSpent F left → F ⊎ (new ≡ later most old)
spent_at_last F old new most left h (inl f) = inl f
spent_at_last F old new most left h (inr z) = inr (sym (none_left new) ∙ ap (λ n. later n new) (sym z) ∙ h)

some_is : {m n : ℕ} → Some m ≡ Some n → m ≡ n
some_is h = cc

-- what was counted, from how many asks are left
pub asked_so_far : (old new : Option ℕ) (most left : ℕ) → later left new ≡ later most old → left ≤ most → IsAsked most old new
asked_so_far None None most left h le = record { times = 0; within = omega arith; counted = refl }
asked_so_far None (Some n) most left h le = absurd (cc)
asked_so_far (Some o) None most left h le = absurd (cc)
asked_so_far (Some o) (Some n) most left h le =
    let sum : n + left ≡ o + most = some_is h in
    let same : n ≡ o + (most - left) = omega (arith, sum, le) in
    record { times = most - left; within = omega arith; counted = ap (λ m. Some m) same }

-- not asked at all
pub never_asked : (o : Option ℕ) (most : ℕ) → IsAsked most o o
never_asked None most = record { times = 0; within = omega arith; counted = refl }
never_asked (Some n) most = record { times = 0; within = omega arith; counted = sym (none_left (Some n)) }
