-- What an allowance comes to over time. The moments at which a source sent are listed the newest first.
use Rattle.std.specs.Prelude.{◌≡◌, ℕ, ◌+◌, ◌*◌, ◌≤◌, List, [], ◌∷◌, Some, slice_get, if◌then◌else◌}
use Rattle.sip_guard.specs.Allowance.{admits, behind}
use Rattle.sip_guard.specs.declared.limit.Limit.{Limit}

-- the number of a source that sent at these moments
abbrev pub used_by : Limit → List ℕ → ℕ
used_by limit [] = 0
used_by limit (moment ∷ before) = if admits limit (used_by limit before) moment then behind limit (used_by limit before) moment else used_by limit before

-- those of its datagrams that are handed on
abbrev pub handed_on : Limit → List ℕ → List ℕ
handed_on limit [] = []
handed_on limit (moment ∷ before) = if admits limit (used_by limit before) moment then moment ∷ handed_on limit before else handed_on limit before

-- from any of these moments on up to now there are, with the one at each end, no more datagrams than are allowed at once and in
-- that time
abbrev pub IsWithin : Limit → List ℕ → ℕ → Type 0
IsWithin limit before now = (k moment : ℕ) → slice_get (now ∷ before) k ≡ Some moment
    → 1000 * (k + 1) + limit.per_second * moment ≤ limit.per_second * now + 1000 * limit.burst

-- the same of each of them
abbrev pub AllWithin : Limit → List ℕ → Type 0
AllWithin limit [] = Unit {0}
AllWithin limit (moment ∷ before) = IsWithin limit before moment × AllWithin limit before

-- no moment is earlier than the one before it
abbrev pub AreRising : List ℕ → Type 0
AreRising [] = Unit {0}
AreRising (moment ∷ before) = ((k earlier : ℕ) → slice_get before k ≡ Some earlier → earlier ≤ moment) × AreRising before

-- each comes at least the time that one datagram is allowed behind the one before it
abbrev pub AreApart : Limit → List ℕ → Type 0
AreApart limit [] = Unit {0}
AreApart limit (moment ∷ []) = Unit {0}
AreApart limit (moment ∷ earlier ∷ before) = (1000 + limit.per_second * earlier ≤ limit.per_second * moment) × AreApart limit (earlier ∷ before)
