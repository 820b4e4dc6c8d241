-- Which calls of a day a later step may still change, by their places.
use Rattle.std.specs.Prelude.{ℕ, zero, suc, ◌&&◌, Bool, true, false, not, List, [], ◌∷◌, Option, None, Some, is_some, if◌then◌else◌}
use Rattle.sip_days.specs.Calls.{is_taken}
use Rattle.sip_days.specs.declared.call.Answer.{Answer}
use Rattle.sip_days.specs.declared.call.Call.{Call}
use Rattle.sip_days.specs.declared.call.Ending.{Ending}

-- one that wasn't answered, or was taken and has no end; where the answer names no dialog, no BYE ends it (RFC 3261 15)
abbrev pub may_change : Option Answer → Option Ending → Bool
may_change None ending = true
may_change (Some answer) ending = is_taken answer.status && is_some answer.dialog && not (is_some ending)

abbrev pub is_open : Call → Bool
is_open call = may_change call.answer call.ending

-- ---- places in a list

-- the places of those that have a property, where the first one stands in this place
abbrev pub places_from : {X : Type 0} → (X → Bool) → ℕ → List X → List ℕ
places_from p n [] = []
places_from p n (x ∷ xs) = if p x then n ∷ places_from p (suc n) xs else places_from p (suc n) xs

-- the one of a place is made another
abbrev pub with_one : {X : Type 0} → (X → X) → ℕ → List X → List X
with_one f n [] = []
with_one f zero (x ∷ xs) = f x ∷ xs
with_one f (suc n) (x ∷ xs) = x ∷ with_one f n xs

-- those of places are, one after the other
abbrev pub with_each : {X : Type 0} → (X → X) → List ℕ → List X → List X
with_each f [] xs = xs
with_each f (n ∷ ns) xs = with_each f ns (with_one f n xs)

-- whether one stands in a place, and has a property
abbrev pub holds_at : {X : Type 0} → (X → Bool) → List X → ℕ → Bool
holds_at p [] n = false
holds_at p (x ∷ xs) zero = p x
holds_at p (x ∷ xs) (suc n) = holds_at p xs n
