-- Places of rules, counted from 0, and how they are filed.
use Rattle.std.specs.Prelude.{◌≡◌, ℕ, ◌+◌, Bool, nat_eq, if◌then◌else◌, List, [], ◌∷◌}
use Rattle.std.specs.Option.{unwrap_or}
use Rattle.std.specs.List.{position_or_len}
use Rattle.std.specs.Map.{lookup}
use Rattle.sip_policy.specs.declared.rule.Rule.{Rule}

-- the places of the rules that pass a test, rising, where the first rule stands at this place
abbrev pub places_from : ℕ → (Rule → Bool) → List Rule → List ℕ
places_from at test [] = []
places_from at test (rule ∷ rules) = if test rule then at ∷ places_from (at + 1) test rules else places_from (at + 1) test rules

-- the places of the rules that pass a test, rising
abbrev pub places_of : (Rule → Bool) → List Rule → List ℕ
places_of test rules = places_from 0 test rules

-- the place of the first rule that passes a test, or the number of rules where none does
abbrev pub first_place : (Rule → Bool) → List Rule → ℕ
first_place test rules = position_or_len test rules

-- the places that are filed under a code
abbrev pub filed : ℕ → List (ℕ × List ℕ) → List ℕ
filed code entries = unwrap_or (lookup (nat_eq code) entries) []

-- under each code stand the places of the rules that are of it
pub record AreFiled (is_of : ℕ → Rule → Bool) (rules : List Rule) (entries : List (ℕ × List ℕ)) : Type 0 where
  pub places : (code : ℕ) → filed code entries ≡ places_of (is_of code) rules
