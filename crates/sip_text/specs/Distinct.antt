-- Texts of which no two are equal without case (RFC 3261 7.3.1).
use Rattle.std.specs.Prelude.{ℕ, Bool, true, ◌&&◌, not, List, [], ◌∷◌}
use Rattle.std.specs.declared.cmp.Ordering.{Ordering}
use Rattle.std.specs.Ordering.{nat_cmp}
use Rattle.std.specs.Cmp.Lexicographic.{slice_cmp}
use Rattle.std.specs.List.{list_any}
use Rattle.sip_text.specs.Words.{without_case, is_same_text}

-- the order of two texts without case: of the first bytes of their lower cases that differ, else of their
-- lengths (RFC 3261 7.3.1; the order itself is this project's)
abbrev pub order_without_case : List ℕ → List ℕ → Ordering
order_without_case left right = slice_cmp nat_cmp (without_case left) (without_case right)

-- whether no text stands twice, whatever its case (RFC 3261 7.3.1)
abbrev pub all_differ : List (List ℕ) → Bool
all_differ [] = true
all_differ (text ∷ others) = not (list_any (λ other. is_same_text text other) others) && all_differ others
