-- How often each of some texts stands in a list.
use Rattle.std.specs.Prelude.{◌≡◌, ℕ, zero, suc, ◌+◌, ◌-◌, ◌^◌, min, if◌then◌else◌, List, [], ◌∷◌, fold, Vec, Option, Some, None, option_map}
use Rattle.std.specs.declared.cmp.Ordering.{Ordering}
use Rattle.std.specs.Ordering.{nat_cmp, ordering_then, is_lt}
use Rattle.std.specs.Borrow.{Bor}
use Rattle.std.specs.Cmp.Lexicographic.{slice_cmp}
use Rattle.std.specs.HashMap.{HashMap, get_by}
use Rattle.std.specs.Str.{bytes_eq}
use Rattle.sipd_report.specs.declared.totals.Total.{Total}

-- a count, at most the greatest that a u64 holds
abbrev pub capped : ℕ → ℕ
capped n = min n (2 ^ 64 - 1)

-- one more of a text, which goes last where there was none
abbrev pub one_more : List (List ℕ × ℕ) → List ℕ → List (List ℕ × ℕ)
one_more [] text = (text, 1) ∷ []
one_more (row ∷ rows) text = if bytes_eq text row.0 then (row.0, capped (row.1 + 1)) ∷ rows else row ∷ one_more rows text

-- how often each text stands in a list, in the order of their first places
abbrev pub totals_of : List (List ℕ) → List (List ℕ × ℕ)
totals_of texts = fold one_more [] texts

-- the total of a text, 0 where there is none
abbrev pub total_for : List ℕ → List (List ℕ × ℕ) → ℕ
total_for text [] = 0
total_for text (row ∷ rows) = if bytes_eq text row.0 then row.1 else total_for text rows

-- two totals: the greater count first, equal ones by their texts
abbrev pub order_of : List ℕ × ℕ → List ℕ × ℕ → Ordering
order_of a b = ordering_then (nat_cmp b.1 a.1) (slice_cmp nat_cmp a.0 b.0)

-- a total among others that stand in this order
abbrev pub placed : List ℕ × ℕ → List (List ℕ × ℕ) → List (List ℕ × ℕ)
placed total [] = total ∷ []
placed total (other ∷ others) = if is_lt (order_of total other) then total ∷ other ∷ others else other ∷ placed total others

-- totals in this order
abbrev pub in_order : List (List ℕ × ℕ) → List (List ℕ × ℕ)
in_order totals = fold (λ rows total. placed total rows) [] totals

-- ---- inside

-- a total as it is kept
abbrev pub shown_total : Total → List ℕ × ℕ
shown_total total = (total.text, total.count)

-- the total of a text that came once
abbrev pub first_total : List ℕ → Total
first_total text = record { text = text; count = 1 }

-- the first place of a text among some totals, if it stands there
abbrev pub first_place : List Total → List ℕ → Option ℕ
first_place [] text = None
first_place (total ∷ totals) text = if bytes_eq text total.text then Some 0 else option_map suc (first_place totals text)

-- the place to which a text leads
abbrev pub place_of : {A S : Type 0} → HashMap (Vec ℕ A) ℕ S → List ℕ → Option ℕ
place_of places text = get_by (λ key. bytes_eq text key.items) places

-- each text leads to its first place
pub record AreFirst (place : List ℕ → Option ℕ) (totals : List Total) : Type 0 where
  pub first : (text : List ℕ) → place text ≡ first_place totals text

-- one more at a place
abbrev pub counted_at : ℕ → List Total → List Total
counted_at place [] = []
counted_at zero (total ∷ totals) = record total { count = capped (total.count + 1) } ∷ totals
counted_at (suc place) (total ∷ totals) = total ∷ counted_at place totals

-- one that is lent
abbrev pub lent_total : Bor Total → List ℕ × ℕ
lent_total total = shown_total total.now

-- where a total belongs among others that stand in order
abbrev pub place_among : List ℕ × ℕ → List (Bor Total) → ℕ
place_among total [] = 0
place_among total (other ∷ others) = if is_lt (order_of total (lent_total other)) then 0 else place_among total others + 1
