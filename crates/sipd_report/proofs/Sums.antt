-- The days of some months together.
use Rattle.std.proofs.Common.{◌≡◌, ◌∙◌, ◌<◌, ◌≤◌, ◌^◌, ℕ, Bool, true, false, List, [], ◌∷◌, take, ap, arith}
use Rattle.std.specs.Prelude.{sum, if◌then◌else◌}
use Rattle.std.proofs.lemmas.List.Sums.{sum_by-take-le}
use Rattle.sipd_report.specs.Calendar.{days_of_months, is_leap_year}

-- a year has fewer than 400 days
of_months : (leap : Bool) → sum (31 ∷ (if leap then 29 else 28) ∷ 31 ∷ 30 ∷ 31 ∷ 30 ∷ 31 ∷ 31 ∷ 30 ∷ 31 ∷ 30 ∷ 31 ∷ []) < 400
of_months true = omega arith
of_months false = omega arith

less : (a b c : ℕ) → a ≤ b → b < c → a < c
less a b c h k = omega (arith, h, k)

year_is_short : (n year : ℕ) → sum (take n (days_of_months year)) < 400
year_is_short n year =
    less (sum (take n (days_of_months year))) (sum (days_of_months year)) 400 (sum_by-take-le (λ (x : ℕ). x) (days_of_months year) n)
    (of_months (is_leap_year year))

-- the first months of a year
pub front_fits : (months front : List ℕ) (count year : ℕ) → months ≡ days_of_months year → front ≡ take count months → sum front < 2 ^ 64
front_fits months front count year are is =
    let h = year_is_short count year in
    let same : sum front ≡ sum (take count (days_of_months year)) = ap sum (is ∙ ap (take count) are) in
    omega (arith, h, same)

pub front_is_short : (months front : List ℕ) (count year days : ℕ) → months ≡ days_of_months year → front ≡ take count months → days ≡ sum front
    → days < 400
front_is_short months front count year days are is added =
    let h = year_is_short count year in
    let same : days ≡ sum (take count (days_of_months year)) = added ∙ ap sum (is ∙ ap (take count) are) in
    omega (arith, h, same)
