-- Each day has its date.
use Rattle.std.proofs.Common.{◌≡◌, ℕ, zero, suc, ◌+◌, ◌-◌, ◌*◌, ◌/◌, ◌%◌, ◌≤◌, Bool, true, false, not, ◌&&◌, ◌||◌, List, [], ◌∷◌, ◌++◌, take, length, refl, sym, ◌∙◌, ap}
use Rattle.std.proofs.Common.{subst, arith, add-one, append_assoc, if◌then◌else◌}
use Rattle.std.specs.Prelude.{nat_lt, ◌==◌, sum}
use Rattle.std.proofs.lemmas.Bool.{ltb-false}
use Rattle.std.proofs.lemmas.Bool.Decides.{nat_tests}
use Rattle.std.proofs.lemmas.List.{take_at, length_push}
use Rattle.std.proofs.lemmas.List.Sums.{sum_by-append}
use Rattle.sipd_report.specs.Calendar.{is_leap_year, days_of_year, days_of_months, month_among, day_of_year, day_behind, date_of, leap_years_to, days_before_year}
use Rattle.sipd_report.specs.Calendar.{day_number}
use Rattle.sipd_report.proofs.Dates.{this_year, later_year, last_year}

-- the days before the month that is found, and those of it
months_add : (done months : List ℕ) (month day : ℕ) → length done + 1 ≡ month
    → sum (take ((month_among months month day).0 - 1) (done ++ months)) + ((month_among months month day).1 - 1) ≡ sum done + day
months_add done [] month day is =
    let before : length done ≡ month - 1 = omega (arith, is) in
    let front : take (month - 1) (done ++ []) ≡ done = take_at done [] (month - 1) before in
    let all : sum (take (month - 1) (done ++ [])) ≡ sum done = ap sum front in
    omega (arith, all)
months_add done (days ∷ more) month day is = by (nat_lt day days) refl (months_add (done ++ days ∷ []) more (month + 1) (day - days)
    (ap (λ n. n + 1) (length_push done days ∙ is)))
  where
    by : (within : Bool) → nat_lt day days ≡ within
        → (let found : ℕ × ℕ = month_among more (month + 1) (day - days) in
        sum (take (found.0 - 1) ((done ++ days ∷ []) ++ more)) + (found.1 - 1) ≡ sum (done ++ days ∷ []) + (day - days))
        → (let found : ℕ × ℕ = if within then (month, day + 1) else month_among more (month + 1) (day - days) in
        sum (take (found.0 - 1) (done ++ days ∷ more)) + (found.1 - 1) ≡ sum done + day)
    by true e rest =
        let before : length done ≡ month - 1 = omega (arith, is) in
        let all : sum (take (month - 1) (done ++ days ∷ more)) ≡ sum done = ap sum (take_at done (days ∷ more) (month - 1) before) in
        omega (arith, all)
    by false e rest =
        let most : days ≤ day = ltb-false day days e in
        let found : ℕ × ℕ = month_among more (month + 1) (day - days) in
        let total : sum (done ++ days ∷ []) ≡ sum done + (0 + days) = sum_by-append (λ n. n) done (days ∷ []) in
        let same : sum (take (found.0 - 1) (done ++ days ∷ more)) ≡ sum (take (found.0 - 1) ((done ++ days ∷ []) ++ more)) =
        ap (λ l. sum (take (found.0 - 1) l)) (sym (append_assoc done (days ∷ []) more)) in
        omega (arith, most, rest, total, same)

in_year : (year day : ℕ) → day_number (day_of_year year day) ≡ days_before_year year + day
in_year year day =
    let h : sum (take ((month_among (days_of_months year) 1 day).0 - 1) (days_of_months year)) + ((month_among (days_of_months year) 1 day).1 - 1) ≡ 0 + day =
    months_add [] (days_of_months year) 1 day refl in
    omega (arith, h)

-- one leap year more, or not
leap_more : (k : ℕ) → leap_years_to (k + 1) ≡ leap_years_to k + (if is_leap_year (k + 1) then 1 else 0)
leap_more k = by ((k + 1) % 4 == 0) ((k + 1) % 100 == 0) ((k + 1) % 400 == 0) refl refl refl
  where
    by : (a b c : Bool) → ((k + 1) % 4 == 0) ≡ a → ((k + 1) % 100 == 0) ≡ b → ((k + 1) % 400 == 0) ≡ c
        → leap_years_to (k + 1) ≡ leap_years_to k + (if (a && not b) || c then 1 else 0)
    by true true true ea eb ec = grind (arith, nat_tests, ea, eb, ec)
    by true true false ea eb ec = grind (arith, nat_tests, ea, eb, ec)
    by true false true ea eb ec = grind (arith, nat_tests, ea, eb, ec)
    by true false false ea eb ec = grind (arith, nat_tests, ea, eb, ec)
    by false true true ea eb ec = grind (arith, nat_tests, ea, eb, ec)
    by false true false ea eb ec = grind (arith, nat_tests, ea, eb, ec)
    by false false true ea eb ec = grind (arith, nat_tests, ea, eb, ec)
    by false false false ea eb ec = grind (arith, nat_tests, ea, eb, ec)

year_more : (k : ℕ) → days_before_year (suc k + 1) ≡ days_before_year (suc k) + days_of_year (suc k)
year_more k = subst (λ y. days_before_year (suc k + 1) ≡ days_before_year (suc k) + days_of_year y) (add-one k) (by (is_leap_year (k + 1)) (leap_more k))
  where
    by : (leap : Bool) → leap_years_to (k + 1) ≡ leap_years_to k + (if leap then 1 else 0)
        → days_before_year (suc k + 1) ≡ days_before_year (suc k) + (if leap then 366 else 365)
    by true h = omega (arith, h)
    by false h = omega (arith, h)

years_add : (n k day : ℕ) → day_number (day_behind n (suc k) day) ≡ days_before_year (suc k) + day
years_add zero k day = ap day_number (last_year 0 (suc k) day refl) ∙ in_year (suc k) day
years_add (suc n) k day = by (nat_lt day (days_of_year (suc k))) refl (years_add n (suc k) (day - days_of_year (suc k)))
  where
    by : (within : Bool) → nat_lt day (days_of_year (suc k)) ≡ within
        → day_number (day_behind n (suc (suc k)) (day - days_of_year (suc k))) ≡ days_before_year (suc (suc k)) + (day - days_of_year (suc k))
        → day_number (day_behind (suc n) (suc k) day) ≡ days_before_year (suc k) + day
    by true e rest = ap day_number (this_year (suc n) n (suc k) day refl e) ∙ in_year (suc k) day
    by false e rest =
        let most : days_of_year (suc k) ≤ day = ltb-false day (days_of_year (suc k)) e in
        let next : days_before_year (suc (suc k)) ≡ days_before_year (suc k) + days_of_year (suc k) = ap days_before_year (sym (add-one (suc k))) ∙ year_more k in
        ap day_number (later_year (suc n) n (suc k) day refl e) ∙ ap (λ y. day_number (day_behind n y (day - days_of_year (suc k)))) (add-one (suc k)) ∙ rest
        ∙ omega (arith, most, next)

cycles : (c r : ℕ) → days_before_year (suc (1969 + 400 * c)) + r ≡ 146097 * c + r + 719162
cycles c r = omega arith

-- the date of a day is that day's
pub date_is_days : (days : ℕ) → day_number (date_of days) ≡ days + 719162
date_is_days days =
    let whole : 146097 * (days / 146097) + days % 146097 ≡ days = omega arith in
    let start : 1970 + 400 * (days / 146097) ≡ suc (1969 + 400 * (days / 146097)) = omega arith in
    ap (λ y. day_number (day_behind 400 y (days % 146097))) start ∙ years_add 400 (1969 + 400 * (days / 146097)) (days % 146097) ∙ cycles (days / 146097) (days % 146097)
    ∙ ap (λ n. n + 719162) whole
