-- What an allowance comes to over time.
use Rattle.std.proofs.Common.{◌≡◌, ℕ, ◌+◌, ◌*◌, ◌-◌, ◌<◌, ◌≤◌, ◌↔◌, zero, suc, Bool, true, false, IsTrue, List, [], ◌∷◌, length, slice_get, Some, if◌then◌else◌, refl}
use Rattle.std.proofs.Common.{sym, ap, subst, ◌∙◌, arith, mul-le-mul_left}
use Rattle.std.proofs.lemmas.Bool.Decides.{nat_tests}
use Rattle.std.proofs.lemmas.Option.{slice_get_within}
use Rattle.sip_guard.specs.declared.limit.Limit.{Limit}
use Rattle.sip_guard.specs.Allowance.{admits, behind, owed}
use Rattle.sip_guard.specs.Rates.{used_by, handed_on, IsWithin, AllWithin, AreRising, AreApart}

-- the number of a source all of whose datagrams were handed on
abbrev pub peak : Limit → List ℕ → ℕ
peak limit [] = 0
peak limit (moment ∷ before) = behind limit (peak limit before) moment

admits_is : (limit : Limit) (used now : ℕ) → IsTrue (admits limit used now) → owed limit used now + 1000 ≤ 1000 * limit.burst
admits_is limit used now h = grind (arith, nat_tests)

is_admitted : (limit : Limit) (used now : ℕ) → owed limit used now + 1000 ≤ 1000 * limit.burst → IsTrue (admits limit used now)
is_admitted limit used now h = grind (arith, nat_tests)

some_is : (x y : ℕ) → Some x ≡ Some y → x ≡ y
some_is x y e = cc

-- the number is at least what each of the datagrams, with those behind it, makes it
reaches : (limit : Limit) (moments : List ℕ) (k moment : ℕ) → slice_get moments k ≡ Some moment → 1000 * (k + 1) + limit.per_second * moment ≤ peak limit moments
reaches limit [] k moment e = absurd (cc)
reaches limit (m ∷ before) zero moment e =
    let same : limit.per_second * m ≡ limit.per_second * moment = ap (λ (n : ℕ). limit.per_second * n) (some_is m moment e) in
    omega (arith, same)
reaches limit (m ∷ before) (suc k) moment e = omega (arith, reaches limit before k moment e)

-- and no more than the greatest of these
is_reached : (limit : Limit) (moments : List ℕ) (most : ℕ) → ((k moment : ℕ) → slice_get moments k ≡ Some moment → 1000 * (k + 1) + limit.per_second * moment ≤ most)
    → peak limit moments ≤ most
is_reached limit [] most h = omega arith
is_reached limit (m ∷ before) most h =
    let first = h zero m refl in
    let rest = is_reached limit before (most - 1000) (λ k moment e. omega (arith, h (suc k) moment e)) in
    omega (arith, first, rest)

within : (limit : Limit) (before : List ℕ) (now : ℕ) → IsTrue (admits limit (peak limit before) now) → IsWithin limit before now
within limit before now h zero moment e =
    let same : limit.per_second * now ≡ limit.per_second * moment = ap (λ (n : ℕ). limit.per_second * n) (some_is now moment e) in
    omega (arith, admits_is limit (peak limit before) now h, same)
within limit before now h (suc k) moment e = omega (arith, admits_is limit (peak limit before) now h, reaches limit before k moment e)

admitted : (limit : Limit) (before : List ℕ) (now : ℕ) → IsWithin limit before now → IsTrue (admits limit (peak limit before) now)
admitted limit before now h =
    let own = h zero now refl in
    let rest = is_reached limit before (limit.per_second * now + 1000 * limit.burst - 1000) (λ k moment e. omega (arith, h (suc k) moment e)) in
    is_admitted limit (peak limit before) now (omega (arith, own, rest))

-- what wasn't handed on leaves the number as it was
peak_is : (limit : Limit) (moments : List ℕ) → peak limit (handed_on limit moments) ≡ used_by limit moments
peak_is limit [] = refl
peak_is limit (m ∷ before) = by (admits limit (used_by limit before) m) (peak_is limit before)
  where
    by : (b : Bool) → peak limit (handed_on limit before) ≡ used_by limit before
        → peak limit (if b then m ∷ handed_on limit before else handed_on limit before) ≡ (if b then behind limit (used_by limit before) m else used_by limit before)
    by true e = ap (λ (n : ℕ). behind limit n m) e
    by false e = e

pub exact : (limit : Limit) (moments : List ℕ) (now : ℕ) → IsTrue (admits limit (used_by limit moments) now) ↔ IsWithin limit (handed_on limit moments) now
exact limit moments now = (
  λ h. within limit (handed_on limit moments) now (subst (λ (n : ℕ). IsTrue (admits limit n now)) (sym (peak_is limit moments)) h),
  λ h. subst (λ (n : ℕ). IsTrue (admits limit n now)) (peak_is limit moments) (admitted limit (handed_on limit moments) now h),
)

pub bounded : (limit : Limit) (moments : List ℕ) → AllWithin limit (handed_on limit moments)
bounded limit [] = tt
bounded limit (m ∷ before) = by (admits limit (used_by limit before) m) (exact limit before m).0 (bounded limit before)
  where
    by : (b : Bool) → (IsTrue b → IsWithin limit (handed_on limit before) m) → AllWithin limit (handed_on limit before)
        → AllWithin limit (if b then m ∷ handed_on limit before else handed_on limit before)
    by true own rest = (own refl, rest)
    by false own rest = rest

pub whole : (limit : Limit) (moments : List ℕ) → AllWithin limit moments → handed_on limit moments ≡ moments
whole limit [] h = refl
whole limit (m ∷ before) h =
    let rest = whole limit before h.1 in
    let own : admits limit (used_by limit before) m ≡ true = (exact limit before m).1 (subst (λ (l : List ℕ). IsWithin limit l m) (sym rest) h.0) in
    ap (λ (b : Bool). if b then m ∷ handed_on limit before else handed_on limit before) own ∙ ap (λ (l : List ℕ). m ∷ l) rest

-- ---- who sends few, or seldom

few_within : (limit : Limit) (before : List ℕ) (now : ℕ) → AreRising (now ∷ before) → length before < limit.burst → IsWithin limit before now
few_within limit before now rising few zero moment e =
    let same : limit.per_second * now ≡ limit.per_second * moment = ap (λ (n : ℕ). limit.per_second * n) (some_is now moment e) in
    omega (arith, few, same)
few_within limit before now rising few (suc k) moment e =
    omega (arith, few, slice_get_within before k moment e, mul-le-mul_left limit.per_second (rising.0 k moment e))

pub few_all_within : (limit : Limit) (moments : List ℕ) → AreRising moments → length moments ≤ limit.burst → AllWithin limit moments
few_all_within limit [] rising few = tt
few_all_within limit (m ∷ before) rising few = (few_within limit before m rising (omega (arith, few)), few_all_within limit before rising.1 (omega (arith, few)))

-- each datagram of a source that sends seldom leaves time for all that came since
apart_by : (limit : Limit) (before : List ℕ) (now k moment : ℕ) → AreApart limit (now ∷ before) → slice_get before k ≡ Some moment
    → 1000 * (k + 1) + limit.per_second * moment ≤ limit.per_second * now
apart_by limit [] now k moment apart e = absurd (cc)
apart_by limit (m ∷ before) now zero moment apart e =
    let same : limit.per_second * m ≡ limit.per_second * moment = ap (λ (n : ℕ). limit.per_second * n) (some_is m moment e) in
    omega (arith, apart.0, same)
apart_by limit (m ∷ before) now (suc k) moment apart e = omega (arith, apart.0, apart_by limit before m k moment apart.1 e)

apart_within : (limit : Limit) (before : List ℕ) (now : ℕ) → 1 ≤ limit.burst → AreApart limit (now ∷ before) → IsWithin limit before now
apart_within limit before now some apart zero moment e =
    let same : limit.per_second * now ≡ limit.per_second * moment = ap (λ (n : ℕ). limit.per_second * n) (some_is now moment e) in
    omega (arith, some, same)
apart_within limit before now some apart (suc k) moment e = omega (arith, some, apart_by limit before now k moment apart e)

pub apart_all_within : (limit : Limit) (moments : List ℕ) → 1 ≤ limit.burst → AreApart limit moments → AllWithin limit moments
apart_all_within limit [] some apart = tt
apart_all_within limit (m ∷ []) some apart = (apart_within limit [] m some apart, tt)
apart_all_within limit (m ∷ before ∷ rest) some apart = (apart_within limit (before ∷ rest) m some apart, apart_all_within limit (before ∷ rest) some apart.1)

-- what two numbers are past a moment by alike, they are past a later one by alike
pub later_alike : (limit : Limit) (used other now later : ℕ) → now ≤ later → owed limit used now ≡ owed limit other now → owed limit used later ≡ owed limit other later
later_alike limit used other now later rises alike = omega (arith, alike, mul-le-mul_left limit.per_second rises)
