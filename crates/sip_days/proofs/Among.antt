-- Which addresses of record are among those of a day, and how often.
use Rattle.std.proofs.Common.{◌≡◌, ◌≤◌, ◌+◌, ℕ, ℤ, Bool, true, false, ◌&&◌, ◌||◌, cond, List, [], ◌∷◌, Option, refl, sym, ◌∙◌, ap, subst, arith, count_by}
use Rattle.std.specs.Str.{bytes_eq}
use Rattle.std.specs.List.{AllByRecursion}
use Rattle.std.proofs.lemmas.Bool.Decides.{nat_tests}
use Rattle.std.proofs.lemmas.List.Sums.{sum_by-cons}
use Rattle.std.proofs.lemmas.Slice.Eq.{bytes_eq-Decides}
use Rattle.sip_uri.specs.declared.aor.Aor.{Aor}
use Rattle.sip_uri.specs.Aor.{is_same_aor}
use Rattle.sip_audit.specs.declared.record.Record.{Record}
use Rattle.sip_event.specs.declared.event.Event.{Event}
use Rattle.sip_listener.specs.Heard.{Heard}
use Rattle.sip_days.specs.declared.registered.Registered.{Registered}
use Rattle.sip_days.specs.Phones.{if_registered, is_of, is_registered, phones_behind, phones_of, phones_with, registered_by, with_registered}
use Rattle.sip_days.specs.WhoRegistered.{is_among}

-- ---- addresses of record

pub same_is : (left right : Aor) → is_same_aor left right ≡ true → left ≡ right
same_is left right e =
    let user : bytes_eq left.user right.user ≡ true = grind (arith, nat_tests) in
    let host : bytes_eq left.host right.host ≡ true = grind (arith, nat_tests) in
    let first : left ≡ record { user = right.user; host = left.host } = ap (λ u. record { user = u; host = left.host }) ((bytes_eq-Decides left.user right.user).0 user)
    in
    first ∙ ap (λ h. record { user = right.user; host = h }) ((bytes_eq-Decides left.host right.host).0 host)

pub same_itself : (aor : Aor) → is_same_aor aor aor ≡ true
same_itself aor =
    let user = (bytes_eq-Decides aor.user aor.user).1 refl in
    let host = (bytes_eq-Decides aor.host aor.host).1 refl in
    rw user host

-- ---- among some

pub or_behind : (a b : Bool) → b ≡ true → (a || b) ≡ true
or_behind true b h = refl
or_behind false b h = h

or_before : (a b : Bool) → a ≡ true → (a || b) ≡ true
or_before true b h = refl
or_before false b h = absurd cc

or_further : (a b c : Bool) → (a || b) ≡ true → (b ≡ true → c ≡ true) → (a || c) ≡ true
or_further true b c h further = refl
or_further false b c h further = further h

-- who is among some still is once another is put among them
pub among_put : (aor : Aor) (new : Registered) (rows : List Registered) → is_among aor rows ≡ true → is_among aor (with_registered new rows) ≡ true
among_put aor new [] h = absurd cc
among_put aor new (row ∷ rows) h = by_test (λ there. among_put aor new rows there) (is_of new.aor row) refl where
  by_test : (is_among aor rows ≡ true → is_among aor (with_registered new rows) ≡ true) → (t : Bool) → is_of new.aor row ≡ t
      → is_among aor (cond t (new ∷ rows) (row ∷ with_registered new rows)) ≡ true
  by_test further true same = subst (λ (a : Aor). (is_same_aor a aor || is_among aor rows) ≡ true) (same_is row.aor new.aor same) h
  by_test further false other = or_further (is_of aor row) (is_among aor rows) (is_among aor (with_registered new rows)) h further

-- and so is who is put
pub among_new : (new : Registered) (rows : List Registered) → is_among new.aor (with_registered new rows) ≡ true
among_new new [] = or_before (is_of new.aor new) false (same_itself new.aor)
among_new new (row ∷ rows) = by_test (among_new new rows) (is_of new.aor row) refl where
  by_test : is_among new.aor (with_registered new rows) ≡ true → (t : Bool) → is_of new.aor row ≡ t → is_among new.aor (cond t (new ∷ rows) (row ∷ with_registered new rows)) ≡ true
  by_test rest true same = or_before (is_of new.aor new) (is_among new.aor rows) (same_itself new.aor)
  by_test rest false other = or_behind (is_of new.aor row) (is_among new.aor (with_registered new rows)) rest

among_if : (aor : Aor) (offset : ℤ) (event : Option Event) (r : Record) (rows : List Registered) → is_among aor rows ≡ true
    → is_among aor (if_registered offset event r rows) ≡ true
among_if aor offset event r rows h = by_test (is_registered r) where
  by_test : (t : Bool) → is_among aor (cond t (with_registered (registered_by offset event r) rows) rows) ≡ true
  by_test true = among_put aor (registered_by offset event r) rows h
  by_test false = h

-- who is among those of a day still is behind another step
pub among_more : (aor : Aor) (offset : ℤ) (event : Option Event) (records : List Record) (rows : List Registered) → is_among aor rows ≡ true
    → is_among aor (phones_with offset event records rows) ≡ true
among_more aor offset event [] rows h = h
among_more aor offset event (r ∷ records) rows h =
    among_more aor offset event records (if_registered offset event r rows) (among_if aor offset event r rows h)

-- and so is whom a record registers
pub among_registered : (offset : ℤ) (event : Option Event) (r : Record) (records : List Record) (rows : List Registered) → is_registered r ≡ true
    → is_among r.target (phones_with offset event (r ∷ records) rows) ≡ true
among_registered offset event r records rows is =
    among_more r.target offset event records (if_registered offset event r rows)
    (subst (λ (t : Bool). is_among r.target (cond t (with_registered (registered_by offset event r) rows) rows) ≡ true) (sym is)
    (among_new (registered_by offset event r) rows))

-- ---- of each

-- what holds of all, and of one that is put among them, holds of all then
put_all : (P : Registered → Type 0) (new : Registered) (rows : List Registered) → P new → AllByRecursion P rows → AllByRecursion P (with_registered new rows)
put_all P new [] h all = (h, tt)
put_all P new (row ∷ rows) h all = by_test (put_all P new rows h all.1) (is_of new.aor row) where
  by_test : AllByRecursion P (with_registered new rows) → (t : Bool) → AllByRecursion P (cond t (new ∷ rows) (row ∷ with_registered new rows))
  by_test rest true = (h, all.1)
  by_test rest false = (all.0, rest)

if_all : (P : Registered → Type 0) (offset : ℤ) (event : Option Event) (r : Record) (rows : List Registered)
    → (is_registered r ≡ true → P (registered_by offset event r)) → AllByRecursion P rows → AllByRecursion P (if_registered offset event r rows)
if_all P offset event r rows h all = by_test (is_registered r) refl where
  by_test : (t : Bool) → is_registered r ≡ t → AllByRecursion P (cond t (with_registered (registered_by offset event r) rows) rows)
  by_test true is = put_all P (registered_by offset event r) rows (h is) all
  by_test false is = all

pub all_more : (P : Registered → Type 0) (offset : ℤ) (event : Option Event) (records : List Record) (rows : List Registered)
    → AllByRecursion (λ (r : Record). is_registered r ≡ true → P (registered_by offset event r)) records → AllByRecursion P rows
    → AllByRecursion P (phones_with offset event records rows)
all_more P offset event [] rows h all = all
all_more P offset event (r ∷ records) rows h all =
    all_more P offset event records (if_registered offset event r rows) h.1 (if_all P offset event r rows h.0 all)

-- ---- once

-- one more of them, or as many
abbrev one_if : Bool → ℕ
one_if b = cond b 1 0

-- how many pass a test, by recursion
abbrev times : (Registered → Bool) → List Registered → ℕ
times p [] = 0
times p (row ∷ rows) = one_if (p row) + times p rows

counted : (p : Registered → Bool) (rows : List Registered) → count_by p rows ≡ times p rows
counted p [] = refl
counted p (row ∷ rows) = sum_by-cons (λ x. cond (p x) 1 0) row rows ∙ ap (λ (n : ℕ). one_if (p row) + n) (counted p rows)

-- a list in which somebody stands once at most
abbrev IsOnce : Aor → List Registered → Type 0
IsOnce aor rows = times (is_of aor) rows ≤ 1

none_less : (n : ℕ) → 0 + n ≤ 1 → n ≤ 1
none_less n h = omega (arith, h)

none_more : (n : ℕ) → n ≤ 1 → 0 + n ≤ 1
none_more n h = omega (arith, h)

-- who isn't the one that is put stands as often as before
others_stay : (aor : Aor) (new : Registered) (rows : List Registered) → is_of aor new ≡ false
    → times (is_of aor) (with_registered new rows) ≡ times (is_of aor) rows
others_stay aor new [] other = ap (λ (t : Bool). one_if t + 0) other
others_stay aor new (row ∷ rows) other = by_test (others_stay aor new rows other) (is_of new.aor row) refl where
  by_test : times (is_of aor) (with_registered new rows) ≡ times (is_of aor) rows → (t : Bool) → is_of new.aor row ≡ t
      → times (is_of aor) (cond t (new ∷ rows) (row ∷ with_registered new rows)) ≡ times (is_of aor) (row ∷ rows)
  by_test rest true same = ap (λ (a : Aor). one_if (is_same_aor a aor) + times (is_of aor) rows) (sym (same_is row.aor new.aor same))
  by_test rest false apart = ap (λ (n : ℕ). one_if (is_of aor row) + n) rest

-- and the one that is put stands there once, if it stood so before
one_stays : (new : Registered) (rows : List Registered) → IsOnce new.aor rows → IsOnce new.aor (with_registered new rows)
one_stays new [] h = subst (λ (t : Bool). one_if t + 0 ≤ 1) (sym (same_itself new.aor)) (omega arith)
one_stays new (row ∷ rows) h = by_test (λ less. one_stays new rows less) (is_of new.aor row) refl where
  by_test : (IsOnce new.aor rows → IsOnce new.aor (with_registered new rows)) → (t : Bool) → is_of new.aor row ≡ t
      → IsOnce new.aor (cond t (new ∷ rows) (row ∷ with_registered new rows))
  by_test rest true same = subst (λ (t : Bool). one_if t + times (is_of new.aor) rows ≤ 1) (same ∙ sym (same_itself new.aor)) h
  by_test rest false apart =
      subst (λ (t : Bool). one_if t + times (is_of new.aor) (with_registered new rows) ≤ 1) (sym apart)
      (none_more (times (is_of new.aor) (with_registered new rows))
      (rest (none_less (times (is_of new.aor) rows) (subst (λ (t : Bool). one_if t + times (is_of new.aor) rows ≤ 1) apart h))))

once_put : (aor : Aor) (new : Registered) (rows : List Registered) → IsOnce aor rows → IsOnce aor (with_registered new rows)
once_put aor new rows h = by_test (is_of aor new) refl where
  by_test : (t : Bool) → is_of aor new ≡ t → IsOnce aor (with_registered new rows)
  by_test true same =
      subst (λ (a : Aor). IsOnce a (with_registered new rows)) (same_is new.aor aor same)
      (one_stays new rows (subst (λ (a : Aor). IsOnce a rows) (sym (same_is new.aor aor same)) h))
  by_test false other = subst (λ (n : ℕ). n ≤ 1) (sym (others_stay aor new rows other)) h

once_if : (aor : Aor) (offset : ℤ) (event : Option Event) (r : Record) (rows : List Registered) → IsOnce aor rows → IsOnce aor (if_registered offset event r rows)
once_if aor offset event r rows h = by_test (is_registered r) where
  by_test : (t : Bool) → IsOnce aor (cond t (with_registered (registered_by offset event r) rows) rows)
  by_test true = once_put aor (registered_by offset event r) rows h
  by_test false = h

once_more : (aor : Aor) (offset : ℤ) (event : Option Event) (records : List Record) (rows : List Registered) → IsOnce aor rows
    → IsOnce aor (phones_with offset event records rows)
once_more aor offset event [] rows h = h
once_more aor offset event (r ∷ records) rows h = once_more aor offset event records (if_registered offset event r rows) (once_if aor offset event r rows h)

once_behind : (aor : Aor) (rows : List Registered) (day : List Heard) → IsOnce aor rows → IsOnce aor (phones_behind rows day)
once_behind aor rows [] h = h
once_behind aor rows (step ∷ later) h =
    once_behind aor (phones_with step.config.offset step.event step.out.records rows) later
    (once_more aor step.config.offset step.event step.out.records rows h)

pub each_once : (day : List Heard) (aor : Aor) → count_by (is_of aor) (phones_of day) ≤ 1
each_once day aor = subst (λ (n : ℕ). n ≤ 1) (sym (counted (is_of aor) (phones_of day))) (once_behind aor [] day (omega arith))
