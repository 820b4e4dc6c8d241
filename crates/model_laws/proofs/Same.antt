-- Lists that say the same of the known dialogs know the same dialogs.
use Rattle.std.proofs.Common.{◌≡◌, ◌∙◌, inl, inr, ℕ, ◌-◌, ◌≤◌, ◌<◌, ◌==◌, Bool, true, false, not, ◌&&◌, cond, List, [], ◌∷◌, filter, bytes_eq, refl, sym, ap, subst}
use Rattle.std.proofs.Common.{arith, count_by}
use Rattle.std.specs.Bool.{Decides}
use Rattle.std.specs.Cmp.Lexicographic.{pointwise}
use Rattle.std.specs.List.{AllByRecursion}
use Rattle.std.proofs.lemmas.Bool.Decides.{nat_tests}
use Rattle.std.proofs.lemmas.Slice.Eq.{bytes_eq-Decides, slice_eq-Decides}
use Rattle.sip_uri.specs.declared.addr.Addr.{Addr}
use Rattle.sip_dialog.specs.declared.dialog.Dialog.{Dialog}
use Rattle.sip_dialog.specs.Addresses.{is_same_addr}
use Rattle.sip_dialog.specs.Dialogs.{is_known, known}
use Rattle.sip_dialog.specs.Sameness.{SameDialogs}
use Rattle.sip_model.proofs.Places.{IsIn, all_in, count_cons, counts_in}
use Rattle.sip_model.proofs.Lists.{all_filter}

-- ---- tests on one dialog

-- both parts of a test
and_parts : (x y : Bool) → (x && y) ≡ true → (x ≡ true) × (y ≡ true)
and_parts true y e = (refl, e)
and_parts false y e = absurd (cc)

-- and back
pub and_holds : (x y : Bool) → x ≡ true → y ≡ true → (x && y) ≡ true
and_holds true y e f = f
and_holds false y e f = absurd (cc)

-- whether two truth values are one
same_truth : Bool → Bool → Bool
same_truth true y = y
same_truth false y = not y

-- it says so
truth_decides : (x y : Bool) → Decides (same_truth x y) (x ≡ y)
unfolding same_truth
truth_decides true true = (λ e. refl, λ e. refl)
truth_decides true false = (λ e. absurd (cc), λ e. absurd (cc))
truth_decides false true = (λ e. absurd (cc), λ e. absurd (cc))
truth_decides false false = (λ e. refl, λ e. refl)

-- numbers that pass the test are one
pub number_decides : (x y : ℕ) → Decides (x == y) (x ≡ y)
number_decides x y = (λ e. grind (arith, nat_tests), λ e. grind (arith, nat_tests))

-- and addresses
addr_decides : (x y : Addr) → Decides (is_same_addr x y) (x ≡ y)
addr_decides x y = (forward, backward) where
  forward : is_same_addr x y ≡ true → x ≡ y
  forward e =
      let both = and_parts (bytes_eq x.ip y.ip) (x.port == y.port) e in
      ap (λ (v : List ℕ). record { ip = v; port = x.port }) ((bytes_eq-Decides x.ip y.ip).0 both.0)
      ∙ ap (λ (v : ℕ). record { ip = y.ip; port = v }) ((number_decides x.port y.port).0 both.1)

  backward : x ≡ y → is_same_addr x y ≡ true
  backward e =
      and_holds (bytes_eq x.ip y.ip) (x.port == y.port) ((bytes_eq-Decides x.ip y.ip).1 (ap (λ (v : Addr). v.ip) e))
      ((number_decides x.port y.port).1 (ap (λ (v : Addr). v.port) e))

-- whether lists of addresses are one
same_addresses : List Addr → List Addr → Bool
same_addresses xs ys = pointwise is_same_addr xs ys

-- it says so
addresses_decide : (xs ys : List Addr) → Decides (same_addresses xs ys) (xs ≡ ys)
unfolding same_addresses
addresses_decide xs ys = slice_eq-Decides addr_decides xs ys (same_addresses xs ys) refl

-- whether two dialogs are one, part by part
abbrev is_it : Dialog → Dialog → Bool
is_it d x =
    bytes_eq d.id.call_id x.id.call_id
    && (bytes_eq d.id.from_tag x.id.from_tag
    && (bytes_eq d.id.to_tag x.id.to_tag && ((d.number == x.number) && (same_truth d.has_success x.has_success
    && ((d.since == x.since) && same_addresses d.addresses x.addresses)))))

-- a dialog of these parts
abbrev with_parts : List ℕ → List ℕ → List ℕ → ℕ → Bool → ℕ → List Addr → Dialog
with_parts call_id from_tag to_tag number success since addresses =
    record { id = record { call_id = call_id; from_tag = from_tag; to_tag = to_tag }; number = number; has_success = success; since = since; addresses = addresses }

-- a dialog is itself
is_itself : (d : Dialog) → is_it d d ≡ true
is_itself d =
    and_holds _ _ ((bytes_eq-Decides d.id.call_id d.id.call_id).1 refl)
    (and_holds _ _ ((bytes_eq-Decides d.id.from_tag d.id.from_tag).1 refl)
    (and_holds _ _ ((bytes_eq-Decides d.id.to_tag d.id.to_tag).1 refl)
    (and_holds _ _ ((number_decides d.number d.number).1 refl)
    (and_holds _ _ ((truth_decides d.has_success d.has_success).1 refl) (and_holds _ _ ((number_decides d.since d.since).1 refl)
    ((addresses_decide d.addresses d.addresses).1 refl))))))

-- one that passes the test is it
it_is : (d x : Dialog) → is_it d x ≡ true → d ≡ x
it_is d x e =
    let call = and_parts _ _ e in
    let from = and_parts _ _ call.1 in
    let to = and_parts _ _ from.1 in
    let number = and_parts _ _ to.1 in
    let success = and_parts _ _ number.1 in
    let since = and_parts _ _ success.1 in
    ap (λ (v : List ℕ). with_parts v d.id.from_tag d.id.to_tag d.number d.has_success d.since d.addresses) ((bytes_eq-Decides d.id.call_id x.id.call_id).0 call.0)
    ∙ ap (λ (v : List ℕ). with_parts x.id.call_id v d.id.to_tag d.number d.has_success d.since d.addresses) ((bytes_eq-Decides d.id.from_tag x.id.from_tag).0 from.0)
    ∙ ap (λ (v : List ℕ). with_parts x.id.call_id x.id.from_tag v d.number d.has_success d.since d.addresses) ((bytes_eq-Decides d.id.to_tag x.id.to_tag).0 to.0)
    ∙ ap (λ (v : ℕ). with_parts x.id.call_id x.id.from_tag x.id.to_tag v d.has_success d.since d.addresses) ((number_decides d.number x.number).0 number.0)
    ∙ ap (λ (v : Bool). with_parts x.id.call_id x.id.from_tag x.id.to_tag x.number v d.since d.addresses) ((truth_decides d.has_success x.has_success).0 success.0)
    ∙ ap (λ (v : ℕ). with_parts x.id.call_id x.id.from_tag x.id.to_tag x.number x.has_success v d.addresses) ((number_decides d.since x.since).0 since.0)
    ∙ ap (λ (v : List Addr). with_parts x.id.call_id x.id.from_tag x.id.to_tag x.number x.has_success x.since v) ((addresses_decide d.addresses x.addresses).0 since.1)

-- ---- lists

-- what is there and passes a test is among those that pass
in_filter : {X : Type 0} (p : X → Bool) (xs : List X) (y : X) → IsIn y xs → p y ≡ true → IsIn y (filter p xs)
in_filter p [] y there passes = absurd there
in_filter p (x ∷ xs) y there passes = by_test (p x) refl (λ later. in_filter p xs y later passes) there where
  by_test : (t : Bool) → p x ≡ t → (IsIn y xs → IsIn y (filter p xs)) → IsIn y (x ∷ xs) → IsIn y (cond t (x ∷ filter p xs) (filter p xs))
  by_test true is rest (inl e) = inl e
  by_test true is rest (inr later) = inr (rest later)
  by_test false is rest (inl e) = let same : p x ≡ true = ap p e ∙ passes in absurd (cc)
  by_test false is rest (inr later) = rest later

-- an element that passes a test
record Passes {X : Type 0} (p : X → Bool) (xs : List X) : Type 0 where
  element : X
  there : IsIn element xs
  passes : p element ≡ true

-- where one counts there is one
counted_in : {X : Type 0} (p : X → Bool) (xs : List X) → 1 ≤ count_by p xs → Passes p xs
counted_in p [] h = absurd (omega arith)
counted_in p (x ∷ xs) h = by_test (p x) refl (λ more. counted_in p xs more) where
  by_test : (t : Bool) → p x ≡ t → (1 ≤ count_by p xs → Passes p xs) → Passes p (x ∷ xs)
  by_test true is rest = record { element = x; there = inl refl; passes = is }
  by_test false is rest =
      let none : cond {A = ℕ} (p x) 1 0 ≡ 0 = ap (λ (t : Bool). cond {A = ℕ} t 1 0) is in
      let later = rest (omega (arith, h, count_cons p x xs, none)) in
      record { element = later.element; there = inr later.there; passes = later.passes }

-- what holds of each dialog of a list holds of each that is known in one that says the same
pub known_in_both : (P : Dialog → Type 0) (now : ℕ) (left right : List Dialog) → SameDialogs now left right → AllByRecursion P right → (d : Dialog) → IsIn d left
    → now - d.since < 43200000 → P d
known_in_both P now left right same all d there recent =
    let is : is_known now d ≡ true = grind (arith, nat_tests) in
    let one : 1 ≤ count_by (is_it d) (known now left) = counts_in (is_it d) (known now left) d (in_filter (is_known now) left d there is) (is_itself d) in
    let other = counted_in (is_it d) (known now right) (subst (λ n. 1 ≤ n) (same (is_it d)) one) in
    subst P (sym (it_is d other.element other.passes)) (all_in P (known now right) other.element (all_filter P (is_known now) right all) other.there)
