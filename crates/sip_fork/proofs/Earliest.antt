-- The first timer is of what is due first of all open requests.
use Rattle.std.proofs.Common.{◌≡◌, ℕ, ◌<◌, ◌≤◌, Bool, true, false, cond, List, [], ◌∷◌, length, get_or, slice_get, position, Option, Some, None, IsSome, refl, sym, ◌∙◌}
use Rattle.std.proofs.Common.{ap, subst, arith, eqb}
use Rattle.std.specs.Prelude.{◌&&◌, count_by, IfNone}
use Rattle.std.specs.List.{AllPairs, sum_by}
use Rattle.std.specs.Option.{option_map}
use Rattle.std.proofs.lemmas.Bool.Decides.{nat_tests}
use Rattle.std.proofs.lemmas.List.{length-map}
use Rattle.std.proofs.lemmas.List.Sums.{get_or-le-sum_by}
use Rattle.std.proofs.lemmas.List.Quantifiers.{position-Some}
use Rattle.std.proofs.lemmas.Option.{slice_get-get_or, slice_get_within, slice_get-map, get_or_from_slice_get}
use Rattle.sip_timers.specs.declared.timer.Name.{Name}
use Rattle.sip_timers.specs.declared.timer.Timer.{Timer}
use Rattle.sip_timers.specs.Timers.{AreOrdered, first_named}
use Rattle.sip_dialog_updates.specs.state.declared.open_request.OpenRequest.{OpenRequest}
use Rattle.sip_request.specs.Named.{named_by}
use Rattle.sip_request.specs.declared.request.Request.{Request}
use Rattle.sip_fork.specs.Contexts.{AreTied}
use Rattle.sip_fork.specs.Due.{GoesAgainBefore, IsDue, IsFirst, IsFirstAt, IsNotDue, IsNothingDue, IsOfFirst, IsOfOwner}
use Rattle.sip_fork.specs.Queue.{IsQueue}
use Rattle.sip_fork.specs.Timing.{Timing}
use Rattle.sip_fork.specs.declared.first_due.Due.{Due}
use Rattle.sip_fork.proofs.Dues.{something}
use Rattle.sip_fork.proofs.Firsts.{first_le, none_before, none_again_before}
use Rattle.sip_fork.proofs.Moments.{due_then}
use Rattle.sip_fork.proofs.Named.{is_itself, is_owner, is_timer, row_none, is_found, is_due}
use Rattle.sip_fork.proofs.Tying.{at_place, kept_at, contexts}
use Rattle.sip_timers.proofs.Counting.{count-cons}

-- ---- the first timer

same_number : (n : ℕ) → eqb n n ≡ true
same_number n = grind (arith, nat_tests)

three : (a b c : Bool) → a ≡ true → b ≡ true → c ≡ true → (a && (b && c)) ≡ true
three true true true x y z = refl
three false b c x y z = absurd (cc)
three true false c x y z = absurd (cc)
three true true false x y z = absurd (cc)

some_same : {X : Type 0} (a b : X) → Some a ≡ Some b → a ≡ b
some_same a b e = cc

-- a timer of its moment and its part stands
is_there : (pending : List Timer) (due : ℕ) (name : Name) → first_named pending ≡ Some (due, name) → 1 ≤ count_by (is_timer due name.owner name.request) pending
is_there [] due name e = absurd (cc)
is_there (t ∷ ts) due name e =
    let both : (t.due, t.name) ≡ (due, name) = some_same {X = ℕ × Name} (t.due, t.name) (due, name) e in
    let passes : is_timer t.due t.name.owner t.name.request t ≡ true = three (eqb t.due t.due) (is_owner t.name.owner t.name.owner) (eqb t.name.request t.name.request)
    (same_number t.due) (is_itself t.name.owner) (same_number t.name.request) in
    let one : cond {A = ℕ} (is_timer t.due t.name.owner t.name.request t) 1 0 ≡ 1 = ap (λ (b : Bool). cond {A = ℕ} b 1 0) passes in
    let here : 1 ≤ count_by (is_timer t.due t.name.owner t.name.request) (t ∷ ts) = omega (arith, one, count-cons (is_timer t.due t.name.owner t.name.request) t ts) in
    subst (λ (x : ℕ × Name). 1 ≤ count_by (is_timer x.0 x.1.owner x.1.request) (t ∷ ts)) both here

-- and none that is due earlier
none_earlier : (pending : List Timer) (due : ℕ) (name : Name) (m : ℕ) → AreOrdered pending → first_named pending ≡ Some (due, name) → 1 ≤ count_by (due_then m) pending
    → due ≤ m
none_earlier [] due name m ordered e some = absurd (cc)
none_earlier (t ∷ ts) due name m ordered e some =
    let both : (t.due, t.name) ≡ (due, name) = some_same {X = ℕ × Name} (t.due, t.name) (due, name) e in
    subst (λ (x : ℕ × Name). x.0 ≤ m) both (first_le t ts m ordered some)

no_moment : (pending : List Timer) (m : ℕ) → first_named pending ≡ None → count_by (due_then m) pending ≡ 0
no_moment [] m e = refl
no_moment (t ∷ ts) m e = absurd (cc)

-- ---- open requests

-- what was found has the number
pub number_there : (number : ℕ) (rows : List Request) (i : ℕ) (r : Request) → position (λ (x : Request). eqb x.open_request.number number) rows ≡ Some i
    → slice_get rows i ≡ Some r → r.open_request.number ≡ number
number_there number rows i r found at =
    let is = position-Some (λ (x : Request). eqb x.open_request.number number) rows i r found in
    let passes : eqb r.open_request.number number ≡ true = subst (λ (x : Request). eqb x.open_request.number number ≡ true) (get_or_from_slice_get rows i r r at) is.1 in
    grind (arith, nat_tests, passes)

module _ (timing : Timing) (pending : List Timer) (reached : ℕ) (rows : List Request) (tied : AreTied pending reached rows) where
  -- where no timer stands, nothing is due
  pub nothing_due : first_named pending ≡ None → IsNothingDue (contexts rows)
  nothing_due none = record {
    none = λ moment. none_before timing reached moment rows tied.kept (late moment);
    none_again = λ moment. none_again_before timing reached moment rows tied.kept (late moment);
  } where
    late : (bound m : ℕ) → 1 ≤ sum_by (λ (r : Request). count_by (due_then m) (named_by r)) rows → bound ≤ m
    late bound m some = absurd (omega (arith, some, tied.same (due_then m), no_moment pending m none))

  module _ (due : ℕ) (name : Name) (queue : IsQueue pending) (first : first_named pending ≡ Some (due, name)) where
    stands : 1 ≤ sum_by (λ (r : Request). count_by (is_timer due name.owner name.request) (named_by r)) rows
    stands = omega (arith, is_there pending due name first, tied.same (is_timer due name.owner name.request))

    late : (m : ℕ) → 1 ≤ sum_by (λ (r : Request). count_by (due_then m) (named_by r)) rows → due ≤ m
    late m some = none_earlier pending due name m queue.ordered first (omega (arith, some, tied.same (due_then m)))

    late_at : (i : ℕ) (r : Request) → slice_get rows i ≡ Some r → (m : ℕ) → 1 ≤ count_by (due_then m) (named_by r) → due ≤ m
    late_at i r at m some = late m (omega (
      arith,
      some,
      get_or-le-sum_by (λ (x : Request). count_by (due_then m) (named_by x)) rows i r (slice_get_within rows i r at),
      at_place (due_then m) rows i r at,
    ))

    -- the request of the first timer is open
    pub first_found : IsSome (position (λ (r : Request). eqb r.open_request.number name.request) rows)
    first_found = is_found due name.owner name.request rows stands

    -- something of the part that the timer names is due then
    pub first_due : (i : ℕ) (r : Request) → AllPairs (λ (a b : Request). a.open_request.number < b.open_request.number) rows → slice_get rows i ≡ Some r
        → r.open_request.number ≡ name.request → IsNotDue r.open_request due name.owner → ⊥
    first_due i r rise at same none =
        omega (
          arith,
          stands,
          is_due due name.owner name.request reached rows i r rise at same
              (row_none timing due name.request reached r (kept_at pending reached rows i r tied at) (late_at i r at) name.owner none),
        )

    -- and nothing before
    pub is_first : (i : ℕ) (r : Request) (what : Due) → slice_get rows i ≡ Some r → IsDue r.open_request due what
        → IsFirst (contexts rows) (record { due = due; place = i; what = what })
    is_first i r what at is = record {
      within = omega (arith, slice_get_within rows i r at, length-map rows (λ (x : Request). x.open_request));
      due = λ x there. subst (λ (y : OpenRequest). IsDue y due what) (some_same r.open_request x
          (sym (ap (option_map (λ (y : Request). y.open_request)) at) ∙ sym (slice_get-map (λ (y : Request). y.open_request) rows i) ∙ there)) is;
      none_before = none_before timing reached due rows tied.kept late;
      none_again = none_again_before timing reached due rows tied.kept late;
    }

    -- so that something of an open request is due first then
    at_row : AllPairs (λ (a b : Request). a.open_request.number < b.open_request.number) rows → (i : ℕ) (r : Request)
        → position (λ (x : Request). eqb x.open_request.number name.request) rows ≡ Some i → slice_get rows i ≡ Some r → IsFirstAt (contexts rows) due
    at_row rise i r found at =
        let what : (what : Due) × IsDue r.open_request due what = something r.open_request due name.owner
        (first_due i r rise at (number_there name.request rows i r found at)) in
        (record { due = due; place = i; what = what.0 }, is_first i r what.0 at what.1, refl)

    in_rows : AllPairs (λ (a b : Request). a.open_request.number < b.open_request.number) rows → (i : ℕ) (xs : List Request) → rows ≡ xs
        → position (λ (x : Request). eqb x.open_request.number name.request) xs ≡ Some i → IsFirstAt (contexts rows) due
    in_rows rise i [] is found = absurd (cc)
    in_rows rise i (x ∷ xs) is found =
        let there : position (λ (y : Request). eqb y.open_request.number name.request) rows ≡ Some i =
        ap (λ (ys : List Request). position (λ (y : Request). eqb y.open_request.number name.request) ys) is ∙ found in
        let lt : i < length rows = (position-Some (λ (y : Request). eqb y.open_request.number name.request) rows i x there).0 in
        at_row rise i (get_or rows i x) there (slice_get-get_or rows i x lt)

    at_place_of : AllPairs (λ (a b : Request). a.open_request.number < b.open_request.number) rows → (o : Option ℕ)
        → position (λ (x : Request). eqb x.open_request.number name.request) rows ≡ o → IsSome o → IsFirstAt (contexts rows) due
    at_place_of rise None found some = absurd (cc)
    at_place_of rise (Some i) found some = in_rows rise i rows refl found

    pub first_at : AllPairs (λ (a b : Request). a.open_request.number < b.open_request.number) rows → IsFirstAt (contexts rows) due
    first_at rise = at_place_of rise (position (λ (x : Request). eqb x.open_request.number name.request) rows) refl first_found

-- it is of the timer at the head
pub of_first : (pending : List Timer) (rows : List Request) (due : ℕ) (name : Name) → first_named pending ≡ Some (due, name) → (i : ℕ) (r : Request) (what : Due)
    → slice_get rows i ≡ Some r
    → r.open_request.number ≡ name.request → IsOfOwner r.open_request name.owner what → GoesAgainBefore r.open_request due what
    → IsOfFirst pending (contexts rows) (record { due = due; place = i; what = what })
of_first [] rows due name e i r what at same is again = absurd (cc)
of_first (t ∷ ts) rows due name e i r what at same is again =
    let both : (t.due, t.name) ≡ (due, name) = some_same {X = ℕ × Name} (t.due, t.name) (due, name) e in
    let named : name ≡ t.name = sym (ap (λ (x : ℕ × Name). x.1) both) in
    let seen : (x : OpenRequest) → slice_get (contexts rows) i ≡ Some x → r.open_request ≡ x =
    λ x there. some_same r.open_request x (sym (ap (option_map (λ (y : Request). y.open_request)) at) ∙ sym (slice_get-map (λ (y : Request). y.open_request) rows i)
    ∙ there) in
    record {
      timer = t;
      later = ts;
      stands = refl;
      due = sym (ap (λ (x : ℕ × Name). x.0) both);
      request = λ x there. subst (λ (y : OpenRequest). y.number ≡ t.name.request) (seen x there) (same ∙ ap (λ (n : Name). n.request) named);
      part = λ x there. subst (λ (y : OpenRequest). IsOfOwner y t.name.owner what) (seen x there) (subst (λ (n : Name). IsOfOwner r.open_request n.owner what) named is);
      again = λ x there. subst (λ (y : OpenRequest). GoesAgainBefore y due what) (seen x there) again;
    }

-- ---- what calls answer

-- what isn't refused is something
pub some_of : {X : Type 0} {P : Type 0} (o : Option X) → IfNone o P → (P → ⊥) → IsSome o
some_of None none not = absurd (not none)
some_of (Some x) none not = refl
