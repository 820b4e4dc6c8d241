-- Which open request, and which part of it, the first timer belongs to.
use Rattle.std.proofs.Common.{◌≡◌, ℕ, ◌<◌, ◌≤◌, ◌*◌, Bool, true, false, cond, List, [], ◌∷◌, length, get_or, slice_get, position, Option, Some, None, IsSome, refl, sym}
use Rattle.std.proofs.Common.{◌∙◌, ap, subst, arith, eqb, nat_lt, ◌⊎◌, inl, inr}
use Rattle.std.specs.Prelude.{◌&&◌, ◌||◌, count_by}
use Rattle.std.specs.List.{All, AllPairs, AllByRecursion, sum_by, position_or_len}
use Rattle.std.proofs.lemmas.Bool.{cases_lt}
use Rattle.std.proofs.lemmas.Bool.Decides.{nat_tests}
use Rattle.std.proofs.lemmas.List.Elements.{All-head, All-tail}
use Rattle.std.proofs.lemmas.List.Sums.{sum_by-le, fails_before_first}
use Rattle.std.proofs.lemmas.Option.{slice_get_within, get_or_from_slice_get}
use Rattle.sip_timers.specs.declared.letter.Letter.{Letter}
use Rattle.sip_timers.specs.declared.timer.Owner.{Owner}
use Rattle.sip_timers.specs.declared.timer.Owner.TheVariants as Of
use Rattle.sip_timers.specs.declared.timer.Timer.{Timer}
use Rattle.sip_dialog_updates.specs.state.declared.branch.Branch.{Branch}
use Rattle.sip_dialog_updates.specs.state.declared.open_request.OpenRequest.{OpenRequest}
use Rattle.sip_dialog_updates.specs.state.State.{is_invite, phase_deadline, side_deadline}
use Rattle.model_steps.specs.context_model.Retransmission.{answer_due, branch_due}
use Rattle.sip_request.specs.transactions_model.Ties.{IsFor, due_at, branch_timers, branches_timers, owner_of, part_timers, side_timers}
use Rattle.sip_request.specs.transactions_model.declared.timer_keys.TimerKeys.{TimerKeys}
use Rattle.sip_fork.proofs.Lists.{count-append}
use Rattle.sip_fork.proofs.Parts.{count_part}
use Rattle.sip_request.specs.Named.{named_by}
use Rattle.sip_request.specs.declared.request.Request.{Request}
use Rattle.sip_fork.specs.Due.{IsNotDue, is_at, is_branch_due, is_either, is_of, is_part}
use Rattle.sip_request.specs.transactions_model.Fits.{BranchFits}
use Rattle.sip_fork.specs.Contexts.{IsKept}
use Rattle.sip_fork.specs.Timing.{Timing}
use Rattle.sip_fork.proofs.Moments.{due_then}
use Rattle.sip_fork.proofs.Reasons.{none_of_part, fewer, others}

-- ---- owners

-- whether timers of one owner are those of another
abbrev pub is_owner : Owner → Owner → Bool
is_owner Of.Server Of.Server = true
is_owner Of.Server (Of.Branch m) = false
is_owner Of.Server (Of.Cancel m) = false
is_owner (Of.Branch n) Of.Server = false
is_owner (Of.Branch n) (Of.Branch m) = eqb m n
is_owner (Of.Branch n) (Of.Cancel m) = false
is_owner (Of.Cancel n) Of.Server = false
is_owner (Of.Cancel n) (Of.Branch m) = false
is_owner (Of.Cancel n) (Of.Cancel m) = eqb m n

owner_is_part : (owner : Owner) (cancel : Bool) (number : ℕ) → is_owner owner (cond cancel (Of.Cancel number) (Of.Branch number)) ≡ is_part owner cancel number
owner_is_part Of.Server true number = refl
owner_is_part Of.Server false number = refl
owner_is_part (Of.Branch n) true number = refl
owner_is_part (Of.Branch n) false number = refl
owner_is_part (Of.Cancel n) true number = refl
owner_is_part (Of.Cancel n) false number = refl

pub is_itself : (owner : Owner) → is_owner owner owner ≡ true
is_itself Of.Server = refl
is_itself (Of.Branch n) = grind (arith, nat_tests)
is_itself (Of.Cancel n) = grind (arith, nat_tests)

-- whether a timer of a request's part is due at a moment
abbrev pub is_timer : ℕ → Owner → ℕ → Timer → Bool
is_timer due owner number t = eqb t.due due && (is_owner owner t.name.owner && eqb t.name.request number)

-- ---- a part

module _ (due : ℕ) (owner : Owner) (number : ℕ) where
  -- timers of one of a part are those of its moments that are not of another owner or request
  counted : (n : ℕ) (w : Owner) (keys : TimerKeys) (ts : List (Letter × ℕ)) → count_by (is_timer due owner number) (part_timers n w keys ts)
      ≡ count_by (λ (t : Letter × ℕ). eqb t.1 due && (is_owner owner w && eqb n number)) ts
  counted n w keys ts = count_part (is_timer due owner number) n w keys ts

  none_of_others : (n : ℕ) (w : Owner) (keys : TimerKeys) (ts : List (Letter × ℕ)) → (is_owner owner w && eqb n number) ≡ false
      → count_by (is_timer due owner number) (part_timers n w keys ts) ≡ 0
  none_of_others n w keys ts other =
      counted n w keys ts ∙ ap (λ (x : Bool). count_by (λ (t : Letter × ℕ). eqb t.1 due && x) ts) other ∙ others (λ m. eqb m due) ts

  none_then : (n : ℕ) (w : Owner) (keys : TimerKeys) (ts : List (Letter × ℕ)) → count_by (λ (t : Letter × ℕ). eqb t.1 due) ts ≡ 0
      → count_by (is_timer due owner number) (part_timers n w keys ts) ≡ 0
  none_then n w keys ts none =
      let few : count_by (λ (t : Letter × ℕ). eqb t.1 due && (is_owner owner w && eqb n number)) ts ≤ count_by (λ (t : Letter × ℕ). eqb t.1 due) ts =
      fewer (λ m. eqb m due) (is_owner owner w && eqb n number) ts in
      omega (arith, none, few, counted n w keys ts)

  or_first : (a b : Bool) → (a || b) ≡ false → a ≡ false
  or_first true b e = absurd (cc)
  or_first false b e = refl

  or_second : (a b : Bool) → (a || b) ≡ false → b ≡ false
  or_second true b e = absurd (cc)
  or_second false b e = e

  at_none : (o : Option ℕ) → is_at o due ≡ false → (m : ℕ) → o ≡ Some m → eqb m due ≡ false
  at_none o none m e = subst (λ (x : Option ℕ). is_at x due ≡ false) e none

  part_none : (again deadline : Option ℕ) (ts : List (Letter × ℕ)) → AllByRecursion (IsFor again deadline) ts → is_either again deadline due ≡ false
      → ((until : ℕ) → deadline ≡ Some until → due ≤ until) → count_by (λ (t : Letter × ℕ). eqb t.1 due) ts ≡ 0
  part_none again deadline ts reasons none later =
      none_of_part (λ m. eqb m due) again deadline ts reasons
      (at_none again (or_first (is_at again due) (is_at deadline due) none)) (at_none deadline (or_second (is_at again due) (is_at deadline due) none))
      (λ m until e lt. let le : due ≤ until = later until e in grind (arith, nat_tests, le, lt))

  -- ---- a branch

  branch_none : Timing → (r : OpenRequest) (b : Branch) (key : TimerKeys) → is_branch_due r owner due b ≡ false
      → ((until : ℕ) → phase_deadline b.phase ≡ Some until → due ≤ until)
      → count_by (is_timer due owner number) (part_timers r.number (owner_of b) key (branch_timers r b)) ≡ 0
  branch_none timing r b key none later = by_owner (is_of owner b) refl where
    by_owner : (t : Bool) → is_of owner b ≡ t → count_by (is_timer due owner number) (part_timers r.number (owner_of b) key (branch_timers r b)) ≡ 0
    by_owner false other = none_of_others r.number (owner_of b) key (branch_timers r b)
        (ap (λ (x : Bool). x && eqb r.number number) (owner_is_part owner b.is_cancel b.number ∙ other))
    by_owner true mine =
        let neither : is_either (branch_due r b) (phase_deadline b.phase) due ≡ false =
        subst (λ (x : Bool). (x && is_either (branch_due r b) (phase_deadline b.phase) due) ≡ false) mine none in
        none_then r.number (owner_of b) key (branch_timers r b) (part_none (branch_due r b) (phase_deadline b.phase) (branch_timers r b) (timing.branch_reasons r b)
        neither later)

  branches_none : Timing → (r : OpenRequest) (bs : List Branch) (keys : List TimerKeys) → AllByRecursion (BranchFits (is_invite r)) bs
      → All (λ (b : Branch). is_branch_due r owner due b ≡ false) bs
      → ((m : ℕ) → 1 ≤ count_by (due_then m) (branches_timers r bs keys) → due ≤ m) → count_by (is_timer due owner number) (branches_timers r bs keys) ≡ 0
  branches_none timing r [] keys fits none late = refl
  branches_none timing r (b ∷ bs) [] fits none late = refl
  branches_none timing r (b ∷ bs) (key ∷ keys) fits none late =
      let mine : List Timer = part_timers r.number (owner_of b) key (branch_timers r b) in
      let rest : List Timer = branches_timers r bs keys in
      let here : (until : ℕ) → phase_deadline b.phase ≡ Some until → due ≤ until = λ until e.
      (let moments : count_by (due_then until) mine ≡ due_at until (branch_timers r b) = count_part (due_then until) r.number (owner_of b) key (branch_timers r b) in
      late until (omega (arith, timing.branch_ends r b until fits.0 e, moments, count-append (due_then until) mine rest))) in
      let one = branch_none timing r b key (All-head (λ (x : Branch). is_branch_due r owner due x ≡ false) b bs none) here in
      let more = branches_none timing r bs keys fits.1 (All-tail (λ (x : Branch). is_branch_due r owner due x ≡ false) b bs none)
      (λ m some. late m (omega (arith, some, count-append (due_then m) mine rest))) in
      omega (arith, one, more, count-append (is_timer due owner number) mine rest)

  branches_of_others : (r : OpenRequest) (bs : List Branch) (keys : List TimerKeys) → ((w : Owner) → (is_owner owner w && eqb r.number number) ≡ false)
      → count_by (is_timer due owner number) (branches_timers r bs keys) ≡ 0
  branches_of_others r [] keys other = refl
  branches_of_others r (b ∷ bs) [] other = refl
  branches_of_others r (b ∷ bs) (key ∷ keys) other =
      let mine : List Timer = part_timers r.number (owner_of b) key (branch_timers r b) in
      let rest : List Timer = branches_timers r bs keys in
      omega (
        arith,
        none_of_others r.number (owner_of b) key (branch_timers r b) (other (owner_of b)),
        branches_of_others r bs keys other,
        count-append (is_timer due owner number) mine rest,
      )

  -- ---- a request

  -- another request names none of them
  pub other_request : (r : Request) → eqb r.open_request.number number ≡ false → count_by (is_timer due owner number) (named_by r) ≡ 0
  other_request r differs =
      let other : (w : Owner) → (is_owner owner w && eqb r.open_request.number number) ≡ false = λ w. ap (λ (x : Bool). is_owner owner w && x) differs
      ∙ fails (is_owner owner w) in
      let of_side : List Timer = part_timers r.open_request.number Of.Server r.side (side_timers r.open_request) in
      let of_branches : List Timer = branches_timers r.open_request r.open_request.branches r.branches in
      omega (
        arith,
        none_of_others r.open_request.number Of.Server r.side (side_timers r.open_request) (other Of.Server),
        branches_of_others r.open_request r.open_request.branches r.branches other,
        count-append (is_timer due owner number) of_side of_branches,
      )
    where
      fails : (b : Bool) → (b && false) ≡ false
      fails true = refl
      fails false = refl

-- where none is found, none passes
none_found : {X : Type 0} (test : X → Bool) (xs : List X) → position test xs ≡ None → All (λ x. test x ≡ false) xs
none_found test xs none k d lt = by_test (nat_lt (position_or_len test xs) (length xs)) refl none where
  by_test : (b : Bool) → nat_lt (position_or_len test xs) (length xs) ≡ b → cond b (Some (position_or_len test xs)) None ≡ None → test (get_or xs k d) ≡ false
  by_test true is e = absurd (cc)
  by_test false is e = let past : length xs ≤ position_or_len test xs = grind (arith, nat_tests, is) in fails_before_first test xs k d (omega (arith, past, lt))

-- a request of whose part nothing is due then names none of them
module _ (timing : Timing) (due number reached : ℕ) (r : Request) (kept : IsKept reached r) (late : (m : ℕ) → 1 ≤ count_by (due_then m) (named_by r) → due ≤ m) where
  abbrev of_side : List Timer
  of_side = part_timers r.open_request.number Of.Server r.side (side_timers r.open_request)

  abbrev of_branches : List Timer
  of_branches = branches_timers r.open_request r.open_request.branches r.branches

  late_side : (until : ℕ) → side_deadline r.open_request.side ≡ Some until → due ≤ until
  late_side until e =
      let moments : count_by (due_then until) of_side ≡ due_at until (side_timers r.open_request) =
      count_part (due_then until) r.open_request.number Of.Server r.side (side_timers r.open_request) in
      late until (omega (arith, timing.side_ends r.open_request until kept.fits e, moments, count-append (due_then until) of_side of_branches))

  late_branches : (m : ℕ) → 1 ≤ count_by (due_then m) of_branches → due ≤ m
  late_branches m some = late m (omega (arith, some, count-append (due_then m) of_side of_branches))

  of_owner : (owner : Owner) → All (λ (b : Branch). is_branch_due r.open_request owner due b ≡ false) r.open_request.branches
      → count_by (is_timer due owner number) of_side ≡ 0 → count_by (is_timer due owner number) (named_by r) ≡ 0
  of_owner owner none side =
      omega (
        arith,
        side,
        branches_none due owner number timing r.open_request r.open_request.branches r.branches kept.fits.branches none late_branches,
        count-append (is_timer due owner number) of_side of_branches,
      )

  pub row_none : (owner : Owner) → IsNotDue r.open_request due owner → count_by (is_timer due owner number) (named_by r) ≡ 0
  row_none Of.Server none =
      of_owner Of.Server (λ i d lt. refl)
      (none_then due Of.Server number r.open_request.number Of.Server r.side (side_timers r.open_request)
      (part_none due Of.Server number (answer_due r.open_request) (side_deadline r.open_request.side) (side_timers r.open_request) (timing.side_reasons r.open_request)
      none late_side))
  row_none (Of.Branch n) none =
      of_owner (Of.Branch n) (none_found (is_branch_due r.open_request (Of.Branch n) due) r.open_request.branches none)
      (none_of_others due (Of.Branch n) number r.open_request.number Of.Server r.side (side_timers r.open_request) refl)
  row_none (Of.Cancel n) none =
      of_owner (Of.Cancel n) (none_found (is_branch_due r.open_request (Of.Cancel n) due) r.open_request.branches none)
      (none_of_others due (Of.Cancel n) number r.open_request.number Of.Server r.side (side_timers r.open_request) refl)

-- ---- rows

sum_none : (f : Request → ℕ) (rows : List Request) → All (λ (r : Request). f r ≡ 0) rows → sum_by f rows ≡ 0
sum_none f rows none =
    let few : sum_by f rows ≤ length rows * 0 = sum_by-le f 0 rows (λ i d lt. omega (arith, none i d lt)) in
    omega (arith, few)

-- where a timer of a request's part stands, such a request is found by its number
pub is_found : (due : ℕ) (owner : Owner) (number : ℕ) (rows : List Request) → 1 ≤ sum_by (λ (r : Request). count_by (is_timer due owner number) (named_by r)) rows
    → IsSome (position (λ (r : Request). eqb r.open_request.number number) rows)
is_found due owner number rows some = by_place (position (λ (r : Request). eqb r.open_request.number number) rows) refl where
  by_place : (o : Option ℕ) → position (λ (r : Request). eqb r.open_request.number number) rows ≡ o → IsSome o
  by_place (Some i) e = refl
  by_place None e =
      let none : All (λ (r : Request). count_by (is_timer due owner number) (named_by r) ≡ 0) rows =
      λ i d lt. other_request due owner number (get_or rows i d) (none_found (λ (r : Request). eqb r.open_request.number number) rows e i d lt) in
      absurd (omega (arith, some, sum_none (λ (r : Request). count_by (is_timer due owner number) (named_by r)) rows none))

-- and something of that part is due
pub is_due : (due : ℕ) (owner : Owner) (number reached : ℕ) (rows : List Request) (i : ℕ) (r : Request)
    → AllPairs (λ (a b : Request). a.open_request.number < b.open_request.number) rows → slice_get rows i ≡ Some r
    → r.open_request.number ≡ number → count_by (is_timer due owner number) (named_by r) ≡ 0
    → sum_by (λ (x : Request). count_by (is_timer due owner number) (named_by x)) rows ≡ 0
is_due due owner number reached rows i r rise at same none = sum_none (λ (x : Request). count_by (is_timer due owner number) (named_by x)) rows
    (λ j d lt. by_place j d lt (cases_lt j i) (cases_lt i j)) where
      here : (d : Request) → get_or rows i d ≡ r
      here d = get_or_from_slice_get rows i r d at

      differs : (a b : ℕ) → b ≡ number → (a < b) ⊎ (b < a) → eqb a number ≡ false
      differs a b is (inl lt) = grind (arith, nat_tests, is, lt)
      differs a b is (inr lt) = grind (arith, nat_tests, is, lt)

      number_here : (d : Request) → (get_or rows i d).open_request.number ≡ number
      number_here d = ap (λ (x : Request). x.open_request.number) (here d) ∙ same

      by_place : (j : ℕ) (d : Request) → j < length rows → (j < i) ⊎ (i ≤ j) → (i < j) ⊎ (j ≤ i) → count_by (is_timer due owner number) (named_by (get_or rows j d)) ≡ 0
      by_place j d lt (inl before) _ = other_request due owner number (get_or rows j d) (differs (get_or rows j d).open_request.number (get_or rows i d).open_request.number
          (number_here d) (inl (rise j i d before (slice_get_within rows i r at))))
      by_place j d lt (inr late) (inl behind) = other_request due owner number (get_or rows j d)
          (differs (get_or rows j d).open_request.number (get_or rows i d).open_request.number (number_here d) (inr (rise i j d behind lt)))
      by_place j d lt (inr late) (inr early) =
          let e : j ≡ i = omega (arith, late, early) in
          subst (λ (x : Request). count_by (is_timer due owner number) (named_by x) ≡ 0) (sym (ap (λ (k : ℕ). get_or rows k d) e ∙ here d)) none
