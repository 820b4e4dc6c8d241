-- Moments of parts.
use Rattle.std.proofs.Common.{◌≡◌, ◌≢◌, ℕ, ◌<◌, Bool, true, false, List, [], ◌∷◌, length, get_or, position, Option, Some, None, refl, sym, ◌∙◌, subst, arith, ap}
use Rattle.std.specs.Prelude.{◌||◌, ◌&&◌}
use Rattle.std.proofs.lemmas.Bool.Decides.{nat_tests}
use Rattle.std.proofs.lemmas.List.Quantifiers.{position-Some}
use Rattle.std.proofs.lemmas.Option.{get_or_from_slice_get, slice_get-get_or}
use Rattle.sip_timers.specs.declared.timer.Owner.{Owner}
use Rattle.sip_timers.specs.declared.timer.Owner.TheVariants as Of
use Rattle.sip_dialog_updates.specs.state.declared.branch.Branch.{Branch}
use Rattle.sip_dialog_updates.specs.state.declared.open_request.OpenRequest.{OpenRequest}
use Rattle.sip_dialog_updates.specs.state.State.{phase_deadline, side_deadline}
use Rattle.model_steps.specs.context_model.Retransmission.{answer_due, branch_due}
use Rattle.sip_fork.specs.declared.first_due.Due.{Due}
use Rattle.sip_fork.specs.declared.first_due.Due.TheVariants as What
use Rattle.sip_fork.specs.Due.{GoesAgainBefore, IsBranchAt, IsBranchOf, IsDue, IsNotDue, is_at, is_branch_due, is_either, is_of}

pub at_is : (moment : Option ℕ) (due : ℕ) → is_at moment due ≡ true → moment ≡ Some due
at_is None due e = absurd (cc)
at_is (Some m) due e = let same : m ≡ due = grind (arith, nat_tests) in ap (λ n. Some n) same

pub not_at : (moment : Option ℕ) (due : ℕ) → is_at moment due ≡ false → moment ≢ Some due
not_at None due e is = absurd (cc)
not_at (Some m) due e is = let same : m ≡ due = cc in absurd (grind (arith, nat_tests))

pub neither : (again deadline : Option ℕ) (due : ℕ) → is_at again due ≡ false → is_at deadline due ≡ false → is_either again deadline due ≡ false
neither again deadline due a b = rw a b

the_other : (a b c : Bool) → (a && (b || c)) ≡ true → b ≡ false → c ≡ true
the_other true false true e f = refl
the_other true false false e f = absurd (cc)
the_other true true c e f = absurd (cc)
the_other false b c e f = absurd (cc)

-- of a branch of which something is due, and nothing goes again then, the deadline passes
pub ends_then : (r : OpenRequest) (owner : Owner) (due i : ℕ) (x : Branch) → position (is_branch_due r owner due) r.branches ≡ Some i → get_or r.branches i x ≡ x
    → is_at (branch_due r x) due ≡ false
    → IsBranchAt (λ (b : Branch). phase_deadline b.phase) r.branches i due
ends_then r owner due i x found here none =
    let is = position-Some (is_branch_due r owner due) r.branches i x found in
    let passes : is_branch_due r owner due x ≡ true = subst (λ (b : Branch). is_branch_due r owner due b ≡ true) here is.1 in
    let ends : is_at (phase_deadline x.phase) due ≡ true = the_other (is_of owner x) (is_at (branch_due r x) due) (is_at (phase_deadline x.phase) due) passes none in
    record {
      within = is.0;
      is = λ b at. subst (λ (y : Branch). phase_deadline y.phase ≡ Some due) (sym here ∙ get_or_from_slice_get r.branches i b x at)
          (at_is (phase_deadline x.phase) due ends);
    }

-- and it isn't one of which something does
pub none_again : (r : OpenRequest) (due i : ℕ) (x : Branch) → get_or r.branches i x ≡ x → is_at (branch_due r x) due ≡ false → GoesAgainBefore r due (What.BranchEnds i)
none_again r due i x here none b at = subst (λ (y : Branch). branch_due r y ≢ Some due) (sym here ∙ get_or_from_slice_get r.branches i b x at)
    (not_at (branch_due r x) due none)

the_first : (a b : Bool) → (a && b) ≡ true → a ≡ true
the_first true b e = refl
the_first false b e = absurd (cc)

-- a branch that is found by its owner has timers of that
pub found_of : (r : OpenRequest) (owner : Owner) (due i : ℕ) (x : Branch) → position (is_branch_due r owner due) r.branches ≡ Some i → get_or r.branches i x ≡ x
    → IsBranchOf owner r.branches i
found_of r owner due i x found here =
    let is = position-Some (is_branch_due r owner due) r.branches i x found in
    let passes : is_branch_due r owner due x ≡ true = subst (λ (b : Branch). is_branch_due r owner due b ≡ true) here is.1 in
    λ b at. subst (λ (y : Branch). is_of owner y ≡ true) (sym here ∙ get_or_from_slice_get r.branches i b x at)
    (the_first (is_of owner x) (is_either (branch_due r x) (phase_deadline x.phase) due) passes)

-- ---- what is due

-- what isn't due nowhere is due somewhere
module _ (r : OpenRequest) (due : ℕ) where
  abbrev Something : Type 0
  Something = (what : Due) × IsDue r due what

  of_side : (is_either (answer_due r) (side_deadline r.side) due ≡ false → ⊥) → Something
  of_side some = elim (is_at (answer_due r) due) as (λ b. (is_at (answer_due r) due ≡ b) → Something) [
    | true ↦ (λ e. (What.AnswerAgain, at_is (answer_due r) due e))
    | false ↦ (λ e. elim (is_at (side_deadline r.side) due) as (λ b. (is_at (side_deadline r.side) due ≡ b) → Something) [
      | true ↦ (λ f. (What.AnswerEnds, at_is (side_deadline r.side) due f))
      | false ↦ (λ f. absurd (some (neither (answer_due r) (side_deadline r.side) due e f)))
    ] refl)
  ] refl

  again_then : (i : ℕ) (x : Branch) → i < length r.branches → get_or r.branches i x ≡ x → is_at (branch_due r x) due ≡ true → IsBranchAt (branch_due r) r.branches i due
  again_then i x lt here is = record {
    within = lt;
    is = λ b at. subst (λ (y : Branch). branch_due r y ≡ Some due) (sym here ∙ get_or_from_slice_get r.branches i b x at) (at_is (branch_due r x) due is);
  }

  at_branch : (owner : Owner) (i : ℕ) (x : Branch) → position (is_branch_due r owner due) r.branches ≡ Some i → get_or r.branches i x ≡ x → Something
  at_branch owner i x found here = elim (is_at (branch_due r x) due) as (λ b. (is_at (branch_due r x) due ≡ b) → Something) [
    | true ↦ (λ e. (What.BranchAgain i, again_then i x (position-Some (is_branch_due r owner due) r.branches i x found).0 here e))
    | false ↦ (λ e. (What.BranchEnds i, ends_then r owner due i x found here e))
  ] refl

  of_list : (owner : Owner) (i : ℕ) (bs : List Branch) → r.branches ≡ bs → position (is_branch_due r owner due) bs ≡ Some i → Something
  of_list owner i [] is found = absurd (cc)
  of_list owner i (b ∷ bs) is found =
      let there : position (is_branch_due r owner due) r.branches ≡ Some i = ap (λ (xs : List Branch). position (is_branch_due r owner due) xs) is ∙ found in
      let lt : i < length r.branches = (position-Some (is_branch_due r owner due) r.branches i b there).0 in
      at_branch owner i (get_or r.branches i b) there (get_or_from_slice_get r.branches i (get_or r.branches i b) (get_or r.branches i b)
      (slice_get-get_or r.branches i b lt))

  of_place : (owner : Owner) (o : Option ℕ) → position (is_branch_due r owner due) r.branches ≡ o → (position (is_branch_due r owner due) r.branches ≡ None → ⊥)
      → Something
  of_place owner None none some = absurd (some none)
  of_place owner (Some i) found some = of_list owner i r.branches refl found

  of_branch : (owner : Owner) → (position (is_branch_due r owner due) r.branches ≡ None → ⊥) → Something
  of_branch owner some = of_place owner (position (is_branch_due r owner due) r.branches) refl some

  pub something : (owner : Owner) → (IsNotDue r due owner → ⊥) → Something
  something Of.Server some = of_side some
  something (Of.Branch number) some = of_branch (Of.Branch number) some
  something (Of.Cancel number) some = of_branch (Of.Cancel number) some
