-- What is due first of open requests, and that fewer are left due once it fired or went again.
use Rattle.std.proofs.Common.{◌≡◌, ◌⊎◌, ◌∙◌, inl, inr, ℕ, ◌+◌, ◌≤◌, Bool, true, false, cond, ◌==◌, nat_le, List, [], ◌∷◌, map, Option, Some, None, refl, ap, arith}
use Rattle.std.proofs.Common.{count_by}
use Rattle.std.proofs.lemmas.Bool.Decides.{nat_tests}
use Rattle.std.specs.List.{AllByRecursion}
use Rattle.sip_event.specs.declared.packet.Packet.{Packet}
use Rattle.model_steps.specs.state.declared.server.Server.{Server}
use Rattle.model_steps.specs.state.declared.resend.Resend.{Resend}
use Rattle.model_steps.specs.state.declared.branch.Branch.{Branch}
use Rattle.model_steps.specs.state.declared.open_request.OpenRequest.{OpenRequest}
use Rattle.model_steps.specs.state.State.{is_invite, phase_deadline, side_deadline}
use Rattle.model_steps.specs.context_model.Branches.{Change, is_same_branch, overdue, side_overdue}
use Rattle.model_steps.specs.context_model.Retransmission.{answers_again, answer_due, answer_next, branch_next, insists, goes_again, resent_branch, with_resend, IsResent}
use Rattle.model_steps.specs.context_model.Retransmission.{OfAnswer, OfRequest}
use Rattle.model_steps.specs.context_model.Sending.{branch_packets}
use Rattle.model_steps.specs.Step.{IsOverdue, OfSide, OfBranch}
use Rattle.sip_model.proofs.Places.{IsIn, contains_from_in, in_from_contains, all_weaker, count_cons, one_at, none_at}
use Rattle.sip_model.proofs.Resending.{DueFrom, due_is, again_at, IsBranchAgain, IsAgain, branch_again, after_again, next_again}
use Rattle.sip_model.proofs.DeadlinesLeft.{same_branch}
use Rattle.sip_model.proofs.Events.{IsDue}

-- ---- at a moment, or later

-- a moment that isn't before another is that one, or later
due_next : (t : ℕ) (o : Option ℕ) → DueFrom t o → (o ≡ Some t) ⊎ DueFrom (t + 1) o
due_next t None h = inr tt
due_next t (Some due) h = by_test (due == t) refl where
  by_test : (v : Bool) → (due == t) ≡ v → (Some due ≡ Some t) ⊎ DueFrom (t + 1) (Some due)
  by_test true is = let same : due ≡ t = grind (arith, nat_tests) in inl (ap Some same)
  by_test false is = let later : t + 1 ≤ due = grind (arith, nat_tests) in inr later

-- one of a list is at that moment
abbrev pub IsAt : {X : Type 0} → (X → Option ℕ) → ℕ → List X → Type 0
IsAt {X} f t xs = (x : X) × IsIn x xs × (f x ≡ Some t)

-- one of a list is, or all are later
first_at : {X : Type 0} (f : X → Option ℕ) (t : ℕ) (xs : List X) → AllByRecursion (λ x. DueFrom t (f x)) xs → IsAt f t xs ⊎ AllByRecursion (λ x. DueFrom (t + 1) (f x)) xs
first_at f t [] all = inr tt
first_at f t (x ∷ xs) all = by_head (due_next t (f x) all.0) (first_at f t xs all.1) where
  by_head : (f x ≡ Some t) ⊎ DueFrom (t + 1) (f x) → IsAt f t xs ⊎ AllByRecursion (λ y. DueFrom (t + 1) (f y)) xs
      → IsAt f t (x ∷ xs) ⊎ AllByRecursion (λ y. DueFrom (t + 1) (f y)) (x ∷ xs)
  by_head (inl is) rest = inl (x, inl refl, is)
  by_head (inr later) (inl found) = inl (found.0, inr found.1, found.2)
  by_head (inr later) (inr rest) = inr (later, rest)

-- ---- a deadline

-- a deadline of one of some requests passes at a moment
pub record IsOverdueAt (server : Server) (t : ℕ) (requests : List OpenRequest) : Type 0 where
  pub request : OpenRequest
  pub change : Change
  pub is_open : IsIn request requests
  pub passes : IsOverdue server t request change

-- a deadline of a request does, or all are later
overdue_of : (server : Server) (t : ℕ) (r : OpenRequest) → IsDue t r → ((change : Change) × IsOverdue server t r change) ⊎ IsDue (t + 1) r
overdue_of server t r h = by_parts (due_next t (side_deadline r.side) h.side_due) (first_at (λ (b : Branch). phase_deadline b.phase) t r.branches h.branches_due) where
  by_parts : (side_deadline r.side ≡ Some t) ⊎ DueFrom (t + 1) (side_deadline r.side)
      → IsAt (λ (b : Branch). phase_deadline b.phase) t r.branches ⊎ AllByRecursion (λ (b : Branch). DueFrom (t + 1) (phase_deadline b.phase)) r.branches
      → ((change : Change) × IsOverdue server t r change) ⊎ IsDue (t + 1) r
  by_parts (inl is) branches = inl (side_overdue server t r, OfSide is)
  by_parts (inr later) (inl found) = inl (overdue server t r found.0, OfBranch found.0 (contains_from_in r.branches found.0 found.1) found.2)
  by_parts (inr later) (inr all) = inr (record { side_due = later; branches_due = all })

-- a deadline of one of some requests does, or all are later
pub overdue_at : (server : Server) (t : ℕ) (requests : List OpenRequest) → AllByRecursion (IsDue t) requests
    → IsOverdueAt server t requests ⊎ AllByRecursion (IsDue (t + 1)) requests
overdue_at server t [] all = inr tt
overdue_at server t (r ∷ rs) all = by_head (overdue_of server t r all.0) (overdue_at server t rs all.1) where
  by_head : ((change : Change) × IsOverdue server t r change) ⊎ IsDue (t + 1) r → IsOverdueAt server t rs ⊎ AllByRecursion (IsDue (t + 1)) rs
      → IsOverdueAt server t (r ∷ rs) ⊎ AllByRecursion (IsDue (t + 1)) (r ∷ rs)
  by_head (inl found) rest = inl (record { request = r; change = found.0; is_open = inl refl; passes = found.1 })
  by_head (inr later) (inl found) = inl (record { request = found.request; change = found.change; is_open = inr found.is_open; passes = found.passes })
  by_head (inr later) (inr rest) = inr (later, rest)

-- ---- what goes again

-- something of one of some requests goes again at a moment
pub record IsResentAt (server : Server) (t : ℕ) (requests : List OpenRequest) : Type 0 where
  pub request : OpenRequest
  pub packets : List Packet
  pub next : OpenRequest
  pub is_open : IsIn request requests
  pub goes : IsResent server t request packets next

-- branches with a wait, of which none goes again before the next moment
later_branches : (t : ℕ) (invite : Bool) (bs : List Branch) → AllByRecursion (IsBranchAgain t invite) bs
    → AllByRecursion (λ (b : Branch). DueFrom (t + 1) (again_at invite b)) bs → AllByRecursion (IsBranchAgain (t + 1) invite) bs
later_branches t invite [] waits all = tt
later_branches t invite (b ∷ bs) waits all = (record { due_from = all.0; waits = waits.0.waits }, later_branches t invite bs waits.1 all.1)

-- something of a request does, or all of it later
resent_of : (server : Server) (t : ℕ) (r : OpenRequest) → IsAgain t r → ((packets : List Packet) × (next : OpenRequest) × IsResent server t r packets next)
    ⊎ IsAgain (t + 1) r
resent_of server t r h =
    by_parts (due_next t (answer_due r) h.answer_from)
    (first_at (again_at (is_invite r)) t r.branches (all_weaker (IsBranchAgain t (is_invite r)) (λ (b : Branch). DueFrom t (again_at (is_invite r) b)) r.branches
    (λ b one. one.due_from) h.branches_again)) where
      by_parts : (answer_due r ≡ Some t) ⊎ DueFrom (t + 1) (answer_due r)
          → IsAt (again_at (is_invite r)) t r.branches ⊎ AllByRecursion (λ (b : Branch). DueFrom (t + 1) (again_at (is_invite r) b)) r.branches
          → ((packets : List Packet) × (next : OpenRequest) × IsResent server t r packets next) ⊎ IsAgain (t + 1) r
      by_parts (inl is) branches = inl (answers_again r r.answer, record r { again = answer_next r }, OfAnswer is)
      by_parts (inr later) (inl found) = inl (
        branch_packets server true r found.0,
        with_resend found.0 r,
        OfRequest found.0 (contains_from_in r.branches found.0 found.1) found.2,
      )
      by_parts (inr later) (inr all) = inr (record {
        answer_from = later;
        answer_waits = h.answer_waits;
        branches_again = later_branches t (is_invite r) r.branches h.branches_again all;
      })

-- something of one of some requests does, or all of them later
pub resent_at : (server : Server) (t : ℕ) (requests : List OpenRequest) → AllByRecursion (IsAgain t) requests
    → IsResentAt server t requests ⊎ AllByRecursion (IsAgain (t + 1)) requests
resent_at server t [] all = inr tt
resent_at server t (r ∷ rs) all = by_head (resent_of server t r all.0) (resent_at server t rs all.1) where
  by_head : ((packets : List Packet) × (next : OpenRequest) × IsResent server t r packets next) ⊎ IsAgain (t + 1) r
      → IsResentAt server t rs ⊎ AllByRecursion (IsAgain (t + 1)) rs
      → IsResentAt server t (r ∷ rs) ⊎ AllByRecursion (IsAgain (t + 1)) (r ∷ rs)
  by_head (inl found) rest = inl (record { request = r; packets = found.0; next = found.1; is_open = inl refl; goes = found.2 })
  by_head (inr later) (inl found) = inl (record { request = found.request; packets = found.packets; next = found.next; is_open = inr found.is_open; goes = found.goes })
  by_head (inr later) (inr rest) = inr (later, rest)

-- ---- how many are due

-- a moment is at another or before it
at_least : (a b : ℕ) → a ≤ b → nat_le a b ≡ true
at_least a b h = grind (arith, nat_tests)

-- or isn't
too_late : (a b : ℕ) → b + 1 ≤ a → nat_le a b ≡ false
too_late a b h = grind (arith, nat_tests)

-- how many moments of a request, at which something may go again, are at a moment or before it
abbrev pub moments_by : ℕ → OpenRequest → ℕ
moments_by t r = cond (nat_le r.again.due t) 1 0 + count_by (λ (b : Branch). nat_le b.again.due t) r.branches

-- where one is due and isn't any longer, and no other becomes due, fewer are
count_less : (p : Branch → Bool) (f : Branch → Branch) (bs : List Branch) (b : Branch) → ((x : Branch) → p (f x) ≡ true → p x ≡ true) → IsIn b bs → p b ≡ true
    → p (f b) ≡ false
    → count_by p (map f bs) + 1 ≤ count_by p bs
count_less p f [] b narrower h was is = absurd h
count_less p f (x ∷ xs) b narrower (inl same) was is =
    let head = count_cons p x xs in
    let changed = count_cons p (f x) (map f xs) in
    let one = one_at (p x) (ap p same ∙ was) in
    let none = none_at (p (f x)) (ap (λ (y : Branch). p (f y)) same ∙ is) in
    let rest = no_more xs in
    omega (arith, head, changed, one, none, rest) where
      no_more : (ys : List Branch) → count_by p (map f ys) ≤ count_by p ys
      no_more [] = omega arith
      no_more (y ∷ ys) = by_test (p (f y)) refl (no_more ys) where
        by_test : (t : Bool) → p (f y) ≡ t → count_by p (map f ys) ≤ count_by p ys → count_by p (map f (y ∷ ys)) ≤ count_by p (y ∷ ys)
        by_test true e rest = omega (arith, count_cons p y ys, count_cons p (f y) (map f ys), one_at (p (f y)) e, one_at (p y) (narrower y e), rest)
        by_test false e rest = omega (arith, count_cons p y ys, count_cons p (f y) (map f ys), none_at (p (f y)) e, rest)
count_less p f (x ∷ xs) b narrower (inr there) was is = by_test (p (f x)) refl (count_less p f xs b narrower there was is) where
  by_test : (t : Bool) → p (f x) ≡ t → count_by p (map f xs) + 1 ≤ count_by p xs → count_by p (map f (x ∷ xs)) + 1 ≤ count_by p (x ∷ xs)
  by_test true e rest = omega (arith, count_cons p x xs, count_cons p (f x) (map f xs), one_at (p (f x)) e, one_at (p x) (narrower x e), rest)
  by_test false e rest = omega (arith, count_cons p x xs, count_cons p (f x) (map f xs), none_at (p (f x)) e, rest)

-- the moment of a branch that went again is a later one
moved : (t : ℕ) (b : Branch) (next : Resend) (x : Branch) (same : Bool) → nat_le next.due t ≡ false → nat_le (cond same (record x { again = next }) x).again.due t ≡ true
    → nat_le x.again.due t ≡ true
moved t b next x true late e = absurd (cc)
moved t b next x false late e = e

-- once something went again, fewer are due
pub fewer_due : (server : Server) (t : ℕ) (r : OpenRequest) (packets : List Packet) (next : OpenRequest) → IsResent server t r packets next → IsAgain t r
    → moments_by t next + 1 ≤ moments_by t r
fewer_due server t r _ _ (OfAnswer is) h =
    let due : r.again.due ≡ t = due_is r.again.due t (insists r) is in
    let later : t + 1 ≤ (answer_next r).due = (after_again (t + 1) 4000 r.again (omega arith) (omega (arith, due)) h.answer_waits).0 in
    let one = one_at (nat_le r.again.due t) (at_least r.again.due t (omega (arith, due))) in
    let none = none_at (nat_le (answer_next r).due t) (too_late (answer_next r).due t later) in
    omega (arith, one, none)
fewer_due server t r _ _ (OfRequest b there is) h =
    let due : b.again.due ≡ t = due_is b.again.due t (goes_again r b) is in
    let this = branch_again t r b there h in
    let later : t + 1 ≤ (branch_next r b).due = (next_again (t + 1) r b (omega (arith, due)) this.waits).0 in
    let late : nat_le (branch_next r b).due t ≡ false = too_late (branch_next r b).due t later in
    let fewer = count_less (λ (x : Branch). nat_le x.again.due t) (resent_branch b (branch_next r b)) r.branches b
    (λ x e. moved t b (branch_next r b) x (is_same_branch x b) late e) (in_from_contains r.branches b there) (at_least b.again.due t (omega (arith, due)))
    (ap (λ (same : Bool). nat_le (cond same (record b { again = branch_next r b }) b).again.due t) (same_branch b) ∙ late) in
    omega (arith, fewer)
