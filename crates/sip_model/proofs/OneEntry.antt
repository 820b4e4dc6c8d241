-- What happens of what one timer names is one thing: the open requests have numbers of their own, and the parts of one their owners.
use Rattle.std.proofs.Common.{◌≡◌, ◌≢◌, ◌⊎◌, inl, inr, ◌∙◌, ℕ, zero, suc, ◌<◌, Bool, true, false, cond, List, [], ◌∷◌, length, Option, Some, refl, sym, ap, ap₂, subst}
use Rattle.std.proofs.Common.{arith, slice_index_or, Contains}
use Rattle.std.specs.List.{AllByRecursion}
use Rattle.sip_event.specs.declared.packet.Packet.{Packet}
use Rattle.sip_event.specs.declared.event.StepOut.{StepOut}
use Rattle.sip_timers.specs.declared.timer.Owner.{Owner}
use Rattle.sip_timers.specs.declared.timer.Owner.TheVariants as Of
use Rattle.model_steps.specs.state.declared.server.Server.{Server}
use Rattle.model_steps.specs.state.declared.branch.Branch.{Branch}
use Rattle.model_steps.specs.state.declared.open_request.OpenRequest.{OpenRequest}
use Rattle.model_steps.specs.state.declared.proxy_state.ProxyState.{ProxyState}
use Rattle.model_steps.specs.context_model.Branches.{Change}
use Rattle.model_steps.specs.context_model.Retransmission.{IsResent, OfAnswer, OfRequest, answer_due, branch_due}
use Rattle.model_steps.specs.Step.{IsDeadline, IsResend, IsOverdue, OfSide, OfBranch}
use Rattle.sip_model.specs.Order.{AreRising}
use Rattle.model_transactions.specs.Matching.{AreBranched, NoBranch, OneBranch, WithCancel}
use Rattle.model_transactions.specs.Queue.{Entry}
use Rattle.model_transactions.specs.Ties.{owner_of}
use Rattle.model_transactions.proofs.Branched.{alone, its_number, kinds_differ, owner_is}
use Rattle.sip_model.specs.TimerOrder.{IsOfEntry, IsOverdueOf, IsResentOf}
use Rattle.sip_model.specs.Ties.{Due, due_of, overdue_branch, resent_branch}
use Rattle.sip_model.proofs.TiedLists.{at_one_place}
use Rattle.sip_model.proofs.Places.{all_in, in_from_contains}

-- ---- places

-- no two have the same name
abbrev Differ : {X Y : Type 0} → (X → Y) → List X → Type 0
Differ name [] = Unit {0}
Differ name (x ∷ xs) = AllByRecursion (λ y. name y ≢ name x) xs × Differ name xs

-- so what has one name stands at one place
one_place : {X Y : Type 0} (name : X → Y) (xs : List X) (x y : X) (j k : ℕ) → Differ name xs → j < length xs → slice_index_or xs j x ≡ x → k < length xs
    → slice_index_or xs k y ≡ y → name x ≡ name y → j ≡ k
one_place name [] x y j k differ lt e lt_too f same = absurd (omega (arith, lt))
one_place name (z ∷ zs) x y zero zero differ lt e lt_too f same = refl
one_place name (z ∷ zs) x y zero (suc k) differ lt e lt_too f same =
    absurd (all_in (λ w. name w ≢ name z) zs y differ.0 (in_from_contains zs y (k, omega (arith, lt_too), f)) (sym same ∙ ap name (sym e)))
one_place name (z ∷ zs) x y (suc j) zero differ lt e lt_too f same =
    absurd (all_in (λ w. name w ≢ name z) zs x differ.0 (in_from_contains zs x (j, omega (arith, lt), e)) (same ∙ ap name (sym f)))
one_place name (z ∷ zs) x y (suc j) (suc k) differ lt e lt_too f same = ap suc (one_place name zs x y j k differ.1 (omega (arith, lt)) e (omega (arith, lt_too)) f same)

-- also in lists that are one
in_one_list : {X Y : Type 0} (name : X → Y) (xs ys : List X) (x y : X) → xs ≡ ys → Differ name xs → (one : Contains xs x) (other : Contains ys y) → name x ≡ name y
    → one.0 ≡ other.0
in_one_list {X} name xs ys x y same differ one other e =
    one_place name xs x y one.0 other.0 differ one.1 one.2 (subst (λ (zs : List X). other.0 < length zs) (sym same) other.1)
    (subst (λ (zs : List X). slice_index_or zs other.0 y ≡ y) (sym same) other.2) e

numbers_differ : (requests : List OpenRequest) → AreRising requests → Differ (λ (r : OpenRequest). r.number) requests
numbers_differ [] h = tt
numbers_differ (r ∷ rs) h = (later rs h.0, numbers_differ rs h.1) where
  later : (xs : List OpenRequest) → AllByRecursion (λ (x : OpenRequest). r.number < x.number) xs → AllByRecursion (λ (x : OpenRequest). x.number ≢ r.number) xs
  later [] all = tt
  later (x ∷ xs) all = let lt = all.0 in ((λ e. omega (arith, e, lt)), later xs all.1)

owners_differ : (bs : List Branch) → AreBranched bs → Differ owner_of bs
owners_differ bs NoBranch = tt
owners_differ bs (OneBranch b rest is new branched) = (alone (owner_of b) b.number rest (its_number b) new, owners_differ rest branched)
owners_differ bs (WithCancel b c rest is c_is numbers is_past new branched) =
    let differ : owner_of c ≢ owner_of b = λ e. kinds_differ c.number b.number (sym (owner_is c true c_is) ∙ (e ∙ owner_is b false is)) in
    ((differ, alone (owner_of b) b.number rest (its_number b) new), (alone (owner_of c) b.number rest (its_number c ∙ numbers) new, owners_differ rest branched))

-- no branch has the answering side's timers
not_side : (b : Branch) → Of.Server ≡ owner_of b → ⊥
not_side b e = by_kind b.is_cancel b.number e where
  by_kind : (t : Bool) (n : ℕ) → Of.Server ≡ cond t (Of.Cancel n) (Of.Branch n) → ⊥
  by_kind true n is = absurd (cc)
  by_kind false n is = absurd (cc)

-- ---- of one part

module _ (server : Server) (due when : ℕ) (r s : OpenRequest) (owner : Owner) (moments : due ≡ when) (same : r ≡ s) (branched : AreBranched r.branches) where
  -- two branches of one owner
  branch_place : (b c : Branch) (there : Contains r.branches b) (here : Contains s.branches c) → owner ≡ owner_of b → owner ≡ owner_of c → there.0 ≡ here.0
  branch_place b c there here is it = in_one_list owner_of r.branches s.branches b c (ap (λ (q : OpenRequest). q.branches) same) (owners_differ r.branches branched) there
      here (sym is ∙ it)

  one_branch : (b c : Branch) (there : Contains r.branches b) (here : Contains s.branches c) → owner ≡ owner_of b → owner ≡ owner_of c → b ≡ c
  one_branch b c there here is it = at_one_place r.branches s.branches b c (ap (λ (q : OpenRequest). q.branches) same) there here (branch_place b c there here is it)

  -- two deadlines are one
  pub one_overdue : (one other : Change) (h : IsOverdue server due r one) (k : IsOverdue server when s other) → IsOverdueOf owner h → IsOverdueOf owner k
      → overdue_branch h ≡ overdue_branch k
  one_overdue _ _ (OfSide is) (OfSide it) mine theirs = refl
  one_overdue _ _ (OfSide is) (OfBranch c here it) mine theirs = absurd (not_side c (sym mine.0 ∙ theirs.0))
  one_overdue _ _ (OfBranch b there is) (OfSide it) mine theirs = absurd (not_side b (sym theirs.0 ∙ mine.0))
  one_overdue _ _ (OfBranch b there is) (OfBranch c here it) mine theirs = ap (λ (k : ℕ). Some k) (branch_place b c there here mine.0 theirs.0)

  -- and so are two that go again
  pub one_resent : (packets others : List Packet) (next after : OpenRequest) (h : IsResent server due r packets next) (k : IsResent server when s others after)
      → IsResentOf owner h → IsResentOf owner k → resent_branch h ≡ resent_branch k
  one_resent _ _ _ _ (OfAnswer is) (OfAnswer it) mine theirs = refl
  one_resent _ _ _ _ (OfAnswer is) (OfRequest c here it) mine theirs = absurd (not_side c (sym mine ∙ theirs))
  one_resent _ _ _ _ (OfRequest b there is) (OfAnswer it) mine theirs = absurd (not_side b (sym theirs ∙ mine))
  one_resent _ _ _ _ (OfRequest b there is) (OfRequest c here it) mine theirs = ap (λ (k : ℕ). Some k) (branch_place b c there here mine theirs)

  -- where something goes again no deadline passes
  pub goes_first : (change : Change) (packets : List Packet) (next : OpenRequest) (h : IsOverdue server due r change) (k : IsResent server when s packets next)
      → IsOverdueOf owner h → IsResentOf owner k → ⊥
  goes_first _ _ _ (OfSide is) (OfAnswer it) mine theirs = mine.1 (ap answer_due same ∙ it ∙ ap (λ (m : ℕ). Some m) (sym moments))
  goes_first _ _ _ (OfSide is) (OfRequest c here it) mine theirs = not_side c (sym mine.0 ∙ theirs)
  goes_first _ _ _ (OfBranch b there is) (OfAnswer it) mine theirs = not_side b (sym theirs ∙ mine.0)
  goes_first _ _ _ (OfBranch b there is) (OfRequest c here it) mine theirs =
      mine.1 (ap₂ (λ (q : OpenRequest) (x : Branch). branch_due q x) same (one_branch b c there here mine.0 theirs) ∙ it ∙ ap (λ (m : ℕ). Some m) (sym moments))

-- ---- of one timer

abbrev due_with : Bool → ℕ → Option ℕ → Due
due_with kind request branch = record { is_deadline = kind; request = request; branch = branch }

module _ (server : Server) (state : ProxyState) (rising : AreRising state.requests) (all_branched : AllByRecursion (λ (r : OpenRequest). AreBranched r.branches)
    state.requests) where
  request_place : (r s : OpenRequest) (number : ℕ) (one : Contains state.requests r) (other : Contains state.requests s) → r.number ≡ number → s.number ≡ number
      → one.0 ≡ other.0
  request_place r s number one other is it =
      in_one_list (λ (q : OpenRequest). q.number) state.requests state.requests r s refl (numbers_differ state.requests rising) one other (is ∙ sym it)

  one_request : (r s : OpenRequest) (number : ℕ) (one : Contains state.requests r) (other : Contains state.requests s) → r.number ≡ number → s.number ≡ number → r ≡ s
  one_request r s number one other is it = at_one_place state.requests state.requests r s refl one other (request_place r s number one other is it)

  its_branches : (r : OpenRequest) → Contains state.requests r → AreBranched r.branches
  its_branches r there = all_in (λ (q : OpenRequest). AreBranched q.branches) state.requests r all_branched (in_from_contains state.requests r there)

  -- what happens of it at a moment is one thing
  pub one_happens : (entry : Entry) (at when : ℕ) (out another : StepOut) (new newer : ProxyState) → out.at ≡ another.at
      → (h : IsDeadline server state at out new ⊎ IsResend server state at out new)
      → (k : IsDeadline server state when another newer ⊎ IsResend server state when another newer) → IsOfEntry entry h → IsOfEntry entry k → due_of h ≡ due_of k
  one_happens entry at when out another new newer moments (inl h) (inl k) mine theirs =
      let request = request_place h.request k.request entry.name.request h.is_open k.is_open mine.0 theirs.0 in
      let same = one_request h.request k.request entry.name.request h.is_open k.is_open mine.0 theirs.0 in
      ap₂ (λ (n : ℕ) (o : Option ℕ). due_with true n o) request
      (one_overdue server out.at another.at h.request k.request entry.name.owner moments same (its_branches h.request h.is_open) h.change k.change h.passes k.passes
      mine.1 theirs.1)
  one_happens entry at when out another new newer moments (inl h) (inr k) mine theirs =
      absurd (goes_first server out.at another.at h.request k.request entry.name.owner moments
      (one_request h.request k.request entry.name.request h.is_open k.is_open mine.0 theirs.0) (its_branches h.request h.is_open)
      h.change k.packets k.next h.passes k.goes mine.1 theirs.1)
  one_happens entry at when out another new newer moments (inr h) (inl k) mine theirs =
      absurd (goes_first server another.at out.at k.request h.request entry.name.owner (sym moments)
      (one_request k.request h.request entry.name.request k.is_open h.is_open theirs.0 mine.0) (its_branches k.request k.is_open)
      k.change h.packets h.next k.passes h.goes theirs.1 mine.1)
  one_happens entry at when out another new newer moments (inr h) (inr k) mine theirs =
      let request = request_place h.request k.request entry.name.request h.is_open k.is_open mine.0 theirs.0 in
      let same = one_request h.request k.request entry.name.request h.is_open k.is_open mine.0 theirs.0 in
      ap₂ (λ (n : ℕ) (o : Option ℕ). due_with false n o) request
      (one_resent server out.at another.at h.request k.request entry.name.owner moments same (its_branches h.request h.is_open) h.packets k.packets h.next k.next h.goes
      k.goes mine.1 theirs.1)
