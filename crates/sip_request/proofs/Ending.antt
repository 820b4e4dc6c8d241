-- The timers of an open request of which a transaction ends.
use Rattle.std.proofs.Common.{◌≡◌, ℕ, zero, suc, ◌+◌, ◌<◌, ◌≤◌, Bool, true, false, cond, not, List, [], ◌∷◌, ◌++◌, length, drop, set, get_or, refl, sym, ap, ◌∙◌, subst}
use Rattle.std.proofs.Common.{arith}
use Rattle.std.specs.Prelude.{◌&&◌, count_by}
use Rattle.sip_timers.specs.declared.timer.Timer.{Timer}
use Rattle.sip_timers.specs.declared.timer.Owner.TheVariants as Of
use Rattle.sip_timers.specs.Moves.{IsHeld, Moves}
use Rattle.model_transactions.specs.state.State.{is_invite}
use Rattle.model_transactions.specs.state.declared.branch.Branch.{Branch}
use Rattle.model_transactions.specs.state.declared.branch.Phase.{Phase}
use Rattle.model_transactions.specs.state.declared.branch.Phase.TheVariants.{Ended}
use Rattle.model_transactions.specs.state.declared.open_request.OpenRequest.{OpenRequest}
use Rattle.model_transactions.specs.InviteClient.{call_timers, invite_timers}
use Rattle.model_transactions.specs.InviteServer.{invite_side_timers}
use Rattle.model_transactions.specs.OtherClient.{other_timers}
use Rattle.model_transactions.specs.OtherServer.{other_side_timers}
use Rattle.model_transactions.specs.Ties.{branch_timers, branches_timers, owner_of, part_timers, side_timers}
use Rattle.model_transactions.specs.declared.timer_keys.TimerKeys.{TimerKeys}
use Rattle.sip_request.specs.Ended.{become, branch_ended, ended_at, side_ended}
use Rattle.sip_request.specs.Named.{named_by}
use Rattle.sip_request.specs.Walk.{left_timers}
use Rattle.sip_request.specs.declared.request.Request.{Request}
use Rattle.sip_request.proofs.Moving.{Moves-stays}
use Rattle.sip_request.proofs.Walking.{Moves-pair, without_keys}
use Rattle.sip_timers.proofs.Moving.{count-append}

-- ---- what has ended has no timer

no_side : (r : OpenRequest) → side_timers (side_ended r) ≡ []
no_side r = by_test (is_invite r) where
  by_test : (t : Bool) → cond t (invite_side_timers (side_ended r).side r.answer r.again) (other_side_timers (side_ended r).side) ≡ []
  by_test true = refl
  by_test false = refl

no_branch : (r : OpenRequest) (b : Branch) → branch_timers r (record b { phase = Ended }) ≡ []
no_branch r b = by_test (is_invite r && not b.is_cancel) where
  by_test : (t : Bool) → cond t (invite_timers Ended b.again ++ call_timers Ended) (other_timers Ended b.again) ≡ []
  by_test true = refl
  by_test false = refl

pub ended_none : (r : OpenRequest) (b : Branch) (keys : TimerKeys) → b.phase ≡ Ended → part_timers r.number (owner_of b) keys (branch_timers r b) ≡ []
ended_none r b keys e =
    ap (part_timers r.number (owner_of b) keys) (ap (λ (phase : Phase). cond (is_invite r && not b.is_cancel) (invite_timers phase b.again ++ call_timers phase)
    (other_timers phase b.again)) e ∙ no_branch r b)

-- ---- requests of one number and one method name the timers of branches alike

alike : (r x : OpenRequest) (bs : List Branch) (ks : List TimerKeys) → x.number ≡ r.number → is_invite x ≡ is_invite r → branches_timers x bs ks ≡ branches_timers r bs ks
alike r x [] ks number method = refl
alike r x (b ∷ bs) [] number method = refl
alike r x (b ∷ bs) (k ∷ ks) number method =
    ap (λ (n : ℕ). part_timers n (owner_of b) k (branch_timers x b) ++ branches_timers x bs ks) number
    ∙ ap (λ (t : Bool). part_timers r.number (owner_of b) k (cond (t && not b.is_cancel) (invite_timers b.phase b.again ++ call_timers b.phase)
    (other_timers b.phase b.again)) ++ branches_timers x bs ks) method
    ∙ ap (λ ts. part_timers r.number (owner_of b) k (branch_timers r b) ++ ts) (alike r x bs ks number method)

-- ---- the answering side

pub side_stopped : (ts us standing : List Timer) (r : Request) → standing ≡ part_timers r.open_request.number Of.Server r.side (side_timers r.open_request)
    → Moves ts standing us []
    → Moves ts (named_by r) us (named_by (become (side_ended r.open_request) r))
side_stopped ts us standing r e m =
    let back : List Timer = branches_timers r.open_request r.open_request.branches r.branches in
    let same : branches_timers (side_ended r.open_request) r.open_request.branches r.branches ≡ back =
    alike r.open_request (side_ended r.open_request) r.open_request.branches r.branches refl refl in
    let none : [] ≡ part_timers r.open_request.number Of.Server r.side (side_timers (side_ended r.open_request)) =
    sym (ap (part_timers r.open_request.number Of.Server r.side) (no_side r.open_request)) in
    Moves-pair ts us us standing _ back [] _ _ e none m (subst (λ xs. Moves us back us xs) (sym same) (Moves-stays us back))

-- ---- a branch

left_count : (p : Timer → Bool) (r : OpenRequest) (bs : List Branch) (ks : List TimerKeys) (i : ℕ)
    → count_by p (branches_timers r (drop i bs) (drop i ks)) ≤ count_by p (branches_timers r bs ks)
left_count p r bs ks zero = omega arith
left_count p r [] ks (suc i) = omega arith
left_count p r (b ∷ bs) [] (suc i) = omega (arith, ap (count_by p) (without_keys r (drop i bs)))
left_count p r (b ∷ bs) (k ∷ ks) (suc i) =
    omega (arith, left_count p r bs ks i, count-append p (part_timers r.number (owner_of b) k (branch_timers r b)) (branches_timers r bs ks))

stopped_count : (p : Timer → Bool) (r : OpenRequest) (bs : List Branch) (ks : List TimerKeys) (i : ℕ)
    → count_by p (branches_timers r bs ks) + count_by p (branches_timers r (drop (suc i) bs) (drop (suc i) ks))
    ≡ count_by p (branches_timers r (drop i bs) (drop i ks)) + count_by p (branches_timers r (ended_at i bs) ks)
stopped_count p r [] ks zero = omega arith
stopped_count p r [] ks (suc i) = omega arith
stopped_count p r (b ∷ bs) [] zero = omega (arith, ap (count_by p) (without_keys r bs))
stopped_count p r (b ∷ bs) [] (suc i) = omega (arith, ap (count_by p) (without_keys r (drop i bs)), ap (count_by p) (without_keys r (drop (suc i) bs)))
stopped_count p r (b ∷ bs) (k ∷ ks) zero =
    omega (
      arith,
      count-append p (part_timers r.number (owner_of b) k (branch_timers r (record b { phase = Ended }))) (branches_timers r bs ks),
      ap (λ ts. count_by p (part_timers r.number (owner_of b) k ts)) (no_branch r b),
    )
stopped_count p r (b ∷ bs) (k ∷ ks) (suc i) =
    omega (
      arith,
      stopped_count p r bs ks i,
      count-append p (part_timers r.number (owner_of b) k (branch_timers r b)) (branches_timers r bs ks),
      count-append p (part_timers r.number (owner_of b) k (branch_timers r b)) (branches_timers r (ended_at i bs) ks),
    )

-- its timers stand
pub held_at : (ts : List Timer) (r : Request) (i : ℕ) → IsHeld ts (named_by r) → IsHeld ts (left_timers r.open_request r.branches i)
held_at ts r i h = record {
  stand = λ p. omega (
    arith,
    h.stand p,
    left_count p r.open_request r.open_request.branches r.branches i,
    count-append p (part_timers r.open_request.number Of.Server r.side (side_timers r.open_request)) (branches_timers r.open_request r.open_request.branches r.branches),
  );
  keys_differ = h.keys_differ;
}

stopped_left : (p : Timer → Bool) (r : OpenRequest) (ks : List TimerKeys) (i : ℕ)
    → count_by p (branches_timers r r.branches ks) + count_by p (left_timers r ks (i + 1))
    ≡ count_by p (left_timers r ks i) + count_by p (branches_timers r (ended_at i r.branches) ks)
stopped_left p r ks i =
    let next : suc i ≡ i + 1 = omega arith in
    subst (λ (n : ℕ). count_by p (branches_timers r r.branches ks) + count_by p (left_timers r ks n)
    ≡ count_by p (left_timers r ks i) + count_by p (branches_timers r (ended_at i r.branches) ks)) next
    (stopped_count p r r.branches ks i)

pub branch_stopped : (ts us : List Timer) (r : Request) (i : ℕ) → Moves ts (left_timers r.open_request r.branches i) us (left_timers r.open_request r.branches (i + 1))
    → Moves ts (named_by r) us (named_by (become (branch_ended i r.open_request) r))
branch_stopped ts us r i m =
    let side : List Timer = part_timers r.open_request.number Of.Server r.side (side_timers r.open_request) in
    let ended : List Branch = ended_at i r.open_request.branches in
    record {
      same = λ p. omega (
        arith,
        m.same p,
        stopped_left p r.open_request r.branches i,
        count-append p side (branches_timers r.open_request r.open_request.branches r.branches),
        count-append p side (branches_timers (branch_ended i r.open_request) ended r.branches),
        ap (count_by p) (alike r.open_request (branch_ended i r.open_request) ended r.branches refl refl),
      );
      keys_differ = m.keys_differ;
    }

-- nothing stood there
pub Moves-nothing : (ts left after : List Timer) → left ≡ [] → after ≡ [] → Moves ts left ts after
Moves-nothing ts left after e f = subst (λ xs. Moves ts xs ts after) (sym e) (subst (λ xs. Moves ts [] ts xs) (sym f) (Moves-stays ts []))

-- ---- the branches

pub ends_there : (bs : List Branch) (i : ℕ) (d : Branch) → i < length bs → set bs i (record (get_or bs i d) { phase = Ended }) ≡ ended_at i bs
ends_there [] i d within = absurd (omega (arith, within))
ends_there (x ∷ bs) zero d within = refl
ends_there (x ∷ bs) (suc i) d within = ap (λ xs. x ∷ xs) (ends_there bs i d (omega (arith, within)))

pub ends_nowhere : (bs : List Branch) (i : ℕ) → length bs ≤ i → bs ≡ ended_at i bs
ends_nowhere [] i past = refl
ends_nowhere (x ∷ bs) zero past = absurd (omega (arith, past))
ends_nowhere (x ∷ bs) (suc i) past = ap (λ xs. x ∷ xs) (ends_nowhere bs i (omega (arith, past)))
