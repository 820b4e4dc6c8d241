-- Branches that fit their transactions, one at a time and all of them.
use Rattle.std.proofs.Common.{◌≡◌, ℕ, ◌+◌, ◌==◌, Bool, true, false, not, cond, List, [], ◌∷◌, ◌++◌, map, flat_map, refl, sym, subst, Contains, true≢false, arith}
use Rattle.std.proofs.lemmas.Bool.Decides.{nat_tests}
use Rattle.std.specs.Prelude.{◌&&◌, ◌||◌}
use Rattle.std.proofs.lemmas.List.Elements.{All-from_recursion, All-contains}
use Rattle.sip_context_branches.specs.state.declared.branch.Branch.{Branch}
use Rattle.sip_context_branches.specs.state.declared.branch.Phase.{Phase}
use Rattle.sip_context_branches.specs.state.declared.branch.Phase.TheVariants.{Unheard, Heard, Cancelled, Done, Ended}
use Rattle.sip_context_branches.specs.state.declared.resend.Resend.{Resend}
use Rattle.sip_context_branches.specs.state.State.{is_final, is_success, is_failure, is_provisional, first_resend}
use Rattle.sip_transactions.specs.declared.client_invite.ClientInvite.TheVariants as Call
use Rattle.sip_transactions.specs.declared.client_other.ClientOther.TheVariants as Other
use Rattle.sip_context_branches.specs.context_model.Branches.{is_same_branch, turned, phased, marked_branch, is_cancellable, is_ready, cancel_branch, held_branch}
use Rattle.sip_context_branches.specs.context_model.Branches.{with_cancel, invite_heard, other_heard}
use Rattle.model_transactions.specs.InviteClient as ForCall
use Rattle.model_transactions.specs.OtherClient as ForOther
use Rattle.model_transactions.specs.Fits.{is_call, PhaseFits, OfCall, OfOther, BranchFits, BranchesFit}

-- ---- phases

-- a status that isn't provisional is a success or a failure
pub failure_of : (s : ℕ) → is_provisional s ≡ false → is_success s ≡ false → is_failure s ≡ true
failure_of s late short = grind (arith, nat_tests)

-- a branch that wasn't heard yet, of either kind
pub unheard_fits : (call : Bool) (until : ℕ) (again : Resend) → PhaseFits call (Unheard until) again
unheard_fits true until again = OfCall (Unheard until) again (Call.Calling again.wait) (ForCall.WhileUnheard until again)
unheard_fits false until again = OfOther (Unheard until) again (Other.Trying again.wait) (ForOther.WhileUnheard until again)

-- one that has ended
pub ended_fits : (call : Bool) (again : Resend) → PhaseFits call Ended again
ended_fits true again = OfCall Ended again Call.Terminated (ForCall.WhenEnded again)
ended_fits false again = OfOther Ended again Other.Terminated (ForOther.WhenEnded again)

-- one that has its final answer
pub done_fits : (call : Bool) (until status : ℕ) (again : Resend) → is_provisional status ≡ false → PhaseFits call (Done until status) again
done_fits true until status again late = by_test (is_success status) refl where
  by_test : (t : Bool) → is_success status ≡ t → PhaseFits true (Done until status) again
  by_test true is = OfCall (Done until status) again Call.Accepted (ForCall.AfterSuccess until status again is)
  by_test false is = OfCall (Done until status) again Call.Completed (ForCall.AfterFailure until status again (failure_of status late is))
done_fits false until status again late = OfOther (Done until status) again Other.Completed (ForOther.AfterFinal until status again)

-- one that was heard
pub heard_fits : (call : Bool) (until : ℕ) (again : Resend) → PhaseFits call (Heard until) again
heard_fits true until again = OfCall (Heard until) again Call.Proceeding (ForCall.WhileHeard until again)
heard_fits false until again = OfOther (Heard until) again Other.Proceeding (ForOther.WhileHeard until again)

-- the INVITE to a target that was sent CANCEL
pub cancelled_fits : (until : ℕ) (again : Resend) → PhaseFits true (Cancelled until) again
cancelled_fits until again = OfCall (Cancelled until) again Call.Proceeding (ForCall.WhileCancelled until again)

-- a provisional response to the INVITE of a target
pub invite_heard_fits : (now status : ℕ) (phase : Phase) (again : Resend) → PhaseFits true phase again → PhaseFits true (invite_heard now status phase) again
invite_heard_fits now status (Unheard until) again fits = by_test (status == 100) where
  by_test : (t : Bool) → PhaseFits true (cond t (Heard (until + 153000)) (Heard (now + 185000))) again
  by_test true = heard_fits true (until + 153000) again
  by_test false = heard_fits true (now + 185000) again
invite_heard_fits now status (Heard until) again fits = by_test (status == 100) where
  by_test : (t : Bool) → PhaseFits true (cond t (Heard until) (Heard (now + 185000))) again
  by_test true = heard_fits true until again
  by_test false = heard_fits true (now + 185000) again
invite_heard_fits now status (Cancelled until) again fits = fits
invite_heard_fits now status (Done until first) again fits = fits
invite_heard_fits now status Ended again fits = fits

-- and to any other request
pub other_heard_fits : (call : Bool) (phase : Phase) (again : Resend) → PhaseFits call phase again → PhaseFits call (other_heard phase) again
other_heard_fits call (Unheard until) again fits = heard_fits call until again
other_heard_fits call (Heard until) again fits = fits
other_heard_fits call (Cancelled until) again fits = fits
other_heard_fits call (Done until status) again fits = fits
other_heard_fits call Ended again fits = fits

-- while a response goes again otherwise, the phase still fits
pub again_fits : (call : Bool) (phase : Phase) (before after : Resend) → PhaseFits call phase before → PhaseFits call phase after
again_fits _ _ before after (OfCall _ _ _ (ForCall.WhileUnheard until _)) = unheard_fits true until after
again_fits _ _ before after (OfCall _ _ _ (ForCall.WhileHeard until _)) = heard_fits true until after
again_fits _ _ before after (OfCall _ _ _ (ForCall.WhileCancelled until _)) = cancelled_fits until after
again_fits _ _ before after (OfCall _ _ _ (ForCall.AfterSuccess until status _ is)) =
    OfCall (Done until status) after Call.Accepted (ForCall.AfterSuccess until status after is)
again_fits _ _ before after (OfCall _ _ _ (ForCall.AfterFailure until status _ is)) =
    OfCall (Done until status) after Call.Completed (ForCall.AfterFailure until status after is)
again_fits _ _ before after (OfCall _ _ _ (ForCall.WhenEnded _)) = ended_fits true after
again_fits _ _ before after (OfOther _ _ _ (ForOther.WhileUnheard until _)) = unheard_fits false until after
again_fits _ _ before after (OfOther _ _ _ (ForOther.WhileHeard until _)) = heard_fits false until after
again_fits _ _ before after (OfOther _ _ _ (ForOther.AfterFinal until status _)) = OfOther (Done until status) after Other.Completed
    (ForOther.AfterFinal until status after)
again_fits _ _ before after (OfOther _ _ _ (ForOther.WhenEnded _)) = ended_fits false after

-- ---- lists of branches

-- each branch fits after a function of one that leaves each fitting
pub map_fits : (invite : Bool) (f : Branch → Branch) (bs : List Branch) → ((x : Branch) → BranchFits invite x → BranchFits invite (f x)) → BranchesFit invite bs
    → BranchesFit invite (map f bs)
map_fits invite f [] each all = tt
map_fits invite f (b ∷ bs) each all = (each b all.0, map_fits invite f bs each all.1)

-- one of the branches fits
pub one_fits : (invite : Bool) (bs : List Branch) (b : Branch) → BranchesFit invite bs → Contains bs b → BranchFits invite b
one_fits invite bs b all there = All-contains (BranchFits invite) bs b (All-from_recursion (BranchFits invite) bs all) there

-- two branches that are one are of one kind
same_kind : (first second : ℕ) (x y : Bool) → (first == second && cond x y (not y)) ≡ true → x ≡ y
same_kind first second x y e = by_test (first == second) x y e where
  by_test : (t x y : Bool) → (t && cond x y (not y)) ≡ true → x ≡ y
  by_test true true true e = refl
  by_test true true false e = absurd (cc)
  by_test true false true e = absurd (cc)
  by_test true false false e = refl
  by_test false x y e = absurd (cc)

-- a branch in another phase, which fits its kind
pub phased_fits : (invite : Bool) (b : Branch) (phase : Phase) (bs : List Branch) → PhaseFits (is_call invite b.is_cancel) phase b.again → BranchesFit invite bs
    → BranchesFit invite (map (phased b phase) bs)
phased_fits invite b phase bs fits all = map_fits invite (phased b phase) bs each all where
  each : (x : Branch) → BranchFits invite x → BranchFits invite (phased b phase x)
  each x before = by_test (is_same_branch x b) refl where
    by_test : (t : Bool) → is_same_branch x b ≡ t → BranchFits invite (cond t (turned b phase x) x)
    by_test true is = record {
      runs = subst (λ (c : Bool). PhaseFits (is_call invite c) phase b.again) (sym (same_kind x.number b.number x.is_cancel b.is_cancel is))
          fits;
      spared = before.spared;
    }
    by_test false is = before

-- branches of an INVITE that are to be cancelled
pub marked_fits : (bs : List Branch) → BranchesFit true bs → BranchesFit true (map marked_branch bs)
marked_fits bs all = map_fits true marked_branch bs each all where
  wanted : (x : Branch) (c : Bool) → x.is_cancel ≡ c → BranchFits true x → BranchFits true (cond (c || is_final x.phase) x (record x { wants_cancel = true }))
  wanted x true is before = before
  wanted x false is before = by_test (is_final x.phase) where
    by_test : (t : Bool) → BranchFits true (cond t x (record x { wants_cancel = true }))
    by_test true = before
    by_test false = record { runs = before.runs; spared = λ other. absurd (true≢false (subst (λ (c : Bool). is_call true c ≡ false) is other)) }

  each : (x : Branch) → BranchFits true x → BranchFits true (marked_branch x)
  each x before = wanted x x.is_cancel refl before

-- one branch of an INVITE that is to be cancelled, as far as it is one to a target
pub wanted_fits : (b : Branch) (bs : List Branch) → b.is_cancel ≡ false → BranchesFit true bs
    → BranchesFit true (map (λ (x : Branch). cond (is_same_branch x b) (record x { wants_cancel = true }) x) bs)
wanted_fits b bs target all = map_fits true (λ (x : Branch). cond (is_same_branch x b) (record x { wants_cancel = true }) x) bs each all where
  each : (x : Branch) → BranchFits true x → BranchFits true (cond (is_same_branch x b) (record x { wants_cancel = true }) x)
  each x before = by_test (is_same_branch x b) refl where
    by_test : (t : Bool) → is_same_branch x b ≡ t → BranchFits true (cond t (record x { wants_cancel = true }) x)
    by_test true is = record { runs = before.runs; spared = λ other. absurd (true≢false (subst (λ (c : Bool). is_call true c ≡ false) (is_target is) other)) } where
      is_target : is_same_branch x b ≡ true → x.is_cancel ≡ false
      is_target is = subst (λ (c : Bool). x.is_cancel ≡ c) target (same_kind x.number b.number x.is_cancel b.is_cancel is)
    by_test false is = before

-- ---- CANCELs

-- the branches with the CANCELs that are sent now
pub cancels_fit : (invite : Bool) (now : ℕ) (bs : List Branch) → BranchesFit invite bs → BranchesFit invite (flat_map (with_cancel now) bs)
cancels_fit invite now [] all = tt
cancels_fit invite now (b ∷ bs) all = by_test (is_cancellable b) refl (cancels_fit invite now bs all.1) where
  -- only the INVITE to a target is cancelled
  is_of_call : (k c w r : Bool) → (is_call k c ≡ false → w ≡ false) → (not c && w && r) ≡ true → (is_call k c ≡ true) × (c ≡ false)
  is_of_call true false w r spared e = (refl, refl)
  is_of_call false false true r spared e = absurd (true≢false (spared refl))
  is_of_call false false false r spared e = absurd (cc)
  is_of_call k true w r spared e = absurd (cc)

  held : is_cancellable b ≡ true → BranchFits invite (held_branch now b)
  held is = let kind : (is_call invite b.is_cancel ≡ true) × (b.is_cancel ≡ false) = is_of_call invite b.is_cancel b.wants_cancel (is_ready b.phase) all.0.spared is in
      record { runs = subst (λ (k : Bool). PhaseFits k (Cancelled (now + 32000)) b.again) (sym kind.0) (cancelled_fits (now + 32000) b.again); spared = all.0.spared }

  by_test : (t : Bool) → is_cancellable b ≡ t → BranchesFit invite (flat_map (with_cancel now) bs)
      → BranchesFit invite (cond t (held_branch now b ∷ cancel_branch now b ∷ []) (b ∷ []) ++ flat_map (with_cancel now) bs)
  by_test true is rest = (held is, (record { runs = unheard_fits false (now + 32000) (first_resend now); spared = λ other. refl }, rest))
  by_test false is rest = (all.0, rest)
