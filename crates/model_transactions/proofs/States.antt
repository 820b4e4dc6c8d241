-- What fits has a state of its machine.
use Rattle.std.proofs.Common.{◌≡◌, Bool, true, false, not, refl, sym, subst}
use Rattle.std.specs.Prelude.{◌&&◌}
use Rattle.sip_context_branches.specs.state.declared.branch.Branch.{Branch}
use Rattle.sip_context_branches.specs.state.declared.open_request.OpenRequest.{OpenRequest}
use Rattle.sip_context_branches.specs.state.State.{is_invite}
use Rattle.model_transactions.specs.Fits.{is_call, PhaseFits, OfCall, OfOther, BranchFits, SideFits, OfInvite, OfRequest, Fits, HasInviteClient, HasOtherClient}
use Rattle.model_transactions.specs.Fits.{HasInviteServer, HasOtherServer}

-- the two ways to say which transaction runs a branch
same_kind : (k c : Bool) → (k && not c) ≡ is_call k c
same_kind true true = refl
same_kind true false = refl
same_kind false true = refl
same_kind false false = refl

of_call : (b : Branch) → PhaseFits true b.phase b.again → HasInviteClient b
of_call b (OfCall _ _ state runs) = record { state = state; runs = runs }

of_other : (b : Branch) → PhaseFits false b.phase b.again → HasOtherClient b
of_other b (OfOther _ _ state runs) = record { state = state; runs = runs }

pub call_state : (r : OpenRequest) (b : Branch) → BranchFits (is_invite r) b → (is_invite r && not b.is_cancel) ≡ true → HasInviteClient b
call_state r b fits is = of_call b (subst (λ (k : Bool). PhaseFits k b.phase b.again) is
    (subst (λ (k : Bool). PhaseFits k b.phase b.again) (sym (same_kind (is_invite r) b.is_cancel)) fits.runs))

pub other_state : (r : OpenRequest) (b : Branch) → BranchFits (is_invite r) b → (is_invite r && not b.is_cancel) ≡ false → HasOtherClient b
other_state r b fits is = of_other b (subst (λ (k : Bool). PhaseFits k b.phase b.again) is
    (subst (λ (k : Bool). PhaseFits k b.phase b.again) (sym (same_kind (is_invite r) b.is_cancel)) fits.runs))

of_invite : (r : OpenRequest) → SideFits true r.side r.answer r.again → HasInviteServer r
of_invite r (OfInvite _ _ _ state runs) = record { state = state; runs = runs }

of_request : (r : OpenRequest) → SideFits false r.side r.answer r.again → HasOtherServer r
of_request r (OfRequest _ _ _ state runs) = record { state = state; runs = runs }

pub invite_state : (r : OpenRequest) → Fits r → is_invite r ≡ true → HasInviteServer r
invite_state r fits is = of_invite r (subst (λ (k : Bool). SideFits k r.side r.answer r.again) is fits.side)

pub request_state : (r : OpenRequest) → Fits r → is_invite r ≡ false → HasOtherServer r
request_state r fits is = of_request r (subst (λ (k : Bool). SideFits k r.side r.answer r.again) is fits.side)
