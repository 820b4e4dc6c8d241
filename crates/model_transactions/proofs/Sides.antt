-- The answering side fits its transaction after an answer, an ACK and its end.
use Rattle.std.proofs.Common.{◌≡◌, ℕ, ◌+◌, Bool, true, false, not, cond, Option, Some, None, refl, arith, leb}
use Rattle.std.proofs.lemmas.Bool.Decides.{nat_tests}
use Rattle.std.specs.Prelude.{◌&&◌}
use Rattle.sip_context_branches.specs.state.declared.resend.Resend.{Resend}
use Rattle.sip_context_branches.specs.state.declared.open_request.LastAnswer.{LastAnswer}
use Rattle.sip_context_branches.specs.state.declared.open_request.Side.{Side}
use Rattle.sip_context_branches.specs.state.declared.open_request.Side.TheVariants.{Answering, Closing, Acknowledged, Closed}
use Rattle.sip_context_branches.specs.state.State.{is_answering, is_success, is_provisional}
use Rattle.sip_transactions.specs.declared.server_invite.ServerInvite.TheVariants as OfInviteState
use Rattle.sip_transactions.specs.declared.server_other.ServerOther.TheVariants as OfOtherState
use Rattle.sip_context_branches.specs.context_model.Branches.{is_closing, has_success, was_refused, acknowledged_side}
use Rattle.model_transactions.specs.InviteServer as ForInvite
use Rattle.model_transactions.specs.OtherServer as ForOther
use Rattle.model_transactions.specs.Fits.{SideFits, OfInvite, OfRequest}
use Rattle.model_transactions.proofs.Phases.{failure_of}

-- before any answer
pub coming_fits : (invite : Bool) (again : Resend) → SideFits invite Answering None again
coming_fits true again = OfInvite Answering None again (OfInviteState.Proceeding false) (ForInvite.BeforeAnswer again)
coming_fits false again = OfRequest Answering None again OfOtherState.Trying ForOther.BeforeAnswer

-- when its transaction ended
pub closed_fits : (invite : Bool) (answer : Option LastAnswer) (again : Resend) → SideFits invite Closed answer again
closed_fits true answer again = OfInvite Closed answer again OfInviteState.Terminated (ForInvite.WhenClosed answer again)
closed_fits false answer again = OfRequest Closed answer again OfOtherState.Terminated (ForOther.WhenClosed answer)

-- behind a final answer
pub closing_fits : (invite : Bool) (until : ℕ) (a : LastAnswer) (again : Resend) → is_provisional a.status ≡ false → SideFits invite (Closing until) (Some a) again
closing_fits true until a again late = by_test (is_success a.status) refl where
  by_test : (t : Bool) → is_success a.status ≡ t → SideFits true (Closing until) (Some a) again
  by_test true is = OfInvite (Closing until) (Some a) again OfInviteState.Accepted (ForInvite.AfterSuccess until a again is)
  by_test false is = OfInvite (Closing until) (Some a) again (OfInviteState.Completed again.wait) (ForInvite.AfterFailure until a again (failure_of a.status late is))
closing_fits false until a again late = OfRequest (Closing until) (Some a) again OfOtherState.Completed (ForOther.AfterFinal until a late)

-- behind a provisional one
pub provisional_fits : (invite : Bool) (a : LastAnswer) (again : Resend) → is_provisional a.status ≡ true → SideFits invite Answering (Some a) again
provisional_fits true a again early = OfInvite Answering (Some a) again (OfInviteState.Proceeding true) (ForInvite.WhileProvisional a again early)
provisional_fits false a again early = OfRequest Answering (Some a) again OfOtherState.Proceeding (ForOther.WhileProvisional a early)

-- an answer of any status, while there is no final one
pub answered_fits : (invite : Bool) (side : Side) (until : ℕ) (a : LastAnswer) (again : Resend) → is_answering side ≡ true
    → SideFits invite (cond (is_answering side && not (is_provisional a.status)) (Closing until) side) (Some a) again
answered_fits invite Answering until a again is = by_test (is_provisional a.status) refl where
  by_test : (t : Bool) → is_provisional a.status ≡ t → SideFits invite (cond (not t) (Closing until) Answering) (Some a) again
  by_test true early = provisional_fits invite a again early
  by_test false late = closing_fits invite until a again late
answered_fits invite (Closing due) until a again is = absurd (cc)
answered_fits invite (Acknowledged due) until a again is = absurd (cc)
answered_fits invite Closed until a again is = absurd (cc)

-- a success isn't provisional
late_success : (s : ℕ) → is_success s ≡ true → is_provisional s ≡ false
late_success s ok = by_test (leb 200 s) refl ok where
  by_test : (t : Bool) → leb 200 s ≡ t → is_success s ≡ true → is_provisional s ≡ false
  by_test true e ok = grind (arith, nat_tests)
  by_test false e ok = absurd (cc)

-- one more 2xx of an INVITE that was accepted
pub accepted_fits : (invite : Bool) (side : Side) (answer : Option LastAnswer) (until : ℕ) (a : LastAnswer) (again : Resend)
    → (invite && is_closing side && has_success answer) ≡ true → is_success a.status ≡ true
    → SideFits invite (cond (is_answering side && not (is_provisional a.status)) (Closing until) side) (Some a) again
accepted_fits true (Closing due) answer until a again is ok = closing_fits true due a again (late_success a.status ok)
accepted_fits true Answering answer until a again is ok = absurd (cc)
accepted_fits true (Acknowledged due) answer until a again is ok = absurd (cc)
accepted_fits true Closed answer until a again is ok = absurd (cc)
accepted_fits false side answer until a again is ok = absurd (cc)

-- an ACK of a final answer to an INVITE that is no 2xx
pub acknowledged_fits : (now : ℕ) (side : Side) (answer : Option LastAnswer) (again : Resend) → was_refused answer ≡ true → SideFits true side answer again
    → SideFits true (acknowledged_side now side) answer again
acknowledged_fits now Answering answer again refused fits = fits
acknowledged_fits now (Closing due) None again refused fits = absurd (cc)
acknowledged_fits now (Closing due) (Some a) again refused fits = OfInvite (Acknowledged (now + 5000)) (Some a) again OfInviteState.Confirmed
    (ForInvite.AfterAck (now + 5000) a again refused)
acknowledged_fits now (Acknowledged due) answer again refused fits = fits
acknowledged_fits now Closed answer again refused fits = fits

-- it fits also when what goes again does so later
pub later_fits : (invite : Bool) (side : Side) (answer : Option LastAnswer) (before after : Resend) → SideFits invite side answer before
    → SideFits invite side answer after
later_fits _ _ _ before after (OfInvite _ _ _ _ (ForInvite.BeforeAnswer _)) = coming_fits true after
later_fits _ _ _ before after (OfInvite _ _ _ _ (ForInvite.WhileProvisional a _ early)) = provisional_fits true a after early
later_fits _ _ _ before after (OfInvite _ _ _ _ (ForInvite.AfterSuccess until a _ is)) =
    OfInvite (Closing until) (Some a) after OfInviteState.Accepted (ForInvite.AfterSuccess until a after is)
later_fits _ _ _ before after (OfInvite _ _ _ _ (ForInvite.AfterFailure until a _ is)) =
    OfInvite (Closing until) (Some a) after (OfInviteState.Completed after.wait) (ForInvite.AfterFailure until a after is)
later_fits _ _ _ before after (OfInvite _ _ _ _ (ForInvite.AfterAck until a _ is)) = OfInvite (Acknowledged until) (Some a) after OfInviteState.Confirmed
    (ForInvite.AfterAck until a after is)
later_fits _ _ _ before after (OfInvite _ _ _ _ (ForInvite.WhenClosed answer _)) = closed_fits true answer after
later_fits _ _ _ before after (OfRequest side answer _ state runs) = OfRequest side answer after state runs
