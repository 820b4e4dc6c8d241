use Rattle.std.proofs.Common.{◌≡◌, ℕ, ◌≤◌, Option, Some, None, IsSomeAnd, Contains, refl, sym, ap, subst}
use Rattle.sip_dialog_updates.specs.state.declared.branch.Branch.{Branch}
use Rattle.sip_dialog_updates.specs.state.declared.open_request.OpenRequest.{OpenRequest}
use Rattle.sip_dialog_updates.specs.state.declared.server.Server.{Server}
use Rattle.model_steps.specs.context_model.Retransmission.{answer_due, answer_next, branch_due, with_resend}
use Rattle.sip_context.specs.declared.input.Input.{Input}
use Rattle.sip_context.specs.declared.input.Input.TheVariants.{Response, BranchDeadline, SideDeadline, SendFault, Cancel, Ack, BranchAgain, AnswerAgain}
use Rattle.sip_context.specs.Inputs.{Outcome, outcome_of}
use Rattle.sip_request.specs.transactions_model.Fits.{Fits}
use Rattle.sip_request.specs.transactions_model.Matching.{AreBranched}
use Rattle.sip_request.specs.transactions_model.Kept.{AreKept}
use Rattle.sip_request.specs.transactions_model.Near.{IsBranchWithin, IsWithin}
use Rattle.sip_fork.specs.Keeping.{IsKeptAs, IsOf}
use Rattle.sip_fork.proofs.Same.{outcome_same}
use Rattle.sip_fork.proofs.keeping.inputs_keep.Goals as goal

pub returns-clause-change : goal.returns-clause-change
returns-clause-change c = λ server bound now r input fits within later of.
    let same = outcome_same server now r input in
    record {
      fits = fitting server now r input fits of;
      within = near server bound now r input within later of;
      number = same.0;
      key = same.1;
      branches = λ branched. kept server now r input of branched;
    } where
      fitting : (server : Server) (now : ℕ) (r : OpenRequest) (input : Input) → Fits r → IsOf r now input → Fits (outcome_of server now r input).request
      fitting server now r (Response branch status response) fits of = c.stays_fitting.ensures.responded server now status r branch.now response.now fits of
      fitting server now r (BranchDeadline branch) fits of = c.stays_fitting.ensures.overdue server now r branch.now fits
      fitting server now r SideDeadline fits of = c.stays_fitting.ensures.side_overdue server now r fits
      fitting server now r (SendFault branch) fits of = c.stays_fitting.ensures.send_failed server now r branch.now fits
      fitting server now r Cancel fits of = c.stays_fitting.ensures.cancelled server now r fits
      fitting server now r Ack fits of = c.stays_fitting.ensures.acknowledged now r fits
      fitting server now r (BranchAgain branch) fits of = c.goes_again_fitting.ensures.branch r branch.now fits
      fitting server now r AnswerAgain fits of = c.goes_again_fitting.ensures.answer r fits

      kept : (server : Server) (now : ℕ) (r : OpenRequest) (input : Input) → IsOf r now input → AreBranched r.branches
          → AreKept r.branches (outcome_of server now r input).request.branches
      kept server now r (Response branch status response) of branched = c.branches_are_kept.ensures.responded server now status r branch.now response.now branched of
      kept server now r (BranchDeadline branch) of branched = c.branches_are_kept.ensures.overdue server now r branch.now branched
      kept server now r SideDeadline of branched = c.branches_are_kept.ensures.side_overdue server now r branched
      kept server now r (SendFault branch) of branched = c.branches_are_kept.ensures.send_failed server now r branch.now branched
      kept server now r Cancel of branched = c.branches_are_kept.ensures.cancelled server now r branched
      kept server now r Ack of branched = c.branches_stay.ensures.acknowledged now r branched
      kept server now r (BranchAgain branch) of branched = c.branches_stay.ensures.branch_again r branch.now branched
      kept server now r AnswerAgain of branched = c.branches_stay.ensures.unchanged r.branches branched

      one : (bound : ℕ) (r : OpenRequest) (b : Branch) → IsWithin bound r → Contains r.branches b → IsBranchWithin bound b
      one = c.branches_are_within.ensures.each

      branch_again : (bound now : ℕ) (r : OpenRequest) (b : Branch) (o : Option ℕ) → branch_due r b ≡ o → IsSomeAnd o (λ due. due ≤ now) → IsWithin bound r → bound ≤ now
          → IsWithin now (with_resend b r)
      branch_again bound now r b None is come within later = absurd come
      branch_again bound now r b (Some due) is come within later = c.resend_keeps.ensures.branch bound now due r b later come is within

      answer_again : (bound now : ℕ) (r : OpenRequest) (o : Option ℕ) → answer_due r ≡ o → IsSomeAnd o (λ due. due ≤ now) → IsWithin bound r → bound ≤ now
          → IsWithin now (record r { again = answer_next r })
      answer_again bound now r None is come within later = absurd come
      answer_again bound now r (Some due) is come within later = c.resend_keeps.ensures.answer bound now due r later come is within

      near : (server : Server) (bound now : ℕ) (r : OpenRequest) (input : Input) → IsWithin bound r → bound ≤ now → IsOf r now input
          → IsWithin now (outcome_of server now r input).request
      near server bound now r (Response branch status response) within later of = c.response_keeps.ensures server bound now r branch.now status response.now later
          (one bound r branch.now within of) within
      near server bound now r (BranchDeadline branch) within later of = c.deadline_keeps.ensures.branch server bound now r branch.now later
          (one bound r branch.now within of) within
      near server bound now r SideDeadline within later of = c.deadline_keeps.ensures.side server bound now r later within
      near server bound now r (SendFault branch) within later of = c.fault_keeps.ensures server bound now r branch.now later (one bound r branch.now within of) within
      near server bound now r Cancel within later of = c.caller_keeps.ensures.cancel server bound now r later within
      near server bound now r Ack within later of = c.caller_keeps.ensures.ack bound now r later within
      near server bound now r (BranchAgain branch) within later of = branch_again bound now r branch.now (branch_due r branch.now) refl of.come within later
      near server bound now r AnswerAgain within later of = answer_again bound now r (answer_due r) refl of within later

pub returns-clause-planned : goal.returns-clause-planned
returns-clause-planned c = λ server bound now r x sending input fits within later of planned.
    let is : x ≡ (outcome_of server now r input).request = ap (λ (o : Outcome). o.request) planned in
    subst (λ (y : OpenRequest). IsKeptAs now r y) (sym is) (returns-clause-change c server bound now r input fits within later of)
