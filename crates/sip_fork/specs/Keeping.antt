-- Which inputs are about an open request, and what is kept of it with each event (RFC 3261 16.7 to 16.10, 17).
use Rattle.std.specs.Prelude.{◌≡◌, ◌≤◌, ℕ, Contains, IsSomeAnd}
use Rattle.sip_dialog_updates.specs.state.declared.branch.Branch.{Branch}
use Rattle.sip_dialog_updates.specs.state.declared.open_request.OpenRequest.{OpenRequest}
use Rattle.model_steps.specs.context_model.Retransmission.{answer_due, branch_due}
use Rattle.sip_context.specs.declared.input.Input.{Input}
use Rattle.sip_context.specs.declared.input.Input.TheVariants.{Response, BranchDeadline, SideDeadline, SendFault, Cancel, Ack, BranchAgain}
use Rattle.sip_context.specs.declared.input.Input.TheVariants.{AnswerAgain}
use Rattle.sip_request.specs.transactions_model.Fits.{Fits}
use Rattle.sip_request.specs.transactions_model.Matching.{AreBranched}
use Rattle.sip_request.specs.transactions_model.Near.{IsWithin}
use Rattle.sip_request.specs.transactions_model.Kept.{AreKept}

-- a branch of a request is one whose moment has come to send again (RFC 3261 17.1.1.2, 17.1.2.2)
pub record IsToSendAgain (r : OpenRequest) (now : ℕ) (b : Branch) : Type 0 where
  pub there : Contains r.branches b
  pub come : IsSomeAnd (branch_due r b) (λ due. due ≤ now)

-- An input is about a request at a moment: the branch that it names is one of the request's, and what goes again does so at its moment or later.
abbrev pub IsOf : OpenRequest → ℕ → Input → Type 0
IsOf r now (Response branch status response) = Contains r.branches branch.now
IsOf r now (BranchDeadline branch) = Contains r.branches branch.now
IsOf r now SideDeadline = Unit {0}
IsOf r now (SendFault branch) = Contains r.branches branch.now
IsOf r now Cancel = Unit {0}
IsOf r now Ack = Unit {0}
IsOf r now (BranchAgain branch) = IsToSendAgain r now branch.now
IsOf r now AnswerAgain = IsSomeAnd (answer_due r) (λ due. due ≤ now)

-- What a request becomes at a moment is kept: its parts fit their transactions, its moments are near that one, its number and
-- its key are what they were, and its branches are those that it had, in their order, with CANCELs that join them.
pub record IsKeptAs (now : ℕ) (r x : OpenRequest) : Type 0 where
  pub fits : Fits x
  pub within : IsWithin now x
  pub number : x.number ≡ r.number
  pub key : x.key ≡ r.key
  pub branches : AreBranched r.branches → AreKept r.branches x.branches
