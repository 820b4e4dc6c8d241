-- The end of a transaction of an open request by its deadline.
use Rattle.std.specs.Prelude.{◌≡◌, ℕ, ◌&&◌, if◌then◌else◌, slice_get, Option, Some, None}
use Rattle.sip_transaction_table.specs.declared.transaction.Transaction.{Transaction}
use Rattle.sip_transaction_table.specs.declared.transaction.Transaction.TheVariants.{Server, Client}
use Rattle.sip_dialog_updates.specs.state.State.{has_left, is_invite}
use Rattle.sip_dialog_updates.specs.state.declared.branch.Branch.{Branch}
use Rattle.sip_dialog_updates.specs.state.declared.open_request.OpenRequest.{OpenRequest}
use Rattle.sip_context.specs.declared.input.Input.{Input}
use Rattle.sip_context.specs.declared.input.Input.TheVariants.{Response, BranchDeadline, SideDeadline, SendFault, Cancel, Ack, BranchAgain}
use Rattle.sip_context.specs.declared.input.Input.TheVariants.{AnswerAgain}
use Rattle.sip_request.specs.Ended.{branch_ended, side_ended}

-- an open request once a transaction of it ended
abbrev pub ended : Transaction → OpenRequest → OpenRequest
ended Server r = side_ended r
ended (Client place) r = branch_ended place r

-- the number of an INVITE that stays open no longer
abbrev pub left_invite : OpenRequest → Option ℕ
left_invite r = if is_invite r && has_left r then Some r.number else None

-- the transaction is that of this branch of an open request
abbrev pub IsOfBranch : OpenRequest → Transaction → Branch → Type 0
IsOfBranch r Server b = ⊥
IsOfBranch r (Client place) b = slice_get r.branches place ≡ Some b

-- the transaction is the server transaction
abbrev pub IsOfSide : Transaction → Type 0
IsOfSide Server = Unit {0}
IsOfSide (Client place) = ⊥

-- an input says that the deadline of a transaction of an open request passes
abbrev pub IsDeadlineOf : OpenRequest → Transaction → Input → Type 0
IsDeadlineOf r t (Response branch status response) = ⊥
IsDeadlineOf r t (BranchDeadline branch) = IsOfBranch r t branch.now
IsDeadlineOf r t SideDeadline = IsOfSide t
IsDeadlineOf r t (SendFault branch) = ⊥
IsDeadlineOf r t Cancel = ⊥
IsDeadlineOf r t Ack = ⊥
IsDeadlineOf r t (BranchAgain branch) = ⊥
IsDeadlineOf r t AnswerAgain = ⊥
