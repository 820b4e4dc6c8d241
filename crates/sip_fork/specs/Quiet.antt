-- Events with which nothing is sent, and deadlines that do no more than to end a transaction.
use Rattle.std.specs.Prelude.{◌≡◌, ◌&&◌, ◌||◌, ◌==◌, Bool, true, false, not, [], count_by, slice_get, Option, Some, None}
use Rattle.std.specs.List.{list_any}
use Rattle.sip_transaction_table.specs.declared.transaction.Transaction.{Transaction}
use Rattle.sip_transaction_table.specs.declared.transaction.Transaction.TheVariants.{Server, Client}
use Rattle.sip_dialog_updates.specs.state.State.{is_answering}
use Rattle.sip_dialog_updates.specs.state.declared.branch.Branch.{Branch}
use Rattle.sip_dialog_updates.specs.state.declared.branch.Phase.{Phase}
use Rattle.sip_dialog_updates.specs.state.declared.branch.Phase.TheVariants.{Unheard, Heard, Cancelled, Done, Ended}
use Rattle.sip_dialog_updates.specs.state.declared.open_request.OpenRequest.{OpenRequest}
use Rattle.model_steps.specs.context_model.Branches.{Change, is_cancellable, is_same_branch}

-- a change of a request with which nothing is sent
abbrev pub alone : OpenRequest → Change
alone r = record { request = r; acks = []; upward = []; cancels = [] }

-- nothing goes to the caller of a request any more by itself, and no branch is sent a CANCEL
pub record IsThrough (r : OpenRequest) : Type 0 where
  pub answered : is_answering r.side ≡ false
  pub none : list_any is_cancellable r.branches ≡ false

-- whether that is so
abbrev pub is_through : OpenRequest → Bool
is_through r = not (is_answering r.side) && not (list_any is_cancellable r.branches)

-- whether the final answer of a branch came, and it stays for what goes again
abbrev pub is_done : Phase → Bool
is_done (Unheard due) = false
is_done (Heard due) = false
is_done (Cancelled due) = false
is_done (Done due status) = true
is_done Ended = false

-- whether the deadline of a branch brings no answer: its own came, or it is a CANCEL
abbrev pub lingers : Branch → Bool
lingers b = b.is_cancel || is_done b.phase

-- whether the deadline of a branch only ends it: it lingers, its request is through, and no other branch has its number
abbrev pub branch_ends_alone : OpenRequest → Branch → Bool
branch_ends_alone r b = lingers b && (is_through r && (count_by (λ (x : Branch). is_same_branch x b) r.branches == 1))

-- the same of the branch at a place, if there is one
abbrev pub found_ends_alone : OpenRequest → Option Branch → Bool
found_ends_alone r None = false
found_ends_alone r (Some b) = branch_ends_alone r b

-- whether the deadline of a transaction of an open request does no more than to end it
abbrev pub ends_alone : Transaction → OpenRequest → Bool
ends_alone Server r = is_through r
ends_alone (Client place) r = found_ends_alone r (slice_get r.branches place)
