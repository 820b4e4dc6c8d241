-- What a step without a datagram is made of.
use Rattle.std.specs.Prelude.{ℕ, ◌≡◌, ◌≢◌, true, List, [], Contains, Option, Some, None}
use Rattle.sip_event.specs.declared.event.StepOut.{StepOut}
use Rattle.sip_event.specs.declared.packet.Packet.{Packet}
use Rattle.sip_proxy.specs.Drafts.{IsDrafted}
use Rattle.sip_proxy.specs.Proxy.{Becomes}
use Rattle.sip_proxy.specs.context_model.Branches.{Change}
use Rattle.sip_proxy.specs.declared.drafting.EventDraft.{EventDraft}
use Rattle.sip_proxy.specs.fork.Due.{GoesAgainBefore, IsOfOwner, is_of}
use Rattle.sip_proxy.specs.fork.declared.first_due.Due.{Due}
use Rattle.sip_proxy.specs.fork.declared.first_due.Due.TheVariants as What
use Rattle.sip_proxy.specs.fork.transaction_table.declared.transaction.Transaction.{Transaction}
use Rattle.sip_proxy.specs.fork.transaction_table.declared.transaction.Transaction.TheVariants as Transactions
use Rattle.sip_proxy.specs.fork.context.Inputs.{changing, outcome_of}
use Rattle.sip_proxy.specs.fork.Quiet.{alone}
use Rattle.sip_proxy.specs.forwarding.Forwarding.{AreSent, Teach}
use Rattle.sip_hops.specs.declared.host_address.HostAddress.{HostAddress}
use Rattle.sip_proxy.specs.context.declared.input.Input.{Input}
use Rattle.sip_proxy.specs.context.declared.input.Input.TheVariants.{Response, BranchDeadline, SideDeadline, SendFault, Cancel, Ack}
use Rattle.sip_proxy.specs.context.declared.input.Input.TheVariants.{BranchAgain, AnswerAgain}
use Rattle.sip_dialog_updates.specs.declared.dialog_update.DialogUpdate.{DialogUpdate}
use Rattle.sip_proxy.specs.steps_model.Effect.{change_packets, dialogs_after}
use Rattle.sip_proxy.specs.context_model.Retransmission.{answer_due, branch_due}
use Rattle.sip_dialog_updates.specs.state.State.{phase_deadline, side_deadline}
use Rattle.sip_dialog_updates.specs.state.declared.branch.Branch.{Branch}
use Rattle.sip_dialog_updates.specs.state.declared.open_request.OpenRequest.{OpenRequest}
use Rattle.sip_dialog_updates.specs.state.declared.proxy_state.ProxyState.{ProxyState}
use Rattle.sip_dialog_updates.specs.state.declared.server.Server.{Server}
use Rattle.sip_timers.specs.declared.timer.Owner.{Owner}
use Rattle.sip_timers.specs.declared.timer.Owner.TheVariants as Of

-- At its moment a step put out these packets and no record; it left these open requests, of the dialogs what these updates make of
-- them, and all else as it was.
pub record Leaves (now : ℕ) (packets : List Packet) (requests : List OpenRequest) (updates : List DialogUpdate) (old : ProxyState) (out : StepOut)
    (new : ProxyState) : Type 0 where
  pub at_moment : out.at ≡ now
  pub packets_are : out.packets ≡ packets
  pub records_are : out.records ≡ []
  pub becomes : Becomes now requests updates old new

-- What was drafted of a change of an open request: the request as it becomes, what is sent, and what the dialogs learn; nothing goes again.
pub record IsDraftOf (rows : List HostAddress) (server : Server) (now : ℕ) (change : Change) (draft : EventDraft) : Type 0 where
  pub request : draft.change ≡ change.request
  pub sent : AreSent (change_packets change) [] draft.drafted.packets
  pub updates : Teach rows server now draft.drafted.updates (dialogs_after server now change)

-- a branch is one of these, and this is its moment
pub record IsBranchDue (moment_of : Branch → Option ℕ) (branches : List Branch) (b : Branch) (due : ℕ) : Type 0 where
  pub there : Contains branches b
  pub is : moment_of b ≡ Some due

-- An input says what of a request is due at a moment: the last answer goes again, or what a branch sends; or the deadline of the
-- answering side passes, or that of a branch (RFC 3261 17).
abbrev pub IsDueAs : OpenRequest → ℕ → Input → Type 0
IsDueAs r due (Response branch status response) = ⊥
IsDueAs r due (BranchDeadline branch) = IsBranchDue (λ (b : Branch). phase_deadline b.phase) r.branches branch.now due
IsDueAs r due SideDeadline = side_deadline r.side ≡ Some due
IsDueAs r due (SendFault branch) = ⊥
IsDueAs r due Cancel = ⊥
IsDueAs r due Ack = ⊥
IsDueAs r due (BranchAgain branch) = IsBranchDue (branch_due r) r.branches branch.now due
IsDueAs r due AnswerAgain = answer_due r ≡ Some due

-- an input is of the part of an open request whose timers have this owner
abbrev pub IsInputOf : Owner → Input → Type 0
IsInputOf owner (Response branch status response) = ⊥
IsInputOf owner (BranchDeadline branch) = is_of owner branch.now ≡ true
IsInputOf owner SideDeadline = owner ≡ Of.Server
IsInputOf owner (SendFault branch) = ⊥
IsInputOf owner Cancel = ⊥
IsInputOf owner Ack = ⊥
IsInputOf owner (BranchAgain branch) = is_of owner branch.now ≡ true
IsInputOf owner AnswerAgain = owner ≡ Of.Server

-- an input is of the part of which this is due
abbrev pub IsOfPart : OpenRequest → Due → Input → Type 0
IsOfPart r what input = (owner : Owner) → IsOfOwner r owner what → IsInputOf owner input

-- an input is a deadline only where nothing of its part goes again at that moment
abbrev pub IsLastOf : OpenRequest → ℕ → Input → Type 0
IsLastOf r due (Response branch status response) = Unit {0}
IsLastOf r due (BranchDeadline branch) = branch_due r branch.now ≢ Some due
IsLastOf r due SideDeadline = answer_due r ≢ Some due
IsLastOf r due (SendFault branch) = Unit {0}
IsLastOf r due Cancel = Unit {0}
IsLastOf r due Ack = Unit {0}
IsLastOf r due (BranchAgain branch) = Unit {0}
IsLastOf r due AnswerAgain = Unit {0}

-- What was drafted of an open request is what it does by which is due of it.
pub record IsFired (rows : List HostAddress) (server : Server) (due : ℕ) (what : Due) (r : OpenRequest) (draft : EventDraft) : Type 0 where
  pub input : Input
  pub is_due : IsDueAs r due input
  pub is_part : IsOfPart r what input
  pub is_last : GoesAgainBefore r due what → IsLastOf r due input
  pub drafted : IsDrafted rows server due r input draft

-- ---- the end of a transaction

-- the transaction whose deadline passes, if one does
abbrev pub ending_of : Due → Option Transaction
ending_of What.AnswerAgain = None
ending_of What.AnswerEnds = Some Transactions.Server
ending_of (What.BranchAgain place) = None
ending_of (What.BranchEnds place) = Some (Transactions.Client place)

-- What is due of an open request at its moment makes it this one, and nothing is sent.
pub record IsQuietEnd (due : ℕ) (what : Due) (r next : OpenRequest) : Type 0 where
  pub input : Input
  pub is_due : IsDueAs r due input
  pub is_part : IsOfPart r what input
  pub is_last : GoesAgainBefore r due what → IsLastOf r due input
  pub outcome : (server : Server) → outcome_of server due r input ≡ changing (alone next) []
