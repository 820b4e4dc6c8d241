-- An open request whose parts fit their transactions: each is as some state of its machine has it (RFC 3261 17, RFC 6026).
use Rattle.std.specs.Prelude.{◌≡◌, ℕ, Bool, true, false, List, Option}
use Rattle.std.specs.List.{AllByRecursion}
use Rattle.sip_transactions.specs.declared.client_invite.ClientInvite.{ClientInvite}
use Rattle.sip_transactions.specs.declared.client_other.ClientOther.{ClientOther}
use Rattle.sip_transactions.specs.declared.server_invite.ServerInvite.{ServerInvite}
use Rattle.sip_transactions.specs.declared.server_other.ServerOther.{ServerOther}
use Rattle.sip_context_branches.specs.state.declared.branch.Branch.{Branch}
use Rattle.sip_context_branches.specs.state.declared.branch.Phase.{Phase}
use Rattle.sip_context_branches.specs.state.declared.resend.Resend.{Resend}
use Rattle.sip_context_branches.specs.state.declared.open_request.LastAnswer.{LastAnswer}
use Rattle.sip_context_branches.specs.state.declared.open_request.OpenRequest.{OpenRequest}
use Rattle.sip_context_branches.specs.state.declared.open_request.Side.{Side}
use Rattle.sip_context_branches.specs.state.State.{is_invite, is_provisional}
use Rattle.model_transactions.specs.InviteClient.{RunsInviteClient}
use Rattle.model_transactions.specs.OtherClient.{RunsOtherClient}
use Rattle.model_transactions.specs.InviteServer.{RunsInviteServer}
use Rattle.model_transactions.specs.OtherServer.{RunsOtherServer}

-- whether the client transaction of an INVITE runs a branch: that of its CANCEL is of the other kind (RFC 3261 9.1)
abbrev pub is_call : Bool → Bool → Bool
is_call invite true = false
is_call invite false = invite

-- a phase is one of the client transaction of an INVITE, or of the other one (RFC 3261 17.1)
pub data PhaseFits : Bool → Phase → Resend → Type 0 where
  OfCall : (phase : Phase) (again : Resend) (state : ClientInvite) → RunsInviteClient phase again state → PhaseFits true phase again
  OfOther : (phase : Phase) (again : Resend) (state : ClientOther) → RunsOtherClient phase again state → PhaseFits false phase again

-- A branch fits its transaction; and only the INVITE to a target is ever to be cancelled (RFC 3261 9.1, 16.10).
pub record BranchFits (invite : Bool) (b : Branch) : Type 0 where
  pub runs : PhaseFits (is_call invite b.is_cancel) b.phase b.again
  pub spared : is_call invite b.is_cancel ≡ false → b.wants_cancel ≡ false

-- the answering side fits the server transaction of an INVITE, or the other one (RFC 3261 17.2)
pub data SideFits : Bool → Side → Option LastAnswer → Resend → Type 0 where
  OfInvite : (side : Side) (answer : Option LastAnswer) (again : Resend) (state : ServerInvite) → RunsInviteServer side answer again state
      → SideFits true side answer again
  OfRequest : (side : Side) (answer : Option LastAnswer) (again : Resend) (state : ServerOther) → RunsOtherServer side answer state
      → SideFits false side answer again

-- a status is that of a final answer (RFC 3261 7.2)
abbrev pub IsFinalAnswer : ℕ → Type 0
IsFinalAnswer status = is_provisional status ≡ false

-- all branches fit
abbrev pub BranchesFit : Bool → List Branch → Type 0
BranchesFit invite branches = AllByRecursion (BranchFits invite) branches

-- the whole
pub record Fits (r : OpenRequest) : Type 0 where
  pub side : SideFits (is_invite r) r.side r.answer r.again
  pub branches : BranchesFit (is_invite r) r.branches

-- ---- the states, for who steps the machines

-- a state of the client transaction of an INVITE
pub record HasInviteClient (b : Branch) : Type 0 where
  pub state : ClientInvite
  pub runs : RunsInviteClient b.phase b.again state

-- a state of the other client transaction
pub record HasOtherClient (b : Branch) : Type 0 where
  pub state : ClientOther
  pub runs : RunsOtherClient b.phase b.again state

-- a state of the server transaction of an INVITE
pub record HasInviteServer (r : OpenRequest) : Type 0 where
  pub state : ServerInvite
  pub runs : RunsInviteServer r.side r.answer r.again state

-- a state of the other server transaction
pub record HasOtherServer (r : OpenRequest) : Type 0 where
  pub state : ServerOther
  pub runs : RunsOtherServer r.side r.answer state
