use Rattle.std.proofs.Common.{ℕ}
use Rattle.sip_context_branches.specs.state.declared.resend.Resend.{Resend}
use Rattle.sip_context_branches.specs.state.declared.branch.Phase.TheVariants.{Heard, Cancelled}
use Rattle.sip_transactions.specs.declared.client_invite.ClientInvite.{ClientInvite}
use Rattle.model_transactions.specs.InviteClient.{RunsInviteClient, WhileHeard, WhileCancelled}
use Rattle.model_transactions.proofs.invite_client.waits.Goals as goal

held : (until later : ℕ) (again : Resend) (state : ClientInvite) → RunsInviteClient (Heard until) again state → RunsInviteClient (Cancelled later) again state
held until later again _ (WhileHeard _ _) = WhileCancelled later again

pub returns-clause-cancelled : goal.returns-clause-cancelled
returns-clause-cancelled c = held
