use Rattle.std.proofs.Common.{◌+◌, refl}
use Rattle.sip_context_branches.specs.state.State.{first_resend}
use Rattle.model_transactions.specs.InviteClient.{WhileUnheard}
use Rattle.model_transactions.proofs.invite_client.begins.Goals as goal

pub returns : goal.returns
returns c = λ now. record { fits = WhileUnheard (now + 32000) (first_resend now); does = refl; timers = refl }
