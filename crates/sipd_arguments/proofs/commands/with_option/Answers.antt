use Rattle.std.proofs.lemmas.Result.{IfOk-weaker}
use Rattle.sipd_arguments.proofs.Building.{added}
use Rattle.sipd_arguments.proofs.commands.with_option.Goals as goal

pub returns-in-Ok : goal.returns-in-Ok
returns-in-Ok c shape rule is said local =
    IfOk-weaker c.arg.result _ _ (λ r h. added shape _ r _ rule (rw c.in-Ok.is at is) h said local) c.arg.ensures
