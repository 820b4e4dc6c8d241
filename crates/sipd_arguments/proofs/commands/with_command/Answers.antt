use Rattle.std.proofs.lemmas.Result.{IfOk-weaker}
use Rattle.sipd_arguments.proofs.Building.{placed}
use Rattle.sipd_arguments.proofs.commands.with_command.Goals as goal

pub returns-in-Ok : goal.returns-in-Ok
returns-in-Ok c app shape is alone =
    IfOk-weaker c.subcommand.result _ _ (λ r h. placed app shape _ _ r is (c.ended.ensures shape (rw c.in-Ok.is at alone)) h) c.subcommand.ensures
