use Rattle.sipd_arguments.proofs.commands.and_command.Goals as goal

pub returns-in-Ok : goal.returns-in-Ok
returns-in-Ok c app shape is alone = c.with_command.ensures app shape (rw c.in-Ok.is at is) alone
