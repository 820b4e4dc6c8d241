use Rattle.sipd_arguments.proofs.Building.{added}
use Rattle.sipd_arguments.proofs.commands.calls_command.Goals as goal

pub returns : goal.returns
returns c =
    c.forms.ensures _ (added _ _ _ _ _ (c.in_ok-chosen.ensures _ c.in_ok-command.ensures) c.in_ok-all_chosen.ensures c.challenged_argument.ensures.rule
    c.challenged_argument.ensures.local)
