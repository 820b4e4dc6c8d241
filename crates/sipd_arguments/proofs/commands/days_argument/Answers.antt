use Rattle.sipd_arguments.proofs.Building.{several_rule}
use Rattle.sipd_arguments.proofs.commands.days_argument.Goals as goal

pub returns-clause-rule : goal.returns-clause-rule
returns-clause-rule c =
    several_rule c.option.result c.num_args.result c.action.result _ c.num_args.ensures.0 c.num_args.ensures.1 c.action.ensures c.option.ensures.rule
