use Rattle.sipd_arguments.proofs.commands.sifting.Goals as goal

pub returns : goal.returns
returns c shape is =
    c.with_option.ensures _ _
    (c.with_option-command-6.ensures _ _
    (c.with_option-command-5.ensures _ _
    (c.with_option-command-4.ensures _ _
    (c.with_option-command-3.ensures _ _
    (c.with_option-command-2.ensures _ _
    (c.with_option-command.ensures _ _
    is
    c.option-since.ensures.rule c.option-since.ensures.local)
    c.option-until.ensures.rule c.option-until.ensures.local)
    c.option-user.ensures.rule c.option-user.ensures.local)
    c.option-target.ensures.rule c.option-target.ensures.local)
    c.rule_argument.ensures.rule c.rule_argument.ensures.local)
    c.flag-denied.ensures.rule c.flag-denied.ensures.local)
    c.outcome_argument.ensures.rule c.outcome_argument.ensures.local
