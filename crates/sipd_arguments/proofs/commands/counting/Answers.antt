use Rattle.sipd_arguments.proofs.commands.counting.Goals as goal

pub returns : goal.returns
returns c shape is =
    c.with_option.ensures _ _
    (c.with_option-command-2.ensures _ _
    (c.with_option-command.ensures _ _
    is
    c.option-since.ensures.rule c.option-since.ensures.local)
    c.option-until.ensures.rule c.option-until.ensures.local)
    c.option-from.ensures.rule c.option-from.ensures.local
