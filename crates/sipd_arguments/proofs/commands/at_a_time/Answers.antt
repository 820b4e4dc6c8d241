use Rattle.std.proofs.Common.{◌∙◌, ap}
use Rattle.clap.specs.declared.builder.arg.Arg.{Arg}
use Rattle.sipd_arguments.proofs.Building.{needed_rule}
use Rattle.sipd_arguments.proofs.commands.at_a_time.Goals as goal

pub returns : goal.returns
returns c shape is =
    c.with_option.ensures _ _
    (c.with_option-command-2.ensures _ _
    (c.with_option-command.ensures _ _
    is
    (needed_rule _ _ _ c.required.ensures c.one_day_argument.ensures.rule)
    (ap (λ (x : Arg). x.global) c.required.ensures ∙ c.one_day_argument.ensures.local))
    c.old_config_argument.ensures.rule c.old_config_argument.ensures.local)
    c.at_argument.ensures.rule c.at_argument.ensures.local
