use Rattle.std.proofs.Common.{◌∙◌, ap, codes}
use Rattle.clap.specs.Simple.{app_of_fields}
use Rattle.clap.specs.declared.builder.arg.Arg.{Arg}
use Rattle.clap.specs.declared.builder.command.Command.{Command}
use Rattle.clap.specs.declared.builder.command.Command.TheOpen.{Command-F}
use Rattle.sipd_arguments.proofs.Building.{begun, needed_rule}
use Rattle.sipd_arguments.proofs.commands.check_command.Goals as goal

pub returns : goal.returns
returns c =
    c.with_option.ensures _ _
    (c.with_option-check-3.ensures _ _
    (c.with_option-check-2.ensures _ _
    (c.with_option-check.ensures _ _
    (begun _ (codes "check") (ap app_of_fields c.about-check.ensures ∙ c.new.ensures.app) (ap (λ (f : Command-F Command). f.has_globals) c.about-check.ensures
    ∙ c.new.ensures.local))
    (needed_rule _ _ _ c.required.ensures c.config_argument.ensures.rule)
    (ap (λ (x : Arg). x.global) c.required.ensures ∙ c.config_argument.ensures.local))
    c.flag.ensures.rule c.flag.ensures.local)
    c.option.ensures.rule c.option.ensures.local)
    c.option-2.ensures.rule c.option-2.ensures.local
