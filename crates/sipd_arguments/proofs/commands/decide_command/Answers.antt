use Rattle.std.proofs.Common.{◌∙◌, ap, codes}
use Rattle.clap.specs.Simple.{app_of_fields}
use Rattle.clap.specs.declared.builder.arg.Arg.{Arg}
use Rattle.clap.specs.declared.builder.command.Command.{Command}
use Rattle.clap.specs.declared.builder.command.Command.TheOpen.{Command-F}
use Rattle.sipd_arguments.proofs.Building.{begun, needed_rule}
use Rattle.sipd_arguments.proofs.commands.decide_command.Goals as goal

pub returns : goal.returns
returns c =
    c.with_option.ensures _ _
    (c.with_option-decide-6.ensures _ _
    (c.with_option-decide-5.ensures _ _
    (c.with_option-decide-4.ensures _ _
    (c.with_option-decide-3.ensures _ _
    (c.with_option-decide-2.ensures _ _
    (c.with_option-decide.ensures _ _
    (begun _ (codes "decide") (ap app_of_fields c.about-decide.ensures ∙ c.new.ensures.app) (ap (λ (f : Command-F Command). f.has_globals) c.about-decide.ensures
    ∙ c.new.ensures.local))
    (needed_rule _ _ _ c.required.ensures c.config_argument.ensures.rule)
    (ap (λ (x : Arg). x.global) c.required.ensures ∙ c.config_argument.ensures.local))
    c.option.ensures.rule c.option.ensures.local)
    c.minute_argument.ensures.rule c.minute_argument.ensures.local)
    c.option-2.ensures.rule c.option-2.ensures.local)
    c.flag.ensures.rule c.flag.ensures.local)
    c.spare_word-method.ensures.rule c.spare_word-method.ensures.local)
    c.spare_word-target.ensures.rule c.spare_word-target.ensures.local
