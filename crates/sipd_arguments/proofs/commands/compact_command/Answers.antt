use Rattle.std.proofs.Common.{◌∙◌, ap, codes}
use Rattle.clap.specs.Simple.{app_of_fields}
use Rattle.clap.specs.declared.builder.arg.Arg.{Arg}
use Rattle.clap.specs.declared.builder.command.Command.{Command}
use Rattle.clap.specs.declared.builder.command.Command.TheOpen.{Command-F}
use Rattle.sipd_arguments.proofs.Building.{begun, needed_rule}
use Rattle.sipd_arguments.proofs.commands.compact_command.Goals as goal

pub returns : goal.returns
returns c =
    c.with_option.ensures _ _
    (c.with_option-compact-2.ensures _ _
    (c.with_option-compact.ensures _ _
    (begun _ (codes "compact") (ap app_of_fields c.about-compact.ensures ∙ c.new.ensures.app) (ap (λ (f : Command-F Command). f.has_globals) c.about-compact.ensures
    ∙ c.new.ensures.local))
    (needed_rule _ _ _ c.required.ensures c.config_argument.ensures.rule)
    (ap (λ (x : Arg). x.global) c.required.ensures ∙ c.config_argument.ensures.local))
    c.word.ensures.rule c.word.ensures.local)
    c.word-2.ensures.rule c.word-2.ensures.local
