use Rattle.std.proofs.Common.{◌∙◌, ap, codes}
use Rattle.clap.specs.Simple.{app_of_fields}
use Rattle.clap.specs.declared.builder.arg.Arg.{Arg}
use Rattle.clap.specs.declared.builder.command.Command.{Command}
use Rattle.clap.specs.declared.builder.command.Command.TheOpen.{Command-F}
use Rattle.sipd_arguments.proofs.Building.{begun, needed_rule}
use Rattle.sipd_arguments.proofs.commands.matrix_command.Goals as goal

pub returns : goal.returns
returns c =
    c.with_option.ensures _ _
    (c.with_option-matrix-4.ensures _ _
    (c.with_option-matrix-3.ensures _ _
    (c.with_option-matrix-2.ensures _ _
    (c.with_option-matrix.ensures _ _
    (begun _ (codes "matrix") (ap app_of_fields c.about-matrix.ensures ∙ c.new.ensures.app) (ap (λ (f : Command-F Command). f.has_globals) c.about-matrix.ensures
    ∙ c.new.ensures.local))
    (needed_rule _ _ _ c.required.ensures c.config_argument.ensures.rule)
    (ap (λ (x : Arg). x.global) c.required.ensures ∙ c.config_argument.ensures.local))
    c.method_argument.ensures.rule c.method_argument.ensures.local)
    c.option.ensures.rule c.option.ensures.local)
    c.flag.ensures.rule c.flag.ensures.local)
    c.flag-html.ensures.rule c.flag-html.ensures.local
