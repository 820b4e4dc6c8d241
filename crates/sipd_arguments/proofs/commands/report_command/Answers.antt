use Rattle.std.proofs.Common.{◌∙◌, ap, codes}
use Rattle.std.proofs.lemmas.Result.{IfOk-weaker}
use Rattle.clap.specs.Simple.{app_of_fields}
use Rattle.clap.specs.Words.{rule_of}
use Rattle.clap.specs.declared.builder.arg.Arg.{Arg}
use Rattle.clap.specs.declared.builder.command.Command.{Command}
use Rattle.clap.specs.declared.builder.command.Command.TheOpen.{Command-F}
use Rattle.sipd_arguments.proofs.Building.{begun, added}
use Rattle.sipd_arguments.proofs.commands.report_command.Goals as goal

pub returns : goal.returns
returns c =
    IfOk-weaker c.arg-3.result _ _ (λ r h. added _ _ r _ _
    (c.in_ok-sifted.ensures _
    (added _ _ _ _ _
    (added _ _ _ _ _
    (begun _ (codes "report") (ap app_of_fields c.about.ensures ∙ c.new.ensures.app) (ap (λ (f : Command-F Command). f.has_globals) c.about.ensures
    ∙ c.new.ensures.local))
    c.in_ok-arg.ensures c.config_argument.ensures.rule c.config_argument.ensures.local)
    c.in_ok-clocked.ensures (ap rule_of c.help.ensures ∙ c.days_argument.ensures.rule)
    (ap (λ (x : Arg). x.global) c.help.ensures ∙ c.days_argument.ensures.local)))
    h c.flag.ensures.rule c.flag.ensures.local) c.arg-3.ensures
