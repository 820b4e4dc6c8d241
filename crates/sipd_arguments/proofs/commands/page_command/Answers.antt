use Rattle.std.proofs.Common.{◌∙◌, ap, codes}
use Rattle.std.proofs.lemmas.Result.{IfOk-weaker}
use Rattle.clap.specs.Simple.{app_of_fields}
use Rattle.clap.specs.declared.builder.arg.Arg.{Arg}
use Rattle.clap.specs.declared.builder.command.Command.{Command}
use Rattle.clap.specs.declared.builder.command.Command.TheOpen.{Command-F}
use Rattle.sipd_arguments.proofs.Building.{begun, added}
use Rattle.sipd_arguments.proofs.commands.page_command.Goals as goal

pub returns : goal.returns
returns c =
    IfOk-weaker c.arg.result _ _ (λ r h. added _ _ r _ _
    (c.in_ok-told.ensures _
    (begun _ (codes "page") (ap app_of_fields c.about.ensures ∙ c.new.ensures.app) (ap (λ (f : Command-F Command). f.has_globals) c.about.ensures
    ∙ c.new.ensures.local)))
    h c.option.ensures.rule c.option.ensures.local) c.arg.ensures
