use Rattle.std.proofs.Common.{◌∙◌, ap, codes}
use Rattle.std.proofs.lemmas.Result.{IfOk-weaker}
use Rattle.clap.specs.Simple.{app_of_fields}
use Rattle.clap.specs.declared.builder.command.Command.{Command}
use Rattle.clap.specs.declared.builder.command.Command.TheOpen.{Command-F}
use Rattle.sipd_arguments.proofs.Building.{begun, added}
use Rattle.sipd_arguments.proofs.commands.ladder_command.Goals as goal

pub returns : goal.returns
returns c =
    IfOk-weaker c.arg-2.result _ _ (λ r h. added _ _ r _ _
    (added _ _ _ _ _
    (c.in_ok-told.ensures _
    (begun _ (codes "ladder") (ap app_of_fields c.override_usage.ensures ∙ ap app_of_fields c.about.ensures ∙ c.new.ensures.app)
    (ap (λ (f : Command-F Command). f.has_globals) c.override_usage.ensures ∙ ap (λ (f : Command-F Command). f.has_globals) c.about.ensures
    ∙ c.new.ensures.local)))
    c.in_ok-arg.ensures c.flag.ensures.rule c.flag.ensures.local)
    h c.word.ensures.rule c.word.ensures.local) c.arg-2.ensures
