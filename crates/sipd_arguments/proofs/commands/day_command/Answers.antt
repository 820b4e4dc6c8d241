use Rattle.std.proofs.Common.{◌∙◌, ap, codes}
use Rattle.std.proofs.lemmas.Result.{IfOk-weaker}
use Rattle.clap.specs.Simple.{app_of_fields}
use Rattle.clap.specs.declared.builder.arg.Arg.{Arg}
use Rattle.clap.specs.declared.builder.command.Command.{Command}
use Rattle.clap.specs.declared.builder.command.Command.TheOpen.{Command-F}
use Rattle.sipd_arguments.proofs.Building.{begun, added, needed_rule}
use Rattle.sipd_arguments.proofs.commands.day_command.Goals as goal

pub returns : goal.returns
returns c =
    IfOk-weaker c.arg-2.result _ _ (λ r h. added _ _ r _ _
    (added _ _ _ _ _
    (begun _ (codes "calls") (ap app_of_fields c.about.ensures ∙ c.new.ensures.app) (ap (λ (f : Command-F Command). f.has_globals) c.about.ensures ∙ c.new.ensures.local))
    c.in_ok-arg.ensures (needed_rule _ _ _ c.required.ensures c.days_argument.ensures.rule)
    (ap (λ (x : Arg). x.global) c.required.ensures ∙ c.days_argument.ensures.local))
    h c.old_config_argument.ensures.rule c.old_config_argument.ensures.local) c.arg-2.ensures
