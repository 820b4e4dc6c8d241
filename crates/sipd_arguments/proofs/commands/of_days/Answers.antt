use Rattle.std.proofs.Common.{◌∙◌, ap}
use Rattle.std.proofs.lemmas.Result.{IfOk-weaker}
use Rattle.clap.specs.declared.builder.arg.Arg.{Arg}
use Rattle.sipd_arguments.proofs.Building.{added, needed_rule}
use Rattle.sipd_arguments.proofs.commands.of_days.Goals as goal

pub returns : goal.returns
returns c shape is =
    IfOk-weaker c.arg-2.result _ _ (λ r h. added _ _ r _ _
    (added _ _ _ _ _
    is
    c.in_ok-arg.ensures (needed_rule _ _ _ c.required.ensures c.days_argument.ensures.rule)
    (ap (λ (x : Arg). x.global) c.required.ensures ∙ c.days_argument.ensures.local))
    h c.old_config_argument.ensures.rule c.old_config_argument.ensures.local) c.arg-2.ensures
