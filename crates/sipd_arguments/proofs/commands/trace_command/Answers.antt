use Rattle.std.proofs.Common.{◌∙◌, ap, codes}
use Rattle.std.proofs.lemmas.Result.{IfOk-weaker}
use Rattle.clap.specs.Simple.{app_of_fields}
use Rattle.clap.specs.declared.builder.arg.Arg.{Arg}
use Rattle.clap.specs.declared.builder.command.Command.{Command}
use Rattle.clap.specs.declared.builder.command.Command.TheOpen.{Command-F}
use Rattle.sipd_arguments.proofs.Building.{begun, added, needed_rule}
use Rattle.sipd_arguments.proofs.commands.trace_command.Goals as goal

pub returns : goal.returns
returns c =
    IfOk-weaker c.arg-3.result _ _ (λ r h. added _ _ r _ _
    (added _ _ _ _ _
    (added _ _ _ _ _
    (c.in_ok-told.ensures _
    (begun _ (codes "trace") (ap app_of_fields c.override_usage.ensures ∙ ap app_of_fields c.about.ensures ∙ c.new.ensures.app)
    (ap (λ (f : Command-F Command). f.has_globals) c.override_usage.ensures ∙ ap (λ (f : Command-F Command). f.has_globals) c.about.ensures
    ∙ c.new.ensures.local)))
    c.in_ok-arg.ensures (needed_rule _ _ _ c.required.ensures c.option.ensures.rule)
    (ap (λ (x : Arg). x.global) c.required.ensures ∙ c.option.ensures.local))
    c.in_ok-arg-2.ensures c.flag.ensures.rule c.flag.ensures.local)
    h c.spare_word.ensures.rule c.spare_word.ensures.local) c.arg-3.ensures
