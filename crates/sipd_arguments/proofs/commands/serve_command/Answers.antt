use Rattle.std.proofs.Common.{◌∙◌, ap, codes}
use Rattle.clap.specs.Simple.{app_of_fields}
use Rattle.clap.specs.declared.builder.arg.Arg.{Arg}
use Rattle.clap.specs.declared.builder.command.Command.{Command}
use Rattle.clap.specs.declared.builder.command.Command.TheOpen.{Command-F}
use Rattle.sipd_arguments.proofs.Building.{begun, needed_rule}
use Rattle.sipd_arguments.proofs.commands.serve_command.Goals as goal

pub returns : goal.returns
returns c =
    c.with_option.ensures _ _
    (c.with_option-serve-10.ensures _ _
    (c.with_option-serve-9.ensures _ _
    (c.with_option-serve-8.ensures _ _
    (c.with_option-serve-7.ensures _ _
    (c.with_option-serve-6.ensures _ _
    (c.with_option-serve-5.ensures _ _
    (c.with_option-serve-4.ensures _ _
    (c.with_option-serve-3.ensures _ _
    (c.with_option-serve-2.ensures _ _
    (c.with_option-serve.ensures _ _
    (begun _ (codes "serve") (ap app_of_fields c.about-serve.ensures ∙ c.new.ensures.app) (ap (λ (f : Command-F Command). f.has_globals) c.about-serve.ensures
    ∙ c.new.ensures.local))
    (needed_rule _ _ _ c.required.ensures c.config_argument.ensures.rule)
    (ap (λ (x : Arg). x.global) c.required.ensures ∙ c.config_argument.ensures.local))
    c.turns_argument.ensures.rule c.turns_argument.ensures.local)
    c.record_argument.ensures.rule c.record_argument.ensures.local)
    c.records_argument.ensures.rule c.records_argument.ensures.local)
    c.record_fault_argument.ensures.rule c.record_fault_argument.ensures.local)
    c.resume_argument.ensures.rule c.resume_argument.ensures.local)
    c.keep_argument.ensures.rule c.keep_argument.ensures.local)
    c.sync_argument.ensures.rule c.sync_argument.ensures.local)
    c.per_source_argument.ensures.rule c.per_source_argument.ensures.local)
    c.status_argument.ensures.rule c.status_argument.ensures.local)
    c.flag.ensures.rule c.flag.ensures.local
