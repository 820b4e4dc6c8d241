use Rattle.std.proofs.Common.{◌∙◌, ap, codes}
use Rattle.clap.specs.Simple.{app_of_fields}
use Rattle.clap.specs.declared.builder.command.Command.{Command}
use Rattle.clap.specs.declared.builder.command.Command.TheOpen.{Command-F}
use Rattle.sipd_arguments.proofs.Building.{begun}
use Rattle.sipd_arguments.proofs.commands.user_command.Goals as goal

pub returns : goal.returns
returns c =
    c.with_option.ensures _ _
    (c.with_option-user-3.ensures _ _
    (c.with_option-user-2.ensures _ _
    (c.with_option-user.ensures _ _
    (begun _ (codes "user") (ap app_of_fields c.about-user.ensures ∙ c.new.ensures.app) (ap (λ (f : Command-F Command). f.has_globals) c.about-user.ensures
    ∙ c.new.ensures.local))
    c.word.ensures.rule c.word.ensures.local)
    c.config_argument.ensures.rule c.config_argument.ensures.local)
    c.realm_argument.ensures.rule c.realm_argument.ensures.local)
    c.sha256_argument.ensures.rule c.sha256_argument.ensures.local
