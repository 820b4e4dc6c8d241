use Rattle.std.proofs.Common.{◌∙◌, ap, codes}
use Rattle.clap.specs.Simple.{app_of_fields}
use Rattle.clap.specs.declared.builder.command.Command.{Command}
use Rattle.clap.specs.declared.builder.command.Command.TheOpen.{Command-F}
use Rattle.sipd_arguments.proofs.Building.{begun}
use Rattle.sipd_arguments.proofs.commands.sources_command.Goals as goal

pub returns : goal.returns
returns c =
    c.forms.ensures _ (c.in_ok-counted.ensures _ (c.in_ok-told.ensures _
    (begun _ (codes "sources") (ap app_of_fields c.about.ensures ∙ c.new.ensures.app) (ap (λ (f : Command-F Command). f.has_globals) c.about.ensures
    ∙ c.new.ensures.local))))
