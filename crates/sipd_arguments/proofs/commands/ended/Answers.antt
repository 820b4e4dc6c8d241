use Rattle.std.proofs.Common.{◌∙◌, ap}
use Rattle.clap.specs.Simple.{app_of_fields}
use Rattle.clap.specs.declared.builder.command.Command.{Command}
use Rattle.clap.specs.declared.builder.command.Command.TheOpen.{Command-F}
use Rattle.sipd_arguments.proofs.commands.ended.Goals as goal

pub returns : goal.returns
returns c shape is = record {
  app = ap app_of_fields c.after_help.ensures ∙ is.app;
  local = ap (λ (f : Command-F Command). f.has_globals) c.after_help.ensures ∙ is.local;
}
