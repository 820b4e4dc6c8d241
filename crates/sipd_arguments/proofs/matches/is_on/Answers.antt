use Rattle.clap.specs.Words.{found_of}
use Rattle.sipd_arguments.proofs.Found.{on_read}
use Rattle.sipd_arguments.proofs.matches.is_on.Goals as goal
use Rattle.std.proofs.Common.{◌∙◌}

pub returns : goal.returns
returns c = c.unwrap_or.ensures ∙ on_read _ (found_of c.args.matches.now) c.args.name.now c.get_one.result c.get_one.ensures.none c.get_one.ensures.value
