use Rattle.std.specs.Str.Parse.{ParsesUnsigned, ExplainsUnsignedError, HasUnsignedDigitsIfOk}
use Rattle.clap.specs.Words.{found_of}
use Rattle.sipd_arguments.proofs.Found.{number_read}
use Rattle.sipd_arguments.proofs.matches.number_of.Goals as goal

pub returns : goal.returns
returns c =
    number_read _ 32 (λ bs r. ParsesUnsigned 32 10 bs r × ExplainsUnsignedError 10 bs r × HasUnsignedDigitsIfOk bs r) (found_of c.args.matches.now) c.args.name.now
    c.get_one.result
    c.get_one.ensures.none c.get_one.ensures.value (λ u x g. g.0)
