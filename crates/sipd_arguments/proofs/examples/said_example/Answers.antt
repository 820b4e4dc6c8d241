use Rattle.std.proofs.Common.{refl}
use Rattle.clap.proofs.OnLiterals.{clap_on_literals}
use Rattle.sipd_arguments.proofs.examples.said_example.Goals as goal

pub returns : goal.returns
unfolding clap_on_literals
returns c = record {
  turns = refl;
  no_turns = refl;
  file = refl;
  reload = refl;
  no_reload = refl;
  status = refl;
  ends = refl;
  goes_on = refl;
  days = refl;
  no_days = refl;
  second = refl;
  never = refl;
  records = refl;
  denied = refl;
  anything = refl;
}
