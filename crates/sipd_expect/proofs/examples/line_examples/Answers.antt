use Rattle.std.proofs.Common.{refl}
use Rattle.sipd_expect.proofs.examples.line_examples.Goals as goal

pub returns : goal.returns
returns c = record {
  anyone = refl;
  group = refl;
  nobody = refl;
  no_who = refl;
  no_group = refl;
  small = refl;
  no_target = refl;
  no_times = refl;
  no_place = refl;
  no_hop = refl;
}
