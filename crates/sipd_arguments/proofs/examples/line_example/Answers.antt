use Rattle.std.proofs.Common.{refl}
use Rattle.clap.proofs.OnLiterals.{clap_on_literals}
use Rattle.sipd_arguments.proofs.examples.line_example.Goals as goal

pub returns : goal.returns
unfolding clap_on_literals
returns c = record {
  check = refl;
  expect = refl;
  joined = refl;
  compact = refl;
  serve = refl;
  decide = refl;
  expected = refl;
  log = refl;
  matrix = refl;
  changes = refl;
  values = refl;
  no_option = refl;
  user = refl;
  calls = refl;
  phones = refl;
  now = refl;
  trace = refl;
  no_capture = refl;
  drawn = refl;
  ladder = refl;
  counted = refl;
  unproven = refl;
  paged = refl;
  no_call = refl;
  no_records = refl;
  empty_records = refl;
  no_command = refl;
  other_command = refl;
  nothing_named = refl;
  no_new = refl;
  nobody = refl;
  no_value = refl;
  twice = refl;
  unknown = refl;
  no_number = refl;
  too_few = refl;
  most = refl;
  too_many = refl;
  too_long = refl;
  last_minute = refl;
  no_minute = refl;
  one_word_more = refl;
  help = refl;
  version = refl;
}
