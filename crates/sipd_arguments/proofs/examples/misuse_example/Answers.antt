use Rattle.std.proofs.Common.{refl}
use Rattle.clap.proofs.OnLiterals.{clap_on_literals}
use Rattle.sipd_arguments.proofs.examples.misuse_example.Goals as goal

pub returns : goal.returns
unfolding clap_on_literals
returns c = record {
  plain = refl;
  resumed = refl;
  in_folder = refl;
  two = refl;
  not_new = refl;
  no_record = refl;
  no_such_word = refl;
  kept = refl;
  no_folder = refl;
  nothing_synced = refl;
  no_such_sync = refl;
  one_form = refl;
  page = refl;
  two_forms = refl;
  page_of_values = refl;
  with_file = refl;
  no_realm = refl;
  csv_alone = refl;
  csv_and_json = refl;
  phones_twice = refl;
  said = refl;
  verdict = refl;
  no_verdict = refl;
  log = refl;
  log_asked = refl;
  no_question = refl;
  half_question = refl;
}
