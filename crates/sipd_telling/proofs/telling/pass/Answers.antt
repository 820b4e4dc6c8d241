use Rattle.std.proofs.Common.{Err, ap}
use Rattle.sipd_telling.proofs.telling.pass.Goals as goal

pub returns-in-Err-clause-refused : goal.returns-in-Err-clause-refused
returns-in-Err-clause-refused g c = record {
  why = c.in-Err.e;
  lines = c.number.result;
  stopped = c.in-Err.ensures.stopped;
  given_up = λ same. c.in-Err.ensures.gave_up (ap (λ e. Err e) same);
  exit_is = c.exit_of_retell.ensures;
}
