use Rattle.std.proofs.Common.{Err, ap}
use Rattle.sipd_telling.proofs.telling.tell.Goals as goal

pub returns-in-Ok-clause-told : goal.returns-in-Ok-clause-told
returns-in-Ok-clause-told g c =
    record { lines_then = c.in-Ok.field-0.lines; is_over = c.in-Ok.field-0.is_over; retold = c.in-Ok.ensures.retold }

pub returns-in-Err-clause-refused : goal.returns-in-Err-clause-refused
returns-in-Err-clause-refused g c = record {
  why = c.in-Err.e;
  lines_then = c.number.result;
  stopped = c.in-Err.ensures.refused;
  given_up = λ same. c.in-Err.ensures.gave_up (ap (λ e. Err e) same);
  exit_is = c.exit_of_retell.ensures;
}
