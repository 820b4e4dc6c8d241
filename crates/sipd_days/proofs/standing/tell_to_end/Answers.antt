use Rattle.std.proofs.Common.{refl, []}
use Rattle.sipd_telling.specs.run.Due.{standing_of}
use Rattle.sipd_days.proofs.standing.tell_to_end.Goals as goal

pub returns-in-Ok-clause-told : goal.returns-in-Ok-clause-told
returns-in-Ok-clause-told g c = record {
  half = standing_of c.tell.new.telling.engine;
  heard_half = c.tell.new.listener;
  later = [];
  told = c.in-Ok.ensures.told;
  passes = record { state = refl; no_history = refl };
  told_later = refl;
}
