use Rattle.std.proofs.Common.{inl, inr, ap, ◌∙◌}
use Rattle.std.proofs.lemmas.Result.{err_from_is_err_and}
use Rattle.sipd_replay.specs.ReplayExits.{exit_of_print}
use Rattle.sipd_replay.proofs.replayed_record.replay_whole.Goals as goal

pub returns-in_err-replay_behind-clause-refused : goal.returns-in_err-replay_behind-clause-refused
returns-in_err-replay_behind-clause-refused g c =
    let p = err_from_is_err_and c.from_residual.result c.from_residual.ensures.1 in
    rw (p.1, p.2) (inl c.in_err-replay_behind.ensures.refused)

pub returns-in-Ok-clause-replayed : goal.returns-in-Ok-clause-replayed
returns-in-Ok-clause-replayed g c = record {
  written = g.W.TellingWriter.contents c.replay_behind.new.printer.writer;
  replayed = c.in_ok-replay_behind.ensures.replayed;
  kept = c.hand_on.ensures.kept;
}

pub returns-in-Err-clause-refused : goal.returns-in-Err-clause-refused
returns-in-Err-clause-refused g c = inr (record {
  replayed = record {
    written = g.W.TellingWriter.contents c.replay_behind.new.printer.writer;
    replayed = c.in_ok-replay_behind.ensures.replayed;
    kept = c.hand_on.ensures.kept;
  };
  gave_up = c.in-Err.ensures.failed.1;
  exit_is = c.exit_of_print.ensures ∙ ap exit_of_print c.in-Err.ensures.failed.0;
})
