use Rattle.std.proofs.Common.{inl, inr, refl}
use Rattle.std.proofs.lemmas.Result.{err_from_is_err_and}
use Rattle.sipd_old_record.specs.Readers.{most_asks}
use Rattle.sipd_replay.proofs.replayed_record.replay_behind.Goals as goal

pub returns-in_err-lines-clause-refused : goal.returns-in_err-lines-clause-refused
returns-in_err-lines-clause-refused g c =
    let p = err_from_is_err_and c.from_residual.result c.from_residual.ensures.1 in
    rw (p.1, p.2) (record { asks = most_asks; left_of = refl; why = inl (record { silent = refl; why = inl refl }) })

pub returns-in_err-config-clause-refused : goal.returns-in_err-config-clause-refused
returns-in_err-config-clause-refused g c =
    let p = err_from_is_err_and c.from_residual-in_err-config.result c.from_residual-in_err-config.ensures.1 in
    rw (p.1, p.2) (record {
      asks = c.configuration_of.new.lines.asks;
      left_of = rw c.in_ok-lines.ensures at c.configuration_of.ensures.asked;
      why = inl (record { silent = refl; why = inr (rw c.in_ok-lines.ensures at c.in_err-config.ensures.refused) });
    })

pub returns-in-Ok-clause-replayed : goal.returns-in-Ok-clause-replayed
returns-in-Ok-clause-replayed g c = record {
  config = c.in_ok-config.config;
  reading = c.configuration_of.new.lines;
  rest = g.I.TellingReader.remaining c.configuration_of.new.reader;
  begins = rw c.in_ok-lines.ensures at c.in_ok-config.ensures.begins;
  replay = c.in-Ok.ensures.replayed;
}
