use Rattle.std.proofs.Common.{inl, inr, refl}
use Rattle.std.proofs.lemmas.Result.{err_from_is_err_and}
use Rattle.sipd_old_record.specs.Readers.{most_asks}
use Rattle.sipd_telling.proofs.telling.begin.Goals as goal

pub returns-in_err-lines-clause-refused : goal.returns-in_err-lines-clause-refused
returns-in_err-lines-clause-refused g c =
    let p = err_from_is_err_and c.from_residual.result c.from_residual.ensures.1 in
    rw (p.1, p.2) (record { asks = most_asks; left_of = refl; why = inl refl })

pub returns-in_err-config-clause-refused : goal.returns-in_err-config-clause-refused
returns-in_err-config-clause-refused g c =
    let p = err_from_is_err_and c.from_residual-in_err-config.result c.from_residual-in_err-config.ensures.1 in
    rw (p.1, p.2) (record {
      asks = c.configuration_of.new.lines.asks;
      left_of = rw c.in_ok-lines.ensures at c.configuration_of.ensures.asked;
      why = inr (rw c.in_ok-lines.ensures at c.in_err-config.ensures.refused);
    })

pub returns-in-Err-clause-refused : goal.returns-in-Err-clause-refused
returns-in-Err-clause-refused g c = record {
  asks = c.configuration_of.new.lines.asks;
  left_of = rw c.in_ok-lines.ensures at c.configuration_of.ensures.asked;
  why = inl c.in-Err.ensures.refused;
}

pub returns-in-Ok-clause-begun : goal.returns-in-Ok-clause-begun
returns-in-Ok-clause-begun g c = record {
  config = c.in_ok-config.config;
  begins = rw c.in_ok-lines.ensures at c.in_ok-config.ensures.begins;
  server_is = c.in-Ok.ensures.server;
  starts = c.in-Ok.ensures.standing;
}

pub returns-in-Ok-clause-asked : goal.returns-in-Ok-clause-asked
returns-in-Ok-clause-asked g c = rw c.in_ok-lines.ensures at c.configuration_of.ensures.asked
