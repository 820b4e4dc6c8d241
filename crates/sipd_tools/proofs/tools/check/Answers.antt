use Rattle.std.proofs.Common.{inl, inr, refl}
use Rattle.std.proofs.lemmas.Result.{err_from_is_err_and}
use Rattle.sipd_tools.proofs.tools.check.Goals as goal

pub returns-in_err-bytes-clause-other : goal.returns-in_err-bytes-clause-other
returns-in_err-bytes-clause-other g c =
    let p = err_from_is_err_and c.from_residual.result c.from_residual.ensures.1 in
    rw (p.1, p.2) (inl (refl {a = g.W.Write.contents c.args.output.now}))

pub returns-in_err-expected-clause-other : goal.returns-in_err-expected-clause-other
returns-in_err-expected-clause-other g c =
    let p = err_from_is_err_and c.from_residual-in_err-expected.result c.from_residual-in_err-expected.ensures.1 in
    rw (p.1, p.2) (inl (refl {a = g.W.Write.contents c.args.output.now}))

pub returns-in_err-config-clause-other : goal.returns-in_err-config-clause-other
returns-in_err-config-clause-other g c =
    let p = err_from_is_err_and c.from_residual-in_err-config.result c.from_residual-in_err-config.ensures.1 in
    rw (p.1, p.2) (inr (inl (record { bytes = c.as_slice.result.now; ends = c.in_err-config.ensures.refused })))

pub returns-in_err-before-clause-other : goal.returns-in_err-before-clause-other
returns-in_err-before-clause-other g c =
    let p = err_from_is_err_and c.from_residual-in_err-before.result c.from_residual-in_err-before.ensures.1 in
    rw (p.1, p.2) (inr (inr (inl (record {
      bytes = c.as_slice.result.now;
      config = c.in_ok-config.config;
      states = c.in_ok-config.ensures.stated;
      shows = c.in_ok-config.ensures.shown;
    }))))

pub returns-in_err-tell_and_hold-clause-other : goal.returns-in_err-tell_and_hold-clause-other
returns-in_err-tell_and_hold-clause-other g c =
    let p = err_from_is_err_and c.from_residual-in_err-tell_and_hold.result c.from_residual-in_err-tell_and_hold.ensures.1 in
    rw (p.1, p.2) (inr (inr (inr (record {
      bytes = c.as_slice.result.now;
      config = c.in_ok-config.config;
      before = c.in_ok-before.before;
      expected = c.in_ok-expected.expected;
      middle = g.W.Write.contents c.understood.new.output;
      states = c.in_ok-config.ensures.stated;
      shows = c.in_ok-config.ensures.shown;
      against = c.in_ok-before.ensures;
      named = c.in_ok-expected.ensures;
      ends = c.in_err-tell_and_hold.ensures.other;
    }))))

pub returns-clause-checked : goal.returns-clause-checked
returns-clause-checked g c = record {
  bytes = c.as_slice.result.now;
  config = c.in_ok-config.config;
  before = c.in_ok-before.before;
  expected = c.in_ok-expected.expected;
  middle = g.W.Write.contents c.understood.new.output;
  states = c.in_ok-config.ensures.stated;
  shows = c.in_ok-config.ensures.shown;
  against = c.in_ok-before.ensures;
  named = c.in_ok-expected.ensures;
  tells = c.in_ok-tell_and_hold.ensures.told;
}
