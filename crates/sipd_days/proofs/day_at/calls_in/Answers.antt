use Rattle.std.proofs.lemmas.Result.{IfOk-weaker}
use Rattle.sipd_days.proofs.Timed.{on_clock}
use Rattle.sipd_days.proofs.day_at.calls_in.Goals as goal

pub returns : goal.returns
returns g c =
    IfOk-weaker c.calls_text.result _ _ (λ text h. on_clock c.args.form c.args.at c.as_slice.result.now c.args.calls.now c.config.result.now
    c.args.engine.now.server.config c.open_count.result c.dialog_count.result c.args.engine.now.state text c.config.ensures c.as_slice.ensures
    c.open_count.ensures.value c.dialog_count.ensures.value h) c.calls_text.ensures
