use Rattle.std.proofs.lemmas.Result.{IfOk-weaker}
use Rattle.sipd_days.proofs.Timed.{addresses_on_clock}
use Rattle.sipd_days.proofs.day_at.sources_in.Goals as goal

pub returns : goal.returns
returns g c =
    IfOk-weaker c.sources_text.result _ _ (λ text h. addresses_on_clock c.args.form c.args.at c.args.sources c.config.result.now
    c.args.engine.now.server.config text c.config.ensures h) c.sources_text.ensures
