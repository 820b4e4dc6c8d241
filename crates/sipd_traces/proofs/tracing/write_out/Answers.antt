use Rattle.std.proofs.lemmas.Result.{on_ok_weaker}
use Rattle.sipd_traces.proofs.tracing.write_out.Goals as goal

pub returns : goal.returns
returns g c =
    on_ok_weaker c.write_capture.result (λ h. record { choice = c.in_ok-choice.choice; chosen = c.in_ok-choice.ensures; written = h })
    c.write_capture.ensures
