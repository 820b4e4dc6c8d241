use Rattle.std.proofs.Common.{◌++◌}
use Rattle.sip_model.specs.Run.{first_moment}
use Rattle.sip_model.specs.state.State.{first_state}
use Rattle.sip_run.proofs.RunOn.{run_on}
use Rattle.sip_resume.proofs.laws.restart_is_one_run.Goals as goal

pub returns : goal.returns
returns c = λ server first state last events more until steps further history later before behind. (
    let run = c.runs_join.ensures server (first_state first) state last events more until steps further history later
    (run_on server (first_state first) state events (first_moment more until) steps history before) behind in
    record {
      is_run = run;
      access = c.every_run_has_access.ensures server first (events ++ more) until (steps ++ further) (later ++ history) last run;
      bounded = c.every_history_is_bounded.ensures server first (later ++ history) last run.chain;
    }
    )
