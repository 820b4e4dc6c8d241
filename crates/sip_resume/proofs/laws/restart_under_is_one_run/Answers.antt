use Rattle.std.proofs.Common.{[], ◌∷◌, ◌++◌}
use Rattle.sip_model.specs.state.State.{first_state}
use Rattle.sip_resume.proofs.UnderRuns.{run_both}
use Rattle.sip_resume.proofs.laws.restart_under_is_one_run.Goals as goal

pub returns : goal.returns
returns c = λ server first periods config state last more until steps further history later before behind. (
    let run = run_both server (first_state first) state last periods (record { config = config; events = more } ∷ []) until steps further history later before
    ((c.under_one_is_a_run.ensures server state config more until further later last).1 behind) in
    record {
      is_run = run;
      access = c.runs_under_are_one.ensures.access server first (periods ++ record { config = config; events = more } ∷ []) until (steps ++ further) (later ++ history)
          last run;
      bounded = c.every_history_is_bounded.ensures server first (later ++ history) last
          (c.runs_under_are_one.ensures.one server (first_state first) (periods ++ record { config = config; events = more } ∷ []) until (steps ++ further)
          (later ++ history) last run).chain;
    }
    )
