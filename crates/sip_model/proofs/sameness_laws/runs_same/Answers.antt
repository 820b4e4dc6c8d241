use Rattle.sip_model.proofs.SameRuns.{one_behind, runs_from, runs_under_from}
use Rattle.sip_model.proofs.sameness_laws.runs_same.Goals as goal

pub returns-clause-run : goal.returns-clause-run
returns-clause-run c = runs_from c.steps_same.ensures c.moment_rises.ensures c.steps_stand_at_their_moments.ensures

pub returns-clause-under : goal.returns-clause-under
returns-clause-under c = runs_under_from c.steps_same.ensures c.moment_rises.ensures c.steps_stand_at_their_moments.ensures c.histories_are_under_each.ensures

pub returns-clause-one : goal.returns-clause-one
returns-clause-one c = λ server first past left whole_first whole right periods until steps history last before whole_before same run.
    one_behind (λ server first periods until steps history last run. (c.runs_under_are_one.ensures.one server first periods until steps history last run).chain)
    c.every_history_has_access.ensures c.every_history_is_bounded.ensures server whole_first whole right periods until steps last whole_before
    (runs_under_from c.steps_same.ensures c.moment_rises.ensures c.steps_stand_at_their_moments.ensures c.histories_are_under_each.ensures server first past left
    right periods until steps history last before same run)
