use Rattle.sip_model.proofs.TiedRuns.{runs_one}
use Rattle.sip_model.proofs.TiedRunsUnder.{runs_under_one}
use Rattle.sip_model.proofs.ties.runs_are_one.Goals as goal

pub returns-clause-events : goal.returns-clause-events
returns-clause-events c = λ server first past queue start other_start last end events steps others history its chain same run other_run orderly ordered.
    (runs_one
    (record {
      bindings_later = c.same_bindings.ensures.later;
      dialogs_later = c.same_dialogs.ensures.later;
      dialogs_after = c.dialogs_after_same.ensures;
      itself = c.same_states.ensures.itself;
      turned = c.same_states.ensures.turned;
      joined = c.same_states.ensures.joined;
    })
    c.steps_same.ensures
    (record {
      parts = c.steps_have_parts.ensures;
      waits = c.requests_can_end.ensures.waits;
      rising = c.numbers_rise.ensures;
      branched = c.open_requests_are_branched.ensures.branched;
    })
    c.steps_stand_at_their_moments.ensures c.moment_rises.ensures
    server first past start chain queue other_start last end events steps others history its same run other_run orderly ordered).0

pub returns-clause-periods : goal.returns-clause-periods
returns-clause-periods c = λ server first past queue start other_start last end periods steps others history its reached same run other_run orderly ordered.
    runs_under_one
    (record {
      bindings_later = c.same_bindings.ensures.later;
      dialogs_later = c.same_dialogs.ensures.later;
      dialogs_after = c.dialogs_after_same.ensures;
      itself = c.same_states.ensures.itself;
      turned = c.same_states.ensures.turned;
      joined = c.same_states.ensures.joined;
    })
    c.steps_same.ensures
    (record {
      parts = c.steps_have_parts.ensures;
      waits = c.requests_can_end.ensures.waits;
      rising = c.numbers_rise.ensures;
      branched = c.open_requests_are_branched.ensures.branched;
    })
    c.steps_stand_at_their_moments.ensures c.moment_rises.ensures
    server first periods queue past start other_start last end steps others history its reached same run other_run orderly ordered
