use Rattle.sip_model.proofs.TiedRuns.{labels_decide}
use Rattle.sip_model.proofs.ties.order_decides.Goals as goal

pub returns : goal.returns
returns c = λ server first past start other_start last end history its reached same chain other_chain prompt other_prompt configs e.
    labels_decide
    (record {
      bindings_later = c.same_bindings.ensures.later;
      dialogs_later = c.same_dialogs.ensures.later;
      dialogs_after = c.dialogs_after_same.ensures;
      itself = c.same_states.ensures.itself;
      turned = c.same_states.ensures.turned;
      joined = c.same_states.ensures.joined;
    })
    c.steps_same.ensures
    (record {
      parts = c.steps_have_parts.ensures;
      waits = c.requests_can_end.ensures.waits;
      rising = c.numbers_rise.ensures;
      branched = c.open_requests_are_branched.ensures.branched;
    })
    c.steps_stand_at_their_moments.ensures c.moment_rises.ensures
    server first past start reached history its other_start last end same chain other_chain prompt other_prompt configs e
