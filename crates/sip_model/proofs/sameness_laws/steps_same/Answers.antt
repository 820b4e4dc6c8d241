use Rattle.sip_model.proofs.SameSteps.{steps_from}
use Rattle.sip_model.proofs.sameness_laws.steps_same.Goals as goal

pub returns : goal.returns
returns c =
    steps_from (record {
      by_edit = c.learning_keeps_sameness.ensures.edited;
      by_answer = c.learning_keeps_sameness.ensures.learnt;
      by_end = c.learning_keeps_sameness.ensures.without;
      by_invite = c.learning_keeps_sameness.ensures.after_invite;
      by_time = c.same_dialogs.ensures.later;
      asked = c.in_dialog_same.ensures;
    }) c.steps_same.ensures
