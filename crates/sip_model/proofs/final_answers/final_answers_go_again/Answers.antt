use Rattle.sip_model.proofs.FinalsRepeats.{chain_again, copies_bounded}
use Rattle.sip_model.proofs.final_answers.final_answers_go_again.Goals as goal

pub returns-clause-whole : goal.returns-clause-whole
returns-clause-whole c = chain_again (record {
  first_timely = c.stays_timely.ensures.first;
  again_timely = c.stays_timely.ensures.again;
  begins = c.begins_with.ensures.answer;
  one_less = c.copy_leaves_one_less.ensures.answer;
  no_more_answered = c.nothing_leaves_more.ensures.answer;
  no_more_further = c.nothing_leaves_more.ensures.further;
  no_more_acknowledged = c.nothing_leaves_more.ensures.ack;
}) c.steps_have_parts.ensures

pub returns-clause-each : goal.returns-clause-each
returns-clause-each c = λ server first history last chain number.
    copies_bounded number history (chain_again (record {
      first_timely = c.stays_timely.ensures.first;
      again_timely = c.stays_timely.ensures.again;
      begins = c.begins_with.ensures.answer;
      one_less = c.copy_leaves_one_less.ensures.answer;
      no_more_answered = c.nothing_leaves_more.ensures.answer;
      no_more_further = c.nothing_leaves_more.ensures.further;
      no_more_acknowledged = c.nothing_leaves_more.ensures.ack;
    }) c.steps_have_parts.ensures server first history last chain number)
