use Rattle.sip_model.proofs.FinalsHistory.{chain_once}
use Rattle.sip_model.proofs.final_answers.one_final_answer_in_packets.Goals as goal

pub returns : goal.returns
returns c = chain_once c.one_final_answer.ensures.later c.one_final_answer.ensures.first c.steps_have_parts.ensures
