use Rattle.sip_context_branches.specs.context_model.Retransmission.{answer_next, answers_again}
use Rattle.sip_context.proofs.Joined.{repeated}
use Rattle.sip_context.proofs.events.repeat_answer.Goals as goal

pub returns : goal.returns
returns c =
    repeated c.answer_went.new.request (record c.args.request.now { again = answer_next c.args.request.now }) c.again.result c.in_ok-copies.copies
    (answers_again c.args.request.now c.args.request.now.answer)
    c.again.ensures c.answer_went.ensures c.in_ok-copies.ensures
