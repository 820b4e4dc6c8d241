use Rattle.sip_model.proofs.bounds.every_history_is_bounded.Goals as goal

pub returns : goal.returns
returns c = λ server first history last chain.
    record {
      answered = c.one_final_answer_in_packets.ensures server first history last chain;
      again = c.final_answers_go_again.ensures.whole server first history last chain;
      goes_out = c.requests_go_out_so_often.ensures server first history last chain;
      cancels = c.cancels_go_out_so_often.ensures server first history last chain;
      one_cancel = c.one_cancel_for_each_branch.ensures server first history last chain;
      ends = c.requests_end_in_time.ensures server first history last chain;
    }
