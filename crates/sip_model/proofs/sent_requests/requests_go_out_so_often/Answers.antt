use Rattle.sip_model.proofs.SendingHistories.{chain_so_often}
use Rattle.sip_model.proofs.sent_requests.requests_go_out_so_often.Goals as goal

pub returns : goal.returns
returns c = λ server first history last chain.
    chain_so_often
    (record {
      first = c.sent_at.ensures.first;
      invite = c.sent_at.ensures.invite;
      invite_bound = c.sent_at.ensures.invite_bound;
      begins = c.begins_with.ensures.other;
      timely_first = c.stays_timely.ensures.first;
      timely_again = c.stays_timely.ensures.again;
      timely_heard = c.stays_timely.ensures.heard;
      less_unheard = c.copy_leaves_one_less.ensures.unheard;
      less_heard = c.copy_leaves_one_less.ensures.heard;
      no_more = c.nothing_leaves_more.ensures.heard;
    })
    server
    (record {
      parts = c.steps_have_parts.ensures;
      rising = c.numbers_rise.ensures server;
      none_again = c.no_deadline_passed.ensures.none_again server;
      has_fired = c.no_deadline_passed.ensures.has_fired server;
    })
    first history last chain
