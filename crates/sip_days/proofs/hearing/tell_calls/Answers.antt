use Rattle.sip_days.proofs.Told.{calls_told}
use Rattle.sip_days.proofs.hearing.tell_calls.Goals as goal

pub returns-clause-told : goal.returns-clause-told
returns-clause-told c =
    calls_told c.args.config.now.offset c.args.event.now c.args.out.now c.in_ok-bye.bye c.as_slice.result.now c.args.calls.now
    c.tell_if_changed.new.calls c.add_begun.new.calls c.in_ok-bye.ensures c.in_ok-tell_if_changed.ensures.told c.as_slice.ensures
    c.in_ok-add_begun.ensures.added
