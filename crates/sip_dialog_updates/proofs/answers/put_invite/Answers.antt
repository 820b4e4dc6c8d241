use Rattle.sip_dialog_updates.proofs.Told.{learnt_more, taught_more}
use Rattle.sip_dialog_updates.proofs.answers.put_invite.Goals as goal

pub returns-then-up-le299-clause-told : goal.returns-then-up-le299-clause-told
returns-then-up-le299-clause-told c = λ server now dialogs e.
    learnt_more server now c.args.request.now c.args.up.now c.args.id c.in_ok-answer.answer c.args.list.now.items c.push.new.self.items dialogs
    (c.in_ok-answer.ensures server e)
    c.if-up-le299.true c.in_ok-push.ensures.items

pub returns-clause-told : goal.returns-clause-told
returns-clause-told c = λ server now dialogs e.
    taught_more server now c.args.request.now c.args.up.now c.args.id c.args.hops.now.addresses c.in_ok-addresses.addresses c.args.list.now.items c.push-2.new.self.items
    dialogs e
    (cc (c.in_ok-addresses.ensures, c.get.ensures)) c.if-up-le299.false c.in_ok-push-2.ensures.items
