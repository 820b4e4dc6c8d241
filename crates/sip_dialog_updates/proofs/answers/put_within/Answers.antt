use Rattle.std.proofs.Common.{sym, ◌∙◌}
use Rattle.sip_dialog_updates.proofs.Told.{ended_more, taught_more_within}
use Rattle.sip_dialog_updates.proofs.answers.put_within.Goals as goal

pub returns-then-ends_dialog-clause-told : goal.returns-then-ends_dialog-clause-told
returns-then-ends_dialog-clause-told c = λ server now dialogs e.
    ended_more server now c.args.request.now c.args.up.now c.args.id c.args.list.now.items c.push.new.self.items dialogs c.in_ok-push.ensures.items
    (sym c.ends_dialog.ensures ∙ c.if-ends_dialog.true)

pub returns-clause-told : goal.returns-clause-told
returns-clause-told c = λ server now dialogs e.
    taught_more_within server now c.args.request.now c.args.up.now c.args.id c.args.hops.now.addresses c.in_ok-addresses.addresses c.args.list.now.items
    c.push-2.new.self.items dialogs e
    (cc (c.in_ok-addresses.ensures, c.get.ensures)) (sym c.ends_dialog.ensures ∙ c.if-ends_dialog.false) c.in_ok-push-2.ensures.items
