use Rattle.std.proofs.Common.{sym, ◌∙◌}
use Rattle.sip_dialog_updates.proofs.Told.{left_by}
use Rattle.sip_dialog_updates.proofs.dialog_updates.put_leaving.Goals as goal

pub returns-in_ok-push-clause-told : goal.returns-in_ok-push-clause-told
returns-in_ok-push-clause-told c = λ now dialogs. left_by now c.args.request.now c.args.list.now.items c.push.new.self.items dialogs
    (sym c.is_left_invite.ensures ∙ c.if-is_left_invite.true) c.in_ok-push.ensures.items
