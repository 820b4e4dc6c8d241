use Rattle.std.proofs.Common.{sym, ap, ◌∙◌}
use Rattle.sip_message_form.specs.declared.message.Message.{Message}
use Rattle.sip_state.specs.Dialogs.{answered_dialog}
use Rattle.sip_dialog_updates.specs.DialogUpdates.{after_updates}
use Rattle.sip_dialog_updates.proofs.Told.{first_told}
use Rattle.sip_dialog_updates.proofs.answers.put_first.Goals as goal

pub returns-clause-told : goal.returns-clause-told
returns-clause-told c = λ server now dialogs e.
    first_told server now c.args.request.now c.args.up.now c.in-Some.id _ (after_updates now c.args.list.now.items dialogs)
    (sym c.is_invite.ensures ∙ c.if-not-is_invite.false)
    (sym c.in-Some.is ∙ c.in_ok-id.ensures ∙ ap (λ (m : Message). answered_dialog c.args.request.now m) c.get.ensures)
    (c.in_ok-put_invite.ensures.told server now dialogs e)
