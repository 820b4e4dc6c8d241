use Rattle.std.proofs.Common.{sym, ap, ◌∙◌}
use Rattle.std.specs.Prelude.{is_some}
use Rattle.sip_state.specs.KeptRequest.{KeptRequest}
use Rattle.sip_state.specs.Dialogs.{dialog_of}
use Rattle.sip_dialog_updates.specs.DialogUpdates.{after_updates}
use Rattle.sip_dialog_updates.proofs.Told.{unnamed_told}
use Rattle.sip_dialog_updates.proofs.answers.put_answer.Goals as goal

pub returns-clause-told : goal.returns-clause-told
returns-clause-told c = λ server now dialogs e.
    unnamed_told server now c.args.request.now c.args.up.now _ (after_updates now c.args.list.now.items dialogs) c.if-up-le100.false
    (sym (c.in_ok-is_within.ensures ∙ ap (λ (k : KeptRequest). is_some (dialog_of k.message)) c.get.ensures) ∙ c.if-is_within.false)
    (c.in_ok-put_first.ensures.told server now dialogs e)
