use Rattle.std.proofs.Common.{sym, ap, ◌∙◌}
use Rattle.sip_state.specs.KeptRequest.{KeptRequest}
use Rattle.sip_state.specs.Dialogs.{dialog_of}
use Rattle.sip_dialog_updates.specs.DialogUpdates.{after_updates}
use Rattle.sip_dialog_updates.proofs.Told.{within_told}
use Rattle.sip_dialog_updates.proofs.answers.put_named.Goals as goal

pub returns-clause-told : goal.returns-clause-told
returns-clause-told c = λ server now dialogs e.
    within_told server now c.args.request.now c.args.up.now c.in-Some.id _ (after_updates now c.args.list.now.items dialogs) c.requires
    (sym c.in-Some.is ∙ c.in_ok-id.ensures ∙ ap (λ (k : KeptRequest). dialog_of k.message) c.get.ensures)
    (c.in_ok-put_within.ensures.told server now dialogs e)
