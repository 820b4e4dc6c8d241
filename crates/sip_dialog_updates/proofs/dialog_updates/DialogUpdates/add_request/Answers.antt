use Rattle.sip_dialog_updates.proofs.Told.{renewed_by}
use Rattle.sip_dialog_updates.proofs.dialog_updates.DialogUpdates.add_request.Goals as goal

pub returns-clause-told : goal.returns-clause-told
returns-clause-told c = λ server now dialogs e.
    renewed_by server now c.args.id c.args.request.now c.args.hops.now.addresses c.in_ok-addresses.addresses c.args.self.now c.push.new.self.items dialogs e
    c.in_ok-addresses.ensures (cc (c.in_ok-push.ensures.items, c.self.view_is))
