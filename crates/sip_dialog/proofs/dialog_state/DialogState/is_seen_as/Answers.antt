use Rattle.std.proofs.Common.{refl, eqb-true}
use Rattle.sip_dialog.proofs.Seen.{seen_alike}
use Rattle.sip_dialog.proofs.dialog_state.DialogState.is_seen_as.Goals as goal

pub returns : goal.returns
returns c = λ is id.
    seen_alike id c.args.self.now c.args.other.now (c.if-not-is_begun_as.ensures.success refl) (c.if-not-is_begun_as.ensures.number refl)
    (eqb-true c.args.self.now.since c.args.other.now.since is) (c.if-not-is_same.ensures refl)
