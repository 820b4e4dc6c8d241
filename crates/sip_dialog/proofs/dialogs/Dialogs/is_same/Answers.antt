use Rattle.sip_dialog.proofs.dialogs.Dialogs.is_same.Goals as goal

pub returns : goal.returns
returns c = λ is. rw (← c.self.view_is, ← c.other.view_is) (c.is_same.ensures is)
