use Rattle.sip_dialog.proofs.dialogs.Dialogs.learn.Goals as goal

pub returns-clause-ok : goal.returns-clause-ok
returns-clause-ok c = rw (← c.self.view_is) c.learn.ensures.ok

pub returns-clause-full : goal.returns-clause-full
returns-clause-full c = rw (← c.self.view_is) c.learn.ensures.full
