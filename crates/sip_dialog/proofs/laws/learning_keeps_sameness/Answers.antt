use Rattle.sip_dialog.proofs.Sameness.{edited_same, learnt_same, without_same, after_invite_same}
use Rattle.sip_dialog.proofs.laws.learning_keeps_sameness.Goals as goal

pub returns-clause-edited : goal.returns-clause-edited
returns-clause-edited c = edited_same

pub returns-clause-learnt : goal.returns-clause-learnt
returns-clause-learnt c = learnt_same

pub returns-clause-without : goal.returns-clause-without
returns-clause-without c = without_same

pub returns-clause-after_invite : goal.returns-clause-after_invite
returns-clause-after_invite c = after_invite_same
