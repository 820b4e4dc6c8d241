use Rattle.std.proofs.Common.{refl}
use Rattle.sip_dialog.proofs.Sameness.{dialogs_self, dialogs_turned, dialogs_joined, dialogs_later}
use Rattle.sip_dialog.proofs.laws.same_dialogs.Goals as goal

pub returns-clause-itself : goal.returns-clause-itself
returns-clause-itself c = λ now dialogs. dialogs_self now dialogs dialogs refl

pub returns-clause-turned : goal.returns-clause-turned
returns-clause-turned c = dialogs_turned

pub returns-clause-joined : goal.returns-clause-joined
returns-clause-joined c = dialogs_joined

pub returns-clause-later : goal.returns-clause-later
returns-clause-later c = dialogs_later
