use Rattle.sip_dialog.proofs.Tests.{test_says, test_holds}
use Rattle.sip_dialog.proofs.laws.in_dialog_is_a_test.Goals as goal

pub returns : goal.returns
returns c = λ now dialogs id address. (test_says now dialogs id address, test_holds now dialogs id address)
