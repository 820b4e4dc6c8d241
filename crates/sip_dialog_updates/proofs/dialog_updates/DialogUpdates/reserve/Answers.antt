use Rattle.std.proofs.Common.{arith, sym, ◌∙◌}
use Rattle.sip_dialog_updates.proofs.Told.{none_begin}
use Rattle.sip_dialog_updates.proofs.dialog_updates.DialogUpdates.reserve.Goals as goal

pub returns-then-not-may_begin-clause-ok : goal.returns-then-not-may_begin-clause-ok
returns-then-not-may_begin-clause-ok c = λ few. omega (arith, none_begin c.args.self.now (sym c.may_begin.ensures ∙ c.if-not-may_begin.true))
