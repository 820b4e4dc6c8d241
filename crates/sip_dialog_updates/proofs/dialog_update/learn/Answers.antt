use Rattle.std.proofs.Common.{ap}
use Rattle.std.specs.Prelude.{Err}
use Rattle.sip_dialog_updates.proofs.Order.{refused_same}
use Rattle.sip_dialog_updates.proofs.dialog_update.learn.Goals as goal

pub returns-in-Err-clause-learnt : goal.returns-in-Err-clause-learnt
returns-in-Err-clause-learnt c =
    refused_same c.args.now c.args.answer _ _ c.in-Err._full c.in-Err.ensures.err (λ e. c.in-Err.ensures.memory c.requires (ap Err e))
    (λ e. c.in-Err.ensures.full.0 (ap Err e))
