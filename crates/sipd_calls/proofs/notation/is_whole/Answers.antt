use Rattle.sipd_calls.proofs.Formulas as lemmas
use Rattle.sipd_calls.proofs.notation.is_whole.Goals as goal

pub returns-in-Ok : goal.returns-in-Ok
returns-in-Ok c = lemmas.is_whole c.args.text.now c.in-Ok.ensures.cases.1

pub returns-in-Err : goal.returns-in-Err
returns-in-Err c = lemmas.is_broken c.args.text.now c.in-Err.ensures.cases.0
