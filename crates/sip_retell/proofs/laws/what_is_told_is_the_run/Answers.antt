use Rattle.std.proofs.Common.{◌∙◌}
use Rattle.sip_retell.proofs.Hearing.{events_all, keeps_all, outs_all}
use Rattle.sip_retell.proofs.laws.what_is_told_is_the_run.Goals as goal

pub returns-clause-kept : goal.returns-clause-kept
returns-clause-kept c = λ old new history told. keeps_all old new history told

pub returns-clause-events : goal.returns-clause-events
returns-clause-events c = λ history. events_all history

pub returns-clause-outs : goal.returns-clause-outs
returns-clause-outs c = λ history. outs_all history

pub returns-clause-run : goal.returns-clause-run
returns-clause-run c = λ server first last events until steps history is_run. (events_all history ∙ is_run.of_events, outs_all history ∙ is_run.of_steps)
