use Rattle.model_laws.proofs.Keeping.{headline}
use Rattle.model_laws.proofs.headline.access_is_the_headline.Goals as goal

pub returns-clause-follows : goal.returns-clause-follows
returns-clause-follows c = headline c.allowed_registers_are_allowed.ensures

pub returns-clause-histories : goal.returns-clause-histories
returns-clause-histories c = λ server first history last chain. headline c.allowed_registers_are_allowed.ensures server history
    (c.every_history_has_access.ensures server first history last chain)

pub returns-clause-runs : goal.returns-clause-runs
returns-clause-runs c = λ server first events until steps history last run.
    headline c.allowed_registers_are_allowed.ensures server history (c.every_history_has_access.ensures server first history last run.chain)
