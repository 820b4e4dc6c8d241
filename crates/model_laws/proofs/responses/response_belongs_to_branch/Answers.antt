use Rattle.model_laws.proofs.Belonging.{taken, given_by_numbers, very_same}
use Rattle.model_laws.proofs.responses.response_belongs_to_branch.Goals as goal

pub returns-clause-taken : goal.returns-clause-taken
returns-clause-taken c = taken

pub returns-clause-given : goal.returns-clause-given
returns-clause-given c = λ server first history last chain fits fields r b is.
    given_by_numbers c.branches_are_read_back.ensures.read server last fields r b (c.numbers_differ.ensures server first history last chain)
    (c.numbers_fit.ensures server first history last chain fits)
    (c.branches_are_found_by_numbers.ensures server first history last chain fits) is

pub returns-clause-same : goal.returns-clause-same
returns-clause-same c = very_same
