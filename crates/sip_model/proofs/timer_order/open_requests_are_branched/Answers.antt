use Rattle.sip_model.proofs.Branching.{all_apart, chain_branched}
use Rattle.sip_model.proofs.timer_order.open_requests_are_branched.Goals as goal

pub returns-clause-branched : goal.returns-clause-branched
returns-clause-branched c = chain_branched c.steps_have_parts.ensures

pub returns-clause-apart : goal.returns-clause-apart
returns-clause-apart c = λ server first history last chain.
    all_apart last.requests (c.numbers_rise.ensures server first history last chain) (chain_branched c.steps_have_parts.ensures server first history last chain)
