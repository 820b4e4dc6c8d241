use Rattle.sip_context_branches.specs.state.State.{is_invite}
use Rattle.model_transactions.proofs.Names.{branch_reasons, side_reasons}
use Rattle.model_transactions.proofs.ties.timers_have_reasons.Goals as goal

pub returns-clause-branch : goal.returns-clause-branch
returns-clause-branch c = λ r b. branch_reasons (is_invite r) b.is_cancel b.phase b.again

pub returns-clause-side : goal.returns-clause-side
returns-clause-side c = λ r. side_reasons (is_invite r) r.side r.answer r.again
