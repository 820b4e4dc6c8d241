use Rattle.sip_context_branches.specs.state.State.{is_invite}
use Rattle.model_transactions.proofs.Names.{invite_deadline, other_deadline, branch_moment, invite_side_deadline, other_side_deadline, answer_moment}
use Rattle.model_transactions.proofs.ties.moments_are_named.Goals as goal

pub returns-clause-invite : goal.returns-clause-invite
returns-clause-invite c = λ r b due is e. rw is (invite_deadline b.phase b.again due e)

pub returns-clause-other : goal.returns-clause-other
returns-clause-other c = λ r b due state is runs e. rw is (other_deadline b.phase b.again due state runs e)

pub returns-clause-branch_again : goal.returns-clause-branch_again
returns-clause-branch_again c = λ r b due e. branch_moment (is_invite r) b.is_cancel b.phase b.again due e

pub returns-clause-invite_side : goal.returns-clause-invite_side
returns-clause-invite_side c = λ r due is e. rw is (invite_side_deadline r.side r.answer r.again due e)

pub returns-clause-other_side : goal.returns-clause-other_side
returns-clause-other_side c = λ r due state is runs e. rw is (other_side_deadline r.side r.answer due state runs e)

pub returns-clause-answer_again : goal.returns-clause-answer_again
returns-clause-answer_again c = λ r due e. answer_moment (is_invite r) r.side r.answer r.again due e
