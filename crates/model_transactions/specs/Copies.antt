-- How often what was sent goes again, and how often it still may (RFC 3261 17.1.1.2, 17.1.2.2, 17.2.1).
use Rattle.std.specs.Prelude.{ℕ, zero, suc, ◌≡◌, ◌≤◌, ◌+◌, ◌-◌, ◌*◌, ◌^◌, nat_le, if◌then◌else◌, List, [], ◌∷◌, count_by, Option}
use Rattle.sip_context_branches.specs.state.declared.branch.Phase.{Phase}
use Rattle.sip_context_branches.specs.state.declared.branch.Phase.TheVariants.{Unheard, Heard, Cancelled, Done, Ended}
use Rattle.sip_context_branches.specs.state.declared.open_request.LastAnswer.{LastAnswer}
use Rattle.sip_context_branches.specs.state.declared.open_request.Side.{Side}
use Rattle.sip_context_branches.specs.state.declared.open_request.Side.TheVariants.{Answering, Closing, Acknowledged, Closed}
use Rattle.sip_context_branches.specs.state.declared.resend.Resend.{Resend}
use Rattle.sip_context_branches.specs.context_model.Branches.{was_refused}
use Rattle.sip_context_branches.specs.context_model.Retransmission.{resend_after}
use Rattle.model_transactions.specs.OtherClient.{steady}

-- ---- moments

-- What was first sent at a moment was sent so many times, each wait twice the one before: it goes next 500 * (2^n - 1)
-- ms after its first sending.
pub record IsSent (first times : ℕ) (again : Resend) : Type 0 where
  pub due : again.due ≡ first + 500 * (2 ^ times - 1)
  pub wait : 2 * again.wait ≡ 500 * 2 ^ times

-- the same from the fourth sending on, where the wait is 4,000 ms
pub record IsSteady (first times : ℕ) (again : Resend) : Type 0 where
  pub due : again.due + 8500 ≡ first + 4000 * times
  pub wait : again.wait ≡ 4000

-- What goes again before a deadline: at most 31,500 ms before it, after a wait of no less than 500 ms.
pub record IsTimely (until : ℕ) (again : Resend) : Type 0 where
  pub near : until ≤ again.due + 31500
  pub long : 500 ≤ again.wait

-- ---- copies

-- the next so many moments at which something goes again, if nothing else happens, where this is the next time
-- after one
unfoldable pub moments : (Resend → Resend) → ℕ → Resend → List ℕ
moments next zero again = []
moments next (suc count) again = again.due ∷ moments next count (next again)

-- how many of the next eleven of them, more than there ever are, lie by a deadline
abbrev pub copies_by : (Resend → Resend) → ℕ → Resend → ℕ
copies_by next until again = count_by (λ (moment : ℕ). nat_le moment until) (moments next 11 again)

-- how many copies of an INVITE may still be sent to a target (RFC 3261 17.1.1.2)
abbrev pub invite_copies_left : Phase → Resend → ℕ
invite_copies_left (Unheard until) again = copies_by (resend_after 32000) until again
invite_copies_left (Heard until) again = 0
invite_copies_left (Cancelled until) again = 0
invite_copies_left (Done until status) again = 0
invite_copies_left Ended again = 0

-- how many copies of another request, or of a CANCEL (RFC 3261 17.1.2.2)
abbrev pub other_copies_left : Phase → Resend → ℕ
other_copies_left (Unheard until) again = copies_by (resend_after 4000) until again
other_copies_left (Heard until) again = copies_by steady until again
other_copies_left (Cancelled until) again = 0
other_copies_left (Done until status) again = 0
other_copies_left Ended again = 0

-- how many copies of the final answer to an INVITE may still be sent by time: ten as long as there is none (RFC
-- 3261 17.2.1)
abbrev pub answer_copies_left : Side → Option LastAnswer → Resend → ℕ
answer_copies_left Answering answer again = 10
answer_copies_left (Closing until) answer again = if was_refused answer then copies_by (resend_after 4000) until again else 0
answer_copies_left (Acknowledged until) answer again = 0
answer_copies_left Closed answer again = 0
