-- The server transaction of another request beside its answering side.
use Rattle.std.proofs.Common.{◌≡◌, ℕ, ◌+◌, ◌<◌, ◌≤◌, Bool, true, false, cond, [], Option, Some, refl}
use Rattle.std.specs.Prelude.{◌&&◌, not}
use Rattle.sip_message_form.specs.Text.{text_of}
use Rattle.sip_timers.specs.declared.letter.Letter.TheVariants as By
use Rattle.sip_transactions.specs.ServerAction.{copy_actions}
use Rattle.sip_transactions.specs.ServerOther.{server_other, other_machine, answers_copy}
use Rattle.sip_transactions.specs.declared.server_other.ServerOther.{ServerOther}
use Rattle.sip_transactions.specs.declared.server_other.ServerOther.TheVariants.{Trying, Proceeding}
use Rattle.sip_transactions.specs.declared.server_other.ServerOtherInput.TheVariants.{Request, Answer, Fired}
use Rattle.sip_context_branches.specs.state.State.{is_invite, is_answering, is_success, is_provisional}
use Rattle.sip_context_branches.specs.state.declared.open_request.LastAnswer.{LastAnswer}
use Rattle.sip_context_branches.specs.state.declared.open_request.OpenRequest.{OpenRequest}
use Rattle.sip_context_branches.specs.state.declared.open_request.Side.{Side}
use Rattle.sip_context_branches.specs.state.declared.open_request.Side.TheVariants.{Answering, Closing, Closed}
use Rattle.sip_context_branches.specs.state.declared.open_request.Upward.{Upward}
use Rattle.sip_context_branches.specs.context_model.Branches.{answered}
use Rattle.model_transactions.specs.Steps.{Steps}
use Rattle.model_transactions.specs.OtherServer.{RunsOtherServer, BeforeAnswer, WhileProvisional, AfterFinal, WhenClosed, other_side_timers, answer_actions}
use Rattle.model_transactions.proofs.Statuses.{served_provisional, served_final}

-- the answering side after an answer
abbrev side_after : ℕ → Side → ℕ → Side
side_after now side status = cond (is_answering side && not (is_provisional status)) (Closing (now + 32000)) side

-- an answer of the core beside a side, and the answer after it
abbrev Answers : ℕ → Side → LastAnswer → ServerOther → Type 0
Answers now side a state =
    Steps other_machine now (server_other state (Answer a.status)) (RunsOtherServer (side_after now side a.status) (Some a)) (answer_actions a.status)
    (other_side_timers side) (other_side_timers (side_after now side a.status))

trying_answers : (now : ℕ) (a : LastAnswer) (p : Bool) → is_provisional a.status ≡ p → 101 ≤ a.status → a.status < 700 → Answers now Answering a Trying
trying_answers now a true is low high = rw (served_provisional a.status low is, is) (record { fits = WhileProvisional a is; does = refl; timers = refl })
trying_answers now a false late low high = rw (served_final a.status high late, late) (record { fits = AfterFinal (now + 32000) a late; does = refl; timers = refl })

proceeding_answers : (now : ℕ) (a : LastAnswer) (p : Bool) → is_provisional a.status ≡ p → 101 ≤ a.status → a.status < 700 → Answers now Answering a Proceeding
proceeding_answers now a true is low high = rw (served_provisional a.status low is, is) (record { fits = WhileProvisional a is; does = refl; timers = refl })
proceeding_answers now a false late low high = rw (served_final a.status high late, late) (record { fits = AfterFinal (now + 32000) a late; does = refl; timers = refl })

answers_of : (now : ℕ) (side : Side) (answer : Option LastAnswer) (a : LastAnswer) (state : ServerOther) → RunsOtherServer side answer state → 101 ≤ a.status
    → a.status < 700 → is_answering side ≡ true → Answers now side a state
answers_of now _ _ a _ BeforeAnswer low high still = trying_answers now a (is_provisional a.status) refl low high
answers_of now _ _ a _ (WhileProvisional first is) low high still = proceeding_answers now a (is_provisional a.status) refl low high
answers_of now _ _ a _ (AfterFinal until first late) low high still = absurd (cc)
answers_of now _ _ a _ (WhenClosed answer) low high still = absurd (cc)

pub answer_goes : (now : ℕ) (r : OpenRequest) (u : Upward) (state : ServerOther) → RunsOtherServer r.side r.answer state → 101 ≤ u.status → u.status < 700
    → is_answering r.side ≡ true
    → Steps other_machine now (server_other state (Answer u.status)) (RunsOtherServer (answered now u r).side (answered now u r).answer) (answer_actions u.status)
    (other_side_timers r.side) (other_side_timers (answered now u r).side)
answer_goes now r u state fits low high still = answers_of now r.side r.answer (record {
  status = u.status;
  text = cond (is_invite r && is_success u.status) [] (text_of u.message);
}) state fits low high still

pub copy_comes : (now : ℕ) (side : Side) (answer : Option LastAnswer) (state : ServerOther) → RunsOtherServer side answer state
    → Steps other_machine now (server_other state Request) (RunsOtherServer side answer) (copy_actions (answers_copy state)) (other_side_timers side)
    (other_side_timers side)
copy_comes now _ _ _ BeforeAnswer = record { fits = BeforeAnswer; does = refl; timers = refl }
copy_comes now _ _ _ (WhileProvisional a is) = record { fits = WhileProvisional a is; does = refl; timers = refl }
copy_comes now _ _ _ (AfterFinal until a late) = record { fits = AfterFinal until a late; does = refl; timers = refl }
copy_comes now _ _ _ (WhenClosed answer) = record { fits = WhenClosed answer; does = refl; timers = refl }

pub fires_j : (now until : ℕ) (answer : Option LastAnswer) (state : ServerOther) → RunsOtherServer (Closing until) answer state
    → Steps other_machine now (server_other state (Fired By.J)) (RunsOtherServer Closed answer) [] (other_side_timers (Closing until)) []
fires_j now until _ _ (AfterFinal _ a late) = record { fits = WhenClosed (Some a); does = refl; timers = refl }
