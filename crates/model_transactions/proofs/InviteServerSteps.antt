-- The server transaction of an INVITE beside the answering side of its request.
use Rattle.std.proofs.Common.{◌≡◌, ℕ, ◌+◌, ◌<◌, ◌≤◌, Bool, true, false, cond, [], ◌∷◌, Option, Some, None, refl, sym, ◌∙◌}
use Rattle.std.specs.Prelude.{◌&&◌, not}
use Rattle.sip_message_form.specs.Text.{text_of}
use Rattle.sip_timers.specs.declared.letter.Letter.TheVariants as By
use Rattle.sip_transactions.specs.ServerAction.{copy_actions}
use Rattle.sip_transactions.specs.ServerInvite.{server_invite, invite_machine, answers_copy}
use Rattle.sip_transactions.specs.declared.server_actions.ServerAction.TheVariants.{Send, SendAgain, Start}
use Rattle.sip_transactions.specs.declared.server_invite.ServerInvite.{ServerInvite}
use Rattle.sip_transactions.specs.declared.server_invite.ServerInvite.TheVariants.{Proceeding, Completed, Confirmed, Accepted, Terminated}
use Rattle.sip_transactions.specs.declared.server_invite.ServerInviteInput.TheVariants.{Invite, Ack, Answer, Fired}
use Rattle.sip_context_branches.specs.state.State.{first_resend, is_invite, is_answering, is_success, is_failure, is_provisional}
use Rattle.sip_context_branches.specs.state.declared.open_request.LastAnswer.{LastAnswer}
use Rattle.sip_context_branches.specs.state.declared.open_request.OpenRequest.{OpenRequest}
use Rattle.sip_context_branches.specs.state.declared.open_request.Side.{Side}
use Rattle.sip_context_branches.specs.state.declared.open_request.Side.TheVariants.{Answering, Closing, Acknowledged, Closed}
use Rattle.sip_context_branches.specs.state.declared.open_request.Upward.{Upward}
use Rattle.sip_context_branches.specs.state.declared.resend.Resend.{Resend}
use Rattle.sip_context_branches.specs.context_model.Branches.{answered, acknowledged, acknowledged_side, is_accepted, is_closing, has_success, was_refused}
use Rattle.sip_context_branches.specs.context_model.Retransmission.{resend_after}
use Rattle.model_transactions.specs.Steps.{Steps}
use Rattle.model_transactions.specs.InviteServer.{RunsInviteServer, BeforeAnswer, WhileProvisional, AfterSuccess, AfterFailure, AfterAck, WhenClosed, invite_side_timers}
use Rattle.model_transactions.specs.InviteServer.{answer_actions, ack_actions}
use Rattle.model_transactions.proofs.Statuses.{success_is, success_short, success_late, failure_is, failure_late, provisional_early, provisional_short}
use Rattle.model_transactions.proofs.Statuses.{server_provisional, server_success, server_failure}

-- ---- answers

-- the answering side after an answer
abbrev side_after : ℕ → Side → ℕ → Side
side_after now side status = cond (is_answering side && not (is_provisional status)) (Closing (now + 32000)) side

-- an answer of the core beside a side and the answers before and after it
abbrev Answers : ℕ → Side → Option LastAnswer → Resend → LastAnswer → ServerInvite → Type 0
Answers now side answer again a state =
    Steps invite_machine now (server_invite state (Answer a.status)) (RunsInviteServer (side_after now side a.status) (Some a) (first_resend now))
    (answer_actions side a.status)
    (invite_side_timers side answer again) (invite_side_timers (side_after now side a.status) (Some a) (first_resend now))

-- the first answers, of a state in which none is final
tries : (now : ℕ) (answer : Option LastAnswer) (again : Resend) (a : LastAnswer) (any : Bool) → 100 ≤ a.status → is_provisional a.status ≡ true
    → Answers now Answering answer again a (Proceeding any)
tries now answer again a true low is = rw (server_provisional a.status low is, is, provisional_early a.status is, provisional_short a.status is)
    (record { fits = WhileProvisional a (first_resend now) is; does = refl; timers = refl })
tries now answer again a false low is = rw (server_provisional a.status low is, is, provisional_early a.status is, provisional_short a.status is)
    (record { fits = WhileProvisional a (first_resend now) is; does = refl; timers = refl })

accepts : (now : ℕ) (answer : Option LastAnswer) (again : Resend) (a : LastAnswer) (any : Bool) → is_success a.status ≡ true
    → Answers now Answering answer again a (Proceeding any)
accepts now answer again a true ok = rw (server_success a.status ok, success_late a.status ok, success_short a.status ok, ok)
    (record { fits = AfterSuccess (now + 32000) a (first_resend now) ok; does = refl; timers = refl })
accepts now answer again a false ok = rw (server_success a.status ok, success_late a.status ok, success_short a.status ok, ok)
    (record { fits = AfterSuccess (now + 32000) a (first_resend now) ok; does = refl; timers = refl })

refuses : (now : ℕ) (answer : Option LastAnswer) (again : Resend) (a : LastAnswer) (any : Bool) → a.status < 700 → is_failure a.status ≡ true
    → Answers now Answering answer again a (Proceeding any)
refuses now answer again a true high long = rw (server_failure a.status high long, failure_late a.status long, failure_is a.status long, long)
    (record { fits = AfterFailure (now + 32000) a (first_resend now) long; does = refl; timers = refl })
refuses now answer again a false high long = rw (server_failure a.status high long, failure_late a.status long, failure_is a.status long, long)
    (record { fits = AfterFailure (now + 32000) a (first_resend now) long; does = refl; timers = refl })

by_kind : (now : ℕ) (answer : Option LastAnswer) (again : Resend) (a : LastAnswer) (any p f : Bool) → is_provisional a.status ≡ p → is_failure a.status ≡ f
    → 100 ≤ a.status → a.status < 700 → Answers now Answering answer again a (Proceeding any)
by_kind now answer again a any true f is other low high = tries now answer again a any low is
by_kind now answer again a any false true late long low high = refuses now answer again a any high long
by_kind now answer again a any false false late short low high = accepts now answer again a any (success_is a.status late short)

answers_first : (now : ℕ) (side : Side) (answer : Option LastAnswer) (again : Resend) (a : LastAnswer) (state : ServerInvite) → RunsInviteServer side answer again state
    → 100 ≤ a.status → a.status < 700 → is_answering side ≡ true → Answers now side answer again a state
answers_first now _ _ _ a _ (BeforeAnswer again) low high still = by_kind now None again a false (is_provisional a.status) (is_failure a.status) refl refl low high
answers_first now _ _ _ a _ (WhileProvisional first again is) low high still = by_kind now (Some first) again a true (is_provisional a.status) (is_failure a.status) refl
    refl low high
answers_first now _ _ _ a _ (AfterSuccess until first again ok) low high still = absurd (cc)
answers_first now _ _ _ a _ (AfterFailure until first again long) low high still = absurd (cc)
answers_first now _ _ _ a _ (AfterAck until first again long) low high still = absurd (cc)
answers_first now _ _ _ a _ (WhenClosed answer again) low high still = absurd (cc)

pub first_answer : (now : ℕ) (r : OpenRequest) (u : Upward) (state : ServerInvite) → RunsInviteServer r.side r.answer r.again state → 100 ≤ u.status → u.status < 700
    → is_answering r.side ≡ true
    → Steps invite_machine now (server_invite state (Answer u.status)) (RunsInviteServer (answered now u r).side (answered now u r).answer (answered now u r).again)
    (answer_actions r.side u.status)
    (invite_side_timers r.side r.answer r.again) (invite_side_timers (answered now u r).side (answered now u r).answer (answered now u r).again)
first_answer now r u state fits low high still = answers_first now r.side r.answer r.again
    (record { status = u.status; text = cond (is_invite r && is_success u.status) [] (text_of u.message) }) state fits low high still

-- a further 2xx
answers_further : (now : ℕ) (side : Side) (answer : Option LastAnswer) (again : Resend) (a : LastAnswer) (state : ServerInvite) → RunsInviteServer side answer again state
    → (is_closing side && has_success answer) ≡ true → is_success a.status ≡ true
    → Steps invite_machine now (server_invite state (Answer a.status)) (RunsInviteServer (side_after now side a.status) (Some a) (first_resend now)) (Send ∷ [])
    (invite_side_timers side answer again) (invite_side_timers (side_after now side a.status) (Some a) (first_resend now))
answers_further now _ _ _ a _ (AfterSuccess until first again is) took ok = rw (server_success a.status ok, success_short a.status ok, success_short first.status is)
    (record { fits = AfterSuccess until a (first_resend now) ok; does = refl; timers = refl })
answers_further now _ _ _ a _ (BeforeAnswer again) took ok = absurd (cc)
answers_further now _ _ _ a _ (WhileProvisional first again is) took ok = absurd (cc)
answers_further now _ _ _ a _ (AfterFailure until first again long) took ok = absurd (no_success (failure_is first.status long) took) where
  no_success : is_success first.status ≡ false → is_success first.status ≡ true → ⊥
  no_success isn't is = cc
answers_further now _ _ _ a _ (AfterAck until first again long) took ok = absurd (cc)
answers_further now _ _ _ a _ (WhenClosed answer again) took ok = absurd (cc)

-- the parts of a conjunction
first_of : (x y z : Bool) → (x && y && z) ≡ true → (y && z) ≡ true
first_of true true z is = is
first_of true false z is = cc
first_of false y z is = cc

pub further_answer : (now : ℕ) (r : OpenRequest) (u : Upward) (state : ServerInvite) → RunsInviteServer r.side r.answer r.again state → is_accepted r ≡ true
    → is_success u.status ≡ true
    → Steps invite_machine now (server_invite state (Answer u.status)) (RunsInviteServer (answered now u r).side (answered now u r).answer (answered now u r).again)
    (Send ∷ [])
    (invite_side_timers r.side r.answer r.again) (invite_side_timers (answered now u r).side (answered now u r).answer (answered now u r).again)
further_answer now r u state fits took ok =
    answers_further now r.side r.answer r.again (record { status = u.status; text = cond (is_invite r && is_success u.status) [] (text_of u.message) }) state fits
    (first_of (is_invite r) (is_closing r.side) (has_success r.answer) took) ok

-- ---- an ACK

ack_step : (now : ℕ) (side : Side) (answer : Option LastAnswer) (again : Resend) (state : ServerInvite) → RunsInviteServer side answer again state
    → Steps invite_machine now (server_invite state Ack) (RunsInviteServer (cond (was_refused answer) (acknowledged_side now side) side) answer again)
    (ack_actions side answer)
    (invite_side_timers side answer again) (invite_side_timers (cond (was_refused answer) (acknowledged_side now side) side) answer again)
ack_step now _ _ _ _ (BeforeAnswer again) = record { fits = BeforeAnswer again; does = refl; timers = refl }
ack_step now _ _ _ _ (WhileProvisional a again is) = rw (provisional_short a.status is) (record { fits = WhileProvisional a again is; does = refl; timers = refl })
ack_step now _ _ _ _ (AfterSuccess until a again ok) = rw (success_short a.status ok)
    (record { fits = AfterSuccess until a again ok; does = refl; timers = rw (success_short a.status ok) refl })
ack_step now _ _ _ _ (AfterFailure until a again long) = rw long (record { fits = AfterAck (now + 5000) a again long; does = refl; timers = refl })
ack_step now _ _ _ _ (AfterAck until a again long) = rw long (record { fits = AfterAck until a again long; does = refl; timers = refl })
ack_step now _ _ _ _ (WhenClosed answer again) = by_test (was_refused answer) where
  by_test : (t : Bool) → Steps invite_machine now (server_invite Terminated Ack) (RunsInviteServer (cond t Closed Closed) answer again) [] []
      (invite_side_timers (cond t Closed Closed) answer again)
  by_test true = record { fits = WhenClosed answer again; does = refl; timers = refl }
  by_test false = record { fits = WhenClosed answer again; does = refl; timers = refl }

-- the parts of a request after an ACK
acked_parts : (now : ℕ) (r : OpenRequest) (t : Bool) → (cond t (record r { side = acknowledged_side now r.side }) r).side ≡ cond t (acknowledged_side now r.side) r.side
acked_parts now r true = refl
acked_parts now r false = refl

acked_answer : (now : ℕ) (r : OpenRequest) (t : Bool) → (cond t (record r { side = acknowledged_side now r.side }) r).answer ≡ r.answer
acked_answer now r true = refl
acked_answer now r false = refl

acked_again : (now : ℕ) (r : OpenRequest) (t : Bool) → (cond t (record r { side = acknowledged_side now r.side }) r).again ≡ r.again
acked_again now r true = refl
acked_again now r false = refl

pub ack_comes : (now : ℕ) (r : OpenRequest) (state : ServerInvite) → RunsInviteServer r.side r.answer r.again state → is_invite r ≡ true
    → Steps invite_machine now (server_invite state Ack) (RunsInviteServer (acknowledged now r).side (acknowledged now r).answer (acknowledged now r).again)
    (ack_actions r.side r.answer)
    (invite_side_timers r.side r.answer r.again) (invite_side_timers (acknowledged now r).side (acknowledged now r).answer (acknowledged now r).again)
ack_comes now r state fits is =
    rw (is, acked_parts now r (was_refused r.answer), acked_answer now r (was_refused r.answer), acked_again now r (was_refused r.answer))
    (ack_step now r.side r.answer r.again state fits)

-- ---- timers and copies

-- what was refused wasn't accepted
refused_only : (s : ℕ) → is_success s ≡ true → is_failure s ≡ true → ⊥
refused_only s ok long = let short = success_short s ok in cc

pub fires_g : (until : ℕ) (answer : Option LastAnswer) (again : Resend) (state : ServerInvite) → RunsInviteServer (Closing until) answer again state
    → was_refused answer ≡ true
    → Steps invite_machine again.due (server_invite state (Fired By.G)) (RunsInviteServer (Closing until) answer (resend_after 4000 again))
    (SendAgain ∷ Start By.G (resend_after 4000 again).wait ∷ []) ((By.H, until) ∷ []) (invite_side_timers (Closing until) answer (resend_after 4000 again))
fires_g until _ again _ (AfterSuccess _ a _ ok) refused = absurd (refused_only a.status ok refused)
fires_g until _ again _ (AfterFailure _ a _ long) refused = rw long (record { fits = AfterFailure until a (resend_after 4000 again) long; does = refl; timers = refl })

pub fires_h : (now until : ℕ) (answer : Option LastAnswer) (again : Resend) (state : ServerInvite) → RunsInviteServer (Closing until) answer again state
    → was_refused answer ≡ true
    → Steps invite_machine now (server_invite state (Fired By.H)) (RunsInviteServer Closed answer again) [] (invite_side_timers (Closing until) answer again) []
fires_h now until _ again _ (AfterSuccess _ a _ ok) refused = absurd (refused_only a.status ok refused)
fires_h now until _ again _ (AfterFailure _ a _ long) refused = rw long (record { fits = WhenClosed (Some a) again; does = refl; timers = refl })

pub fires_l : (now until : ℕ) (answer : Option LastAnswer) (again : Resend) (state : ServerInvite) → RunsInviteServer (Closing until) answer again state
    → was_refused answer ≡ false
    → Steps invite_machine now (server_invite state (Fired By.L)) (RunsInviteServer Closed answer again) [] (invite_side_timers (Closing until) answer again) []
fires_l now until _ again _ (AfterSuccess _ a _ ok) accepted = rw accepted (record { fits = WhenClosed (Some a) again; does = refl; timers = refl })
fires_l now until _ again _ (AfterFailure _ a _ long) accepted = absurd (cc)

pub fires_i : (now until : ℕ) (answer : Option LastAnswer) (again : Resend) (state : ServerInvite) → RunsInviteServer (Acknowledged until) answer again state
    → Steps invite_machine now (server_invite state (Fired By.I)) (RunsInviteServer Closed answer again) [] (invite_side_timers (Acknowledged until) answer again) []
fires_i now until _ again _ (AfterAck _ a _ long) = record { fits = WhenClosed (Some a) again; does = refl; timers = refl }

pub copy_comes : (now : ℕ) (side : Side) (answer : Option LastAnswer) (again : Resend) (state : ServerInvite) → RunsInviteServer side answer again state
    → Steps invite_machine now (server_invite state Invite) (RunsInviteServer side answer again) (copy_actions (answers_copy state))
    (invite_side_timers side answer again) (invite_side_timers side answer again)
copy_comes now _ _ _ _ (BeforeAnswer again) = record { fits = BeforeAnswer again; does = refl; timers = refl }
copy_comes now _ _ _ _ (WhileProvisional a again is) = record { fits = WhileProvisional a again is; does = refl; timers = refl }
copy_comes now _ _ _ _ (AfterSuccess until a again ok) = rw (success_short a.status ok) (record { fits = AfterSuccess until a again ok; does = refl; timers = refl })
copy_comes now _ _ _ _ (AfterFailure until a again long) = rw long (record { fits = AfterFailure until a again long; does = refl; timers = refl })
copy_comes now _ _ _ _ (AfterAck until a again long) = record { fits = AfterAck until a again long; does = refl; timers = refl }
copy_comes now _ _ _ _ (WhenClosed answer again) = record { fits = WhenClosed answer again; does = refl; timers = refl }

-- ---- one state

-- a state by the side, the answer and the wait alone
state_of : Side → Option LastAnswer → Resend → ServerInvite
state_of Answering None again = Proceeding false
state_of Answering (Some a) again = Proceeding true
state_of (Closing until) answer again = cond (was_refused answer) (Completed again.wait) Accepted
state_of (Acknowledged until) answer again = Confirmed
state_of Closed answer again = Terminated

by_side : (side : Side) (answer : Option LastAnswer) (again : Resend) (state : ServerInvite) → RunsInviteServer side answer again state
    → state ≡ state_of side answer again
unfolding state_of
by_side _ _ _ _ (BeforeAnswer again) = refl
by_side _ _ _ _ (WhileProvisional a again is) = refl
by_side _ _ _ _ (AfterSuccess until a again ok) = rw (success_short a.status ok) refl
by_side _ _ _ _ (AfterFailure until a again long) = rw long refl
by_side _ _ _ _ (AfterAck until a again long) = refl
by_side _ _ _ _ (WhenClosed answer again) = refl

pub one_state : (side : Side) (answer : Option LastAnswer) (again : Resend) (state other : ServerInvite) → RunsInviteServer side answer again state
    → RunsInviteServer side answer again other → state ≡ other
one_state side answer again state other s o = by_side side answer again state s ∙ sym (by_side side answer again other o)
