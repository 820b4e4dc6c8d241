-- The client transaction of an INVITE beside its branch.
use Rattle.std.proofs.Common.{◌≡◌, ℕ, ◌+◌, ◌<◌, ◌≤◌, ◌==◌, Bool, true, false, cond, [], ◌∷◌, refl, sym, subst}
use Rattle.sip_timers.specs.declared.letter.Letter.TheVariants as By
use Rattle.sip_transactions.specs.ClientInvite.{client_invite, invite_machine, row, runs, Heard, provisional, success, failure}
use Rattle.sip_transactions.specs.declared.client_actions.ClientAction.TheVariants.{SendAgain, Up, Start}
use Rattle.sip_transactions.specs.declared.client_actions.Report.TheVariants.{Timeout, Unavailable}
use Rattle.sip_transactions.specs.declared.client_invite.ClientInvite.{ClientInvite}
use Rattle.sip_transactions.specs.declared.client_invite.ClientInvite.TheVariants.{Calling, Proceeding}
use Rattle.sip_transactions.specs.declared.client_invite.ClientInviteInput.TheVariants.{Received, Fired, Fault, GivenUp}
use Rattle.sip_context_branches.specs.state.State.{is_final, is_provisional, is_success, is_failure}
use Rattle.sip_context_branches.specs.state.declared.branch.Phase.{Phase}
use Rattle.sip_context_branches.specs.state.declared.branch.Phase.TheVariants.{Unheard, Cancelled, Done, Ended}
use Rattle.sip_context_branches.specs.state.declared.branch.Phase.TheVariants as Now
use Rattle.sip_context_branches.specs.state.declared.resend.Resend.{Resend}
use Rattle.sip_context_branches.specs.context_model.Branches.{invite_heard, is_unheard}
use Rattle.sip_context_branches.specs.context_model.Retransmission.{resend_after}
use Rattle.model_transactions.specs.Steps.{Steps}
use Rattle.model_transactions.specs.InviteClient.{RunsInviteClient, WhileUnheard, WhileHeard, WhileCancelled, AfterSuccess, AfterFailure, WhenEnded, invite_timers}
use Rattle.model_transactions.specs.InviteClient.{heard_actions, final_actions, further_actions}
use Rattle.model_transactions.proofs.Statuses.{success_is, success_short, failure_is, client_provisional, client_success, client_failure}

-- ---- a provisional response

-- the step of the table at a provisional response
abbrev Tries : ℕ → Phase → Resend → Phase → ClientInvite → Type 0
Tries now phase again next state = Steps invite_machine now (row state provisional) (RunsInviteClient next again) (heard_actions phase) (invite_timers phase again)
    (invite_timers next again)

by_unheard : (now until a b : ℕ) (again : Resend) (t : Bool) → Tries now (Unheard until) again (cond t (Now.Heard a) (Now.Heard b)) (Calling again.wait)
by_unheard now until a b again true = record { fits = WhileHeard a again; does = refl; timers = refl }
by_unheard now until a b again false = record { fits = WhileHeard b again; does = refl; timers = refl }

by_heard : (now until a b : ℕ) (again : Resend) (t : Bool) → Tries now (Now.Heard until) again (cond t (Now.Heard a) (Now.Heard b)) Proceeding
by_heard now until a b again true = record { fits = WhileHeard a again; does = refl; timers = refl }
by_heard now until a b again false = record { fits = WhileHeard b again; does = refl; timers = refl }

tries : (now status : ℕ) (phase : Phase) (again : Resend) (state : ClientInvite) → RunsInviteClient phase again state
    → Tries now phase again (invite_heard now status phase) state
tries now status _ _ _ (WhileUnheard until again) = by_unheard now until (until + 153000) (now + 185000) again (status == 100)
tries now status _ _ _ (WhileHeard until again) = by_heard now until until (now + 185000) again (status == 100)
tries now status _ _ _ (WhileCancelled until again) = record { fits = WhileCancelled until again; does = refl; timers = refl }
tries now status _ _ _ (AfterSuccess until first again ok) = record { fits = AfterSuccess until first again ok; does = refl; timers = rw ok refl }
tries now status _ _ _ (AfterFailure until first again long) = record {
  fits = AfterFailure until first again long;
  does = refl;
  timers = rw (failure_is first long) refl;
}
tries now status _ _ _ (WhenEnded again) = record { fits = WhenEnded again; does = refl; timers = refl }

pub hears_provisional : (now status : ℕ) (phase : Phase) (again : Resend) (state : ClientInvite) → RunsInviteClient phase again state → 100 ≤ status
    → is_provisional status ≡ true
    → Steps invite_machine now (client_invite state (Received status)) (RunsInviteClient (invite_heard now status phase) again) (heard_actions phase)
    (invite_timers phase again) (invite_timers (invite_heard now status phase) again)
hears_provisional now status phase again state runs low is =
    subst (λ (h : Heard). Steps invite_machine now (row state h) (RunsInviteClient (invite_heard now status phase) again) (heard_actions phase)
    (invite_timers phase again) (invite_timers (invite_heard now status phase) again))
    (sym (client_provisional status low is)) (tries now status phase again state runs)

-- ---- the first final response

first_success : (now status : ℕ) (phase : Phase) (again : Resend) (state : ClientInvite) → RunsInviteClient phase again state → is_success status ≡ true
    → is_final phase ≡ false
    → Steps invite_machine now (row state success) (RunsInviteClient (Done (now + 32000) status) again) (final_actions status) (invite_timers phase again)
    (invite_timers (Done (now + 32000) status) again)
first_success now status _ _ _ (WhileUnheard until again) ok still = record {
  fits = AfterSuccess (now + 32000) status again ok;
  does = rw (success_short status ok) refl;
  timers = rw ok refl;
}
first_success now status _ _ _ (WhileHeard until again) ok still = record {
  fits = AfterSuccess (now + 32000) status again ok;
  does = rw (success_short status ok) refl;
  timers = rw ok refl;
}
first_success now status _ _ _ (WhileCancelled until again) ok still = record {
  fits = AfterSuccess (now + 32000) status again ok;
  does = rw (success_short status ok) refl;
  timers = rw ok refl;
}
first_success now status _ _ _ (AfterSuccess until first again is) ok still = absurd (cc)
first_success now status _ _ _ (AfterFailure until first again is) ok still = absurd (cc)
first_success now status _ _ _ (WhenEnded again) ok still = absurd (cc)

first_failure : (now status : ℕ) (phase : Phase) (again : Resend) (state : ClientInvite) → RunsInviteClient phase again state → is_failure status ≡ true
    → is_final phase ≡ false
    → Steps invite_machine now (row state failure) (RunsInviteClient (Done (now + 32000) status) again) (final_actions status) (invite_timers phase again)
    (invite_timers (Done (now + 32000) status) again)
first_failure now status _ _ _ (WhileUnheard until again) long still = record {
  fits = AfterFailure (now + 32000) status again long;
  does = rw long refl;
  timers = rw (failure_is status long) refl;
}
first_failure now status _ _ _ (WhileHeard until again) long still = record {
  fits = AfterFailure (now + 32000) status again long;
  does = rw long refl;
  timers = rw (failure_is status long) refl;
}
first_failure now status _ _ _ (WhileCancelled until again) long still = record {
  fits = AfterFailure (now + 32000) status again long;
  does = rw long refl;
  timers = rw (failure_is status long) refl;
}
first_failure now status _ _ _ (AfterSuccess until first again is) long still = absurd (cc)
first_failure now status _ _ _ (AfterFailure until first again is) long still = absurd (cc)
first_failure now status _ _ _ (WhenEnded again) long still = absurd (cc)

pub hears_first : (now status : ℕ) (phase : Phase) (again : Resend) (state : ClientInvite) → RunsInviteClient phase again state → status < 700
    → is_provisional status ≡ false → is_final phase ≡ false
    → Steps invite_machine now (client_invite state (Received status)) (RunsInviteClient (Done (now + 32000) status) again) (final_actions status)
    (invite_timers phase again) (invite_timers (Done (now + 32000) status) again)
hears_first now status phase again state runs high late still = by_test (is_failure status) refl where
  by_test : (t : Bool) → is_failure status ≡ t → Steps invite_machine now (client_invite state (Received status)) (RunsInviteClient (Done (now + 32000) status) again)
      (final_actions status) (invite_timers phase again) (invite_timers (Done (now + 32000) status) again)
  by_test true long = rw (client_failure status high long) (first_failure now status phase again state runs long still)
  by_test false short = rw (client_success status (success_is status late short)) (first_success now status phase again state runs (success_is status late short) still)

-- ---- a further one

further_success : (now status : ℕ) (phase : Phase) (again : Resend) (state : ClientInvite) → RunsInviteClient phase again state → is_success status ≡ true
    → is_final phase ≡ true
    → Steps invite_machine now (row state success) (RunsInviteClient phase again) (further_actions phase status) (invite_timers phase again) (invite_timers phase again)
further_success now status _ _ _ (WhileUnheard until again) ok done = absurd (cc)
further_success now status _ _ _ (WhileHeard until again) ok done = absurd (cc)
further_success now status _ _ _ (WhileCancelled until again) ok done = absurd (cc)
further_success now status _ _ _ (AfterSuccess until first again is) ok done = record {
  fits = AfterSuccess until first again is;
  does = rw (is, ok) refl;
  timers = rw is refl;
}
further_success now status _ _ _ (AfterFailure until first again is) ok done = record {
  fits = AfterFailure until first again is;
  does = rw (failure_is first is, success_short status ok) refl;
  timers = rw (failure_is first is) refl;
}
further_success now status _ _ _ (WhenEnded again) ok done = record { fits = WhenEnded again; does = refl; timers = refl }

further_failure : (now status : ℕ) (phase : Phase) (again : Resend) (state : ClientInvite) → RunsInviteClient phase again state → is_failure status ≡ true
    → is_final phase ≡ true
    → Steps invite_machine now (row state failure) (RunsInviteClient phase again) (further_actions phase status) (invite_timers phase again) (invite_timers phase again)
further_failure now status _ _ _ (WhileUnheard until again) long done = absurd (cc)
further_failure now status _ _ _ (WhileHeard until again) long done = absurd (cc)
further_failure now status _ _ _ (WhileCancelled until again) long done = absurd (cc)
further_failure now status _ _ _ (AfterSuccess until first again is) long done = record {
  fits = AfterSuccess until first again is;
  does = rw (is, failure_is status long) refl;
  timers = rw is refl;
}
further_failure now status _ _ _ (AfterFailure until first again is) long done = record {
  fits = AfterFailure until first again is;
  does = rw (failure_is first is, long) refl;
  timers = rw (failure_is first is) refl;
}
further_failure now status _ _ _ (WhenEnded again) long done = record { fits = WhenEnded again; does = refl; timers = refl }

pub hears_further : (now status : ℕ) (phase : Phase) (again : Resend) (state : ClientInvite) → RunsInviteClient phase again state → status < 700
    → is_provisional status ≡ false → is_final phase ≡ true
    → Steps invite_machine now (client_invite state (Received status)) (RunsInviteClient phase again) (further_actions phase status) (invite_timers phase again)
    (invite_timers phase again)
hears_further now status phase again state runs high late done = by_test (is_failure status) refl where
  by_test : (t : Bool) → is_failure status ≡ t → Steps invite_machine now (client_invite state (Received status)) (RunsInviteClient phase again)
      (further_actions phase status) (invite_timers phase again) (invite_timers phase again)
  by_test true long = rw (client_failure status high long) (further_failure now status phase again state runs long done)
  by_test false short = rw (client_success status (success_is status late short)) (further_success now status phase again state runs (success_is status late short) done)

-- ---- timers and faults

pub fires_a : (until : ℕ) (again : Resend) (state : ClientInvite) → RunsInviteClient (Unheard until) again state
    → Steps invite_machine again.due (client_invite state (Fired By.A)) (RunsInviteClient (Unheard until) (resend_after 32000 again))
    (SendAgain ∷ Start By.A (resend_after 32000 again).wait ∷ []) ((By.B, until) ∷ []) (invite_timers (Unheard until) (resend_after 32000 again))
fires_a until again _ (WhileUnheard _ _) = record { fits = WhileUnheard until (resend_after 32000 again); does = refl; timers = refl }

pub fires_b : (now until : ℕ) (again : Resend) (state : ClientInvite) → RunsInviteClient (Unheard until) again state
    → Steps invite_machine now (client_invite state (Fired By.B)) (RunsInviteClient Ended again) (Up Timeout ∷ []) (invite_timers (Unheard until) again) []
fires_b now until again _ (WhileUnheard _ _) = record { fits = WhenEnded again; does = refl; timers = refl }

pub gives_up : (now until : ℕ) (again : Resend) (state : ClientInvite) → RunsInviteClient (Cancelled until) again state
    → Steps invite_machine now (client_invite state GivenUp) (RunsInviteClient Ended again) [] (invite_timers (Cancelled until) again) []
gives_up now until again _ (WhileCancelled _ _) = record { fits = WhenEnded again; does = refl; timers = refl }

pub fires_last : (now until status : ℕ) (again : Resend) (state : ClientInvite) → RunsInviteClient (Done until status) again state
    → Steps invite_machine now (client_invite state (Fired (cond (is_success status) By.M By.D))) (RunsInviteClient Ended again) []
    (invite_timers (Done until status) again) []
fires_last now until status again _ (AfterSuccess _ _ _ ok) = rw ok (record { fits = WhenEnded again; does = refl; timers = refl })
fires_last now until status again _ (AfterFailure _ _ _ long) = rw (failure_is status long) (record { fits = WhenEnded again; does = refl; timers = refl })

pub fails : (now until : ℕ) (again : Resend) (state : ClientInvite) → RunsInviteClient (Unheard until) again state
    → Steps invite_machine now (client_invite state Fault) (RunsInviteClient Ended again) (Up Unavailable ∷ []) (invite_timers (Unheard until) again) []
fails now until again _ (WhileUnheard _ _) = record { fits = WhenEnded again; does = refl; timers = refl }

pub fails_late : (now : ℕ) (phase : Phase) (again : Resend) (state : ClientInvite) → RunsInviteClient phase again state → is_unheard phase ≡ false
    → Steps invite_machine now (client_invite state Fault) (RunsInviteClient phase again) [] (invite_timers phase again) (invite_timers phase again)
fails_late now _ _ _ (WhileUnheard until again) late = absurd (cc)
fails_late now _ _ _ (WhileHeard until again) late = record { fits = WhileHeard until again; does = refl; timers = refl }
fails_late now _ _ _ (WhileCancelled until again) late = record { fits = WhileCancelled until again; does = refl; timers = refl }
fails_late now _ _ _ (AfterSuccess until first again is) late = record { fits = AfterSuccess until first again is; does = refl; timers = rw is refl }
fails_late now _ _ _ (AfterFailure until first again is) late = record { fits = AfterFailure until first again is; does = refl; timers = rw (failure_is first is) refl }
fails_late now _ _ _ (WhenEnded again) late = record { fits = WhenEnded again; does = refl; timers = refl }
