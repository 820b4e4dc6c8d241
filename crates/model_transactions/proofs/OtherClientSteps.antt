-- The client transaction of another request, or of a CANCEL, beside its branch.
use Rattle.std.proofs.Common.{◌≡◌, ℕ, ◌+◌, ◌<◌, ◌≤◌, true, false, [], ◌∷◌, refl}
use Rattle.sip_timers.specs.declared.letter.Letter.TheVariants as By
use Rattle.sip_transactions.specs.ClientOther.{client_other, other_machine, row, provisional, final}
use Rattle.sip_transactions.specs.declared.client_actions.ClientAction.TheVariants.{SendAgain, Up, Start}
use Rattle.sip_transactions.specs.declared.client_actions.Report.TheVariants.{Response, Timeout, Unavailable}
use Rattle.sip_transactions.specs.declared.client_other.ClientOther.{ClientOther}
use Rattle.sip_transactions.specs.declared.client_other.ClientOtherInput.TheVariants.{Received, Fired, Fault}
use Rattle.sip_context_branches.specs.state.State.{is_final, is_provisional}
use Rattle.sip_context_branches.specs.state.declared.branch.Phase.{Phase}
use Rattle.sip_context_branches.specs.state.declared.branch.Phase.TheVariants.{Unheard, Heard, Done, Ended}
use Rattle.sip_context_branches.specs.state.declared.resend.Resend.{Resend}
use Rattle.sip_context_branches.specs.context_model.Branches.{other_heard, is_unheard}
use Rattle.sip_context_branches.specs.context_model.Retransmission.{resend_after}
use Rattle.model_transactions.specs.Steps.{Steps}
use Rattle.model_transactions.specs.OtherClient.{RunsOtherClient, WhileUnheard, WhileHeard, AfterFinal, WhenEnded, other_timers, heard_actions, steady}
use Rattle.model_transactions.proofs.Statuses.{other_provisional, other_final}

-- ---- responses

tries : (now : ℕ) (phase : Phase) (again : Resend) (state : ClientOther) → RunsOtherClient phase again state
    → Steps other_machine now (row state provisional) (RunsOtherClient (other_heard phase) again) (heard_actions phase) (other_timers phase again)
    (other_timers (other_heard phase) again)
tries now _ _ _ (WhileUnheard until again) = record { fits = WhileHeard until again; does = refl; timers = refl }
tries now _ _ _ (WhileHeard until again) = record { fits = WhileHeard until again; does = refl; timers = refl }
tries now _ _ _ (AfterFinal until first again) = record { fits = AfterFinal until first again; does = refl; timers = refl }
tries now _ _ _ (WhenEnded again) = record { fits = WhenEnded again; does = refl; timers = refl }

pub hears_provisional : (now status : ℕ) (phase : Phase) (again : Resend) (state : ClientOther) → RunsOtherClient phase again state → 100 ≤ status
    → is_provisional status ≡ true
    → Steps other_machine now (client_other state (Received status)) (RunsOtherClient (other_heard phase) again) (heard_actions phase) (other_timers phase again)
    (other_timers (other_heard phase) again)
hears_provisional now status phase again state fits low is = rw (other_provisional status low is) (tries now phase again state fits)

finishes : (now status : ℕ) (phase : Phase) (again : Resend) (state : ClientOther) → RunsOtherClient phase again state → is_final phase ≡ false
    → Steps other_machine now (row state final) (RunsOtherClient (Done (now + 5000) status) again) (Up Response ∷ Start By.K 5000 ∷ []) (other_timers phase again)
    (other_timers (Done (now + 5000) status) again)
finishes now status _ _ _ (WhileUnheard until again) still = record { fits = AfterFinal (now + 5000) status again; does = refl; timers = refl }
finishes now status _ _ _ (WhileHeard until again) still = record { fits = AfterFinal (now + 5000) status again; does = refl; timers = refl }
finishes now status _ _ _ (AfterFinal until first again) still = absurd (cc)
finishes now status _ _ _ (WhenEnded again) still = absurd (cc)

pub hears_first : (now status : ℕ) (phase : Phase) (again : Resend) (state : ClientOther) → RunsOtherClient phase again state → status < 700
    → is_provisional status ≡ false → is_final phase ≡ false
    → Steps other_machine now (client_other state (Received status)) (RunsOtherClient (Done (now + 5000) status) again) (Up Response ∷ Start By.K 5000 ∷ [])
    (other_timers phase again) (other_timers (Done (now + 5000) status) again)
hears_first now status phase again state fits high late still = rw (other_final status high late) (finishes now status phase again state fits still)

stays : (now : ℕ) (phase : Phase) (again : Resend) (state : ClientOther) → RunsOtherClient phase again state → is_final phase ≡ true
    → Steps other_machine now (row state final) (RunsOtherClient phase again) [] (other_timers phase again) (other_timers phase again)
stays now _ _ _ (WhileUnheard until again) done = absurd (cc)
stays now _ _ _ (WhileHeard until again) done = absurd (cc)
stays now _ _ _ (AfterFinal until first again) done = record { fits = AfterFinal until first again; does = refl; timers = refl }
stays now _ _ _ (WhenEnded again) done = record { fits = WhenEnded again; does = refl; timers = refl }

pub hears_further : (now status : ℕ) (phase : Phase) (again : Resend) (state : ClientOther) → RunsOtherClient phase again state → status < 700
    → is_provisional status ≡ false → is_final phase ≡ true
    → Steps other_machine now (client_other state (Received status)) (RunsOtherClient phase again) [] (other_timers phase again) (other_timers phase again)
hears_further now status phase again state fits high late done = rw (other_final status high late) (stays now phase again state fits done)

-- ---- timers and faults

pub fires_unheard : (until : ℕ) (again : Resend) (state : ClientOther) → RunsOtherClient (Unheard until) again state
    → Steps other_machine again.due (client_other state (Fired By.E)) (RunsOtherClient (Unheard until) (resend_after 4000 again))
    (SendAgain ∷ Start By.E (resend_after 4000 again).wait ∷ []) ((By.F, until) ∷ []) (other_timers (Unheard until) (resend_after 4000 again))
fires_unheard until again _ (WhileUnheard _ _) = record { fits = WhileUnheard until (resend_after 4000 again); does = refl; timers = refl }

pub fires_heard : (until : ℕ) (again : Resend) (state : ClientOther) → RunsOtherClient (Heard until) again state
    → Steps other_machine again.due (client_other state (Fired By.E)) (RunsOtherClient (Heard until) (steady again))
    (SendAgain ∷ Start By.E 4000 ∷ []) ((By.F, until) ∷ []) (other_timers (Heard until) (steady again))
fires_heard until again _ (WhileHeard _ _) = record { fits = WhileHeard until (steady again); does = refl; timers = refl }

pub fires_f : (now : ℕ) (phase : Phase) (again : Resend) (state : ClientOther) → RunsOtherClient phase again state → is_final phase ≡ false
    → Steps other_machine now (client_other state (Fired By.F)) (RunsOtherClient Ended again) (Up Timeout ∷ []) (other_timers phase again) []
fires_f now _ _ _ (WhileUnheard until again) still = record { fits = WhenEnded again; does = refl; timers = refl }
fires_f now _ _ _ (WhileHeard until again) still = record { fits = WhenEnded again; does = refl; timers = refl }
fires_f now _ _ _ (AfterFinal until first again) still = absurd (cc)
fires_f now _ _ _ (WhenEnded again) still = absurd (cc)

pub fires_k : (now until status : ℕ) (again : Resend) (state : ClientOther) → RunsOtherClient (Done until status) again state
    → Steps other_machine now (client_other state (Fired By.K)) (RunsOtherClient Ended again) [] (other_timers (Done until status) again) []
fires_k now until status again _ (AfterFinal _ _ _) = record { fits = WhenEnded again; does = refl; timers = refl }

pub fails : (now until : ℕ) (again : Resend) (state : ClientOther) → RunsOtherClient (Unheard until) again state
    → Steps other_machine now (client_other state Fault) (RunsOtherClient Ended again) (Up Unavailable ∷ []) (other_timers (Unheard until) again) []
fails now until again _ (WhileUnheard _ _) = record { fits = WhenEnded again; does = refl; timers = refl }

pub fails_late : (now : ℕ) (phase : Phase) (again : Resend) (state : ClientOther) → RunsOtherClient phase again state → is_unheard phase ≡ false
    → Steps other_machine now (client_other state Fault) (RunsOtherClient phase again) [] (other_timers phase again) (other_timers phase again)
fails_late now _ _ _ (WhileUnheard until again) late = absurd (cc)
fails_late now _ _ _ (WhileHeard until again) late = record { fits = WhileHeard until again; does = refl; timers = refl }
fails_late now _ _ _ (AfterFinal until first again) late = record { fits = AfterFinal until first again; does = refl; timers = refl }
fails_late now _ _ _ (WhenEnded again) late = record { fits = WhenEnded again; does = refl; timers = refl }
