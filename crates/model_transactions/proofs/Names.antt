-- The timers that the parts of a request name.
use Rattle.std.proofs.Common.{◌≡◌, ℕ, ◌+◌, ◌≤◌, Bool, true, false, cond, List, [], ◌∷◌, ◌++◌, Option, Some, None, refl, arith, eqb}
use Rattle.std.specs.Prelude.{◌&&◌, not, count_by}
use Rattle.std.specs.List.{AllByRecursion}
use Rattle.std.proofs.lemmas.Bool.Decides.{nat_tests}
use Rattle.sip_timers.specs.declared.letter.Letter.{Letter}
use Rattle.sip_timers.specs.declared.letter.Letter.TheVariants as By
use Rattle.sip_transactions.specs.declared.client_other.ClientOther.{ClientOther}
use Rattle.sip_transactions.specs.declared.server_other.ServerOther.{ServerOther}
use Rattle.sip_timers.specs.declared.timer.Owner.{Owner}
use Rattle.sip_timers.specs.declared.timer.Timer.{Timer}
use Rattle.sip_context_branches.specs.state.State.{is_success, phase_deadline, side_deadline}
use Rattle.sip_context_branches.specs.state.declared.branch.Phase.{Phase}
use Rattle.sip_context_branches.specs.state.declared.branch.Phase.TheVariants.{Unheard, Heard, Cancelled, Done, Ended}
use Rattle.sip_context_branches.specs.state.declared.open_request.LastAnswer.{LastAnswer}
use Rattle.sip_context_branches.specs.state.declared.open_request.Side.{Side}
use Rattle.sip_context_branches.specs.state.declared.open_request.Side.TheVariants.{Answering, Closing, Acknowledged, Closed}
use Rattle.sip_context_branches.specs.state.declared.resend.Resend.{Resend}
use Rattle.sip_context_branches.specs.context_model.Branches.{is_closing, was_refused}
use Rattle.sip_context_branches.specs.context_model.Retransmission.{is_sent_again, is_cancelled_again}
use Rattle.model_transactions.specs.InviteClient.{invite_timers, call_timers}
use Rattle.model_transactions.specs.OtherClient as Other
use Rattle.model_transactions.specs.OtherClient.{RunsOtherClient, other_timers}
use Rattle.model_transactions.specs.InviteServer.{invite_side_timers}
use Rattle.model_transactions.specs.OtherServer as Served
use Rattle.model_transactions.specs.OtherServer.{RunsOtherServer, other_side_timers}
use Rattle.model_transactions.specs.Ties.{IsFor, GoesAgain, Ends, Behind, due_at, named, part_timers}
use Rattle.model_transactions.specs.declared.timer_keys.TimerKeys.{TimerKeys}
use Rattle.model_transactions.proofs.Counted.{count-cons}

-- ---- a moment among timers

-- the first is due then
here : (letter : Letter) (moment due : ℕ) (rest : List (Letter × ℕ)) → moment ≡ due → 1 ≤ due_at due ((letter, moment) ∷ rest)
here letter moment due rest e = by_test (eqb moment due) (grind (arith, nat_tests)) (count-cons (λ (t : Letter × ℕ). eqb t.1 due) (letter, moment) rest) where
  by_test : (t : Bool) → t ≡ true → due_at due ((letter, moment) ∷ rest) ≡ cond t 1 0 + due_at due rest → 1 ≤ due_at due ((letter, moment) ∷ rest)
  by_test true is e = omega arith
  by_test false is e = absurd (cc)

-- a later one is
there : (t : Letter × ℕ) (due : ℕ) (rest : List (Letter × ℕ)) → 1 ≤ due_at due rest → 1 ≤ due_at due (t ∷ rest)
there t due rest h = omega (arith, h, count-cons (λ (u : Letter × ℕ). eqb u.1 due) t rest)

some_same : (a b : ℕ) → Some a ≡ Some b → a ≡ b
some_same a b e = cc

-- ---- a branch

pub invite_deadline : (phase : Phase) (again : Resend) (due : ℕ) → phase_deadline phase ≡ Some due → 1 ≤ due_at due (invite_timers phase again ++ call_timers phase)
invite_deadline (Unheard until) again due e = there (By.A, again.due) due ((By.B, until) ∷ (By.C, until + 153000) ∷ [])
    (here By.B until due ((By.C, until + 153000) ∷ []) (some_same until due e))
invite_deadline (Heard until) again due e = here By.C until due [] (some_same until due e)
invite_deadline (Cancelled until) again due e = here By.Cancelled until due [] (some_same until due e)
invite_deadline (Done until status) again due e = by_test (is_success status) where
  by_test : (t : Bool) → 1 ≤ due_at due (cond t ((By.M, until) ∷ []) ((By.D, until) ∷ []) ++ [])
  by_test true = here By.M until due [] (some_same until due e)
  by_test false = here By.D until due [] (some_same until due e)
invite_deadline Ended again due e = absurd (cc)

pub other_deadline : (phase : Phase) (again : Resend) (due : ℕ) (state : ClientOther) → RunsOtherClient phase again state → phase_deadline phase ≡ Some due
    → 1 ≤ due_at due (other_timers phase again)
other_deadline _ _ due _ (Other.WhileUnheard until again) e = there (By.E, again.due) due ((By.F, until) ∷ []) (here By.F until due [] (some_same until due e))
other_deadline _ _ due _ (Other.WhileHeard until again) e = there (By.E, again.due) due ((By.F, until) ∷ []) (here By.F until due [] (some_same until due e))
other_deadline _ _ due _ (Other.AfterFinal until status again) e = here By.K until due [] (some_same until due e)
other_deadline _ _ due _ (Other.WhenEnded again) e = absurd (cc)

pub branch_moment : (invite cancel : Bool) (phase : Phase) (again : Resend) (due : ℕ)
    → cond (cond cancel (is_cancelled_again phase) (is_sent_again invite phase)) (Some again.due) None ≡ Some due
    → 1 ≤ due_at due (cond (invite && not cancel) (invite_timers phase again ++ call_timers phase) (other_timers phase again))
branch_moment true false (Unheard until) again due e = here By.A again.due due ((By.B, until) ∷ (By.C, until + 153000) ∷ []) (some_same again.due due e)
branch_moment true false (Heard until) again due e = absurd (cc)
branch_moment true false (Cancelled until) again due e = absurd (cc)
branch_moment true false (Done until status) again due e = absurd (cc)
branch_moment true false Ended again due e = absurd (cc)
branch_moment true true (Unheard until) again due e = here By.E again.due due ((By.F, until) ∷ []) (some_same again.due due e)
branch_moment true true (Heard until) again due e = here By.E again.due due ((By.F, until) ∷ []) (some_same again.due due e)
branch_moment true true (Cancelled until) again due e = absurd (cc)
branch_moment true true (Done until status) again due e = absurd (cc)
branch_moment true true Ended again due e = absurd (cc)
branch_moment false true (Unheard until) again due e = here By.E again.due due ((By.F, until) ∷ []) (some_same again.due due e)
branch_moment false true (Heard until) again due e = here By.E again.due due ((By.F, until) ∷ []) (some_same again.due due e)
branch_moment false true (Cancelled until) again due e = absurd (cc)
branch_moment false true (Done until status) again due e = absurd (cc)
branch_moment false true Ended again due e = absurd (cc)
branch_moment false false (Unheard until) again due e = here By.E again.due due ((By.F, until) ∷ []) (some_same again.due due e)
branch_moment false false (Heard until) again due e = here By.E again.due due ((By.F, until) ∷ []) (some_same again.due due e)
branch_moment false false (Cancelled until) again due e = absurd (cc)
branch_moment false false (Done until status) again due e = absurd (cc)
branch_moment false false Ended again due e = absurd (cc)

-- ---- the answering side

pub invite_side_deadline : (side : Side) (answer : Option LastAnswer) (again : Resend) (due : ℕ) → side_deadline side ≡ Some due
    → 1 ≤ due_at due (invite_side_timers side answer again)
invite_side_deadline Answering answer again due e = absurd (cc)
invite_side_deadline (Closing until) answer again due e = by_test (was_refused answer) where
  by_test : (t : Bool) → 1 ≤ due_at due (cond t ((By.G, again.due) ∷ (By.H, until) ∷ []) ((By.L, until) ∷ []))
  by_test true = there (By.G, again.due) due ((By.H, until) ∷ []) (here By.H until due [] (some_same until due e))
  by_test false = here By.L until due [] (some_same until due e)
invite_side_deadline (Acknowledged until) answer again due e = here By.I until due [] (some_same until due e)
invite_side_deadline Closed answer again due e = absurd (cc)

pub other_side_deadline : (side : Side) (answer : Option LastAnswer) (due : ℕ) (state : ServerOther) → RunsOtherServer side answer state → side_deadline side ≡ Some due
    → 1 ≤ due_at due (other_side_timers side)
other_side_deadline _ _ due _ Served.BeforeAnswer e = absurd (cc)
other_side_deadline _ _ due _ (Served.WhileProvisional a is) e = absurd (cc)
other_side_deadline _ _ due _ (Served.AfterFinal until a late) e = here By.J until due [] (some_same until due e)
other_side_deadline _ _ due _ (Served.WhenClosed answer) e = absurd (cc)

pub answer_moment : (invite : Bool) (side : Side) (answer : Option LastAnswer) (again : Resend) (due : ℕ)
    → cond (invite && is_closing side && was_refused answer) (Some again.due) None ≡ Some due
    → 1 ≤ due_at due (cond invite (invite_side_timers side answer again) (other_side_timers side))
answer_moment false side answer again due e = absurd (cc)
answer_moment true Answering answer again due e = absurd (cc)
answer_moment true (Closing until) answer again due e = by_test (was_refused answer) e where
  by_test : (t : Bool) → cond t (Some again.due) None ≡ Some due → 1 ≤ due_at due (cond t ((By.G, again.due) ∷ (By.H, until) ∷ []) ((By.L, until) ∷ []))
  by_test true e = here By.G again.due due ((By.H, until) ∷ []) (some_same again.due due e)
  by_test false e = absurd (cc)
answer_moment true (Acknowledged until) answer again due e = absurd (cc)
answer_moment true Closed answer again due e = absurd (cc)

-- ---- why a timer stands

pub branch_reasons : (invite cancel : Bool) (phase : Phase) (again : Resend)
    → AllByRecursion (IsFor (cond (cond cancel (is_cancelled_again phase) (is_sent_again invite phase)) (Some again.due) None) (phase_deadline phase))
    (cond (invite && not cancel) (invite_timers phase again ++ call_timers phase) (other_timers phase again))
branch_reasons true false (Unheard until) again = (GoesAgain By.A again.due refl, (Ends By.B until refl, (Behind By.C (until + 153000) until refl (omega arith), tt)))
branch_reasons true false (Heard until) again = (Ends By.C until refl, tt)
branch_reasons true false (Cancelled until) again = (Ends By.Cancelled until refl, tt)
branch_reasons true false (Done until status) again = by_test (is_success status) where
  by_test : (t : Bool) → AllByRecursion (IsFor None (Some until)) (cond t ((By.M, until) ∷ []) ((By.D, until) ∷ []) ++ [])
  by_test true = (Ends By.M until refl, tt)
  by_test false = (Ends By.D until refl, tt)
branch_reasons true false Ended again = tt
branch_reasons true true (Unheard until) again = (GoesAgain By.E again.due refl, (Ends By.F until refl, tt))
branch_reasons true true (Heard until) again = (GoesAgain By.E again.due refl, (Ends By.F until refl, tt))
branch_reasons true true (Cancelled until) again = tt
branch_reasons true true (Done until status) again = (Ends By.K until refl, tt)
branch_reasons true true Ended again = tt
branch_reasons false true (Unheard until) again = (GoesAgain By.E again.due refl, (Ends By.F until refl, tt))
branch_reasons false true (Heard until) again = (GoesAgain By.E again.due refl, (Ends By.F until refl, tt))
branch_reasons false true (Cancelled until) again = tt
branch_reasons false true (Done until status) again = (Ends By.K until refl, tt)
branch_reasons false true Ended again = tt
branch_reasons false false (Unheard until) again = (GoesAgain By.E again.due refl, (Ends By.F until refl, tt))
branch_reasons false false (Heard until) again = (GoesAgain By.E again.due refl, (Ends By.F until refl, tt))
branch_reasons false false (Cancelled until) again = tt
branch_reasons false false (Done until status) again = (Ends By.K until refl, tt)
branch_reasons false false Ended again = tt

pub side_reasons : (invite : Bool) (side : Side) (answer : Option LastAnswer) (again : Resend)
    → AllByRecursion (IsFor (cond (invite && is_closing side && was_refused answer) (Some again.due) None) (side_deadline side))
    (cond invite (invite_side_timers side answer again) (other_side_timers side))
side_reasons true Answering answer again = tt
side_reasons true (Closing until) answer again = by_test (was_refused answer) where
  by_test : (t : Bool) → AllByRecursion (IsFor (cond t (Some again.due) None) (Some until)) (cond t ((By.G, again.due) ∷ (By.H, until) ∷ []) ((By.L, until) ∷ []))
  by_test true = (GoesAgain By.G again.due refl, (Ends By.H until refl, tt))
  by_test false = (Ends By.L until refl, tt)
side_reasons true (Acknowledged until) answer again = (Ends By.I until refl, tt)
side_reasons true Closed answer again = tt
side_reasons false Answering answer again = tt
side_reasons false (Closing until) answer again = (Ends By.J until refl, tt)
side_reasons false (Acknowledged until) answer again = tt
side_reasons false Closed answer again = tt

-- ---- counts

pub count_part : (p : Timer → Bool) (number : ℕ) (owner : Owner) (keys : TimerKeys) (ts : List (Letter × ℕ))
    → count_by p (part_timers number owner keys ts) ≡ count_by (λ (t : Letter × ℕ). p (named number owner keys t)) ts
count_part p number owner keys [] = refl
count_part p number owner keys (t ∷ ts) = omega (
  arith,
  count_part p number owner keys ts,
  count-cons p (named number owner keys t) (part_timers number owner keys ts),
  count-cons (λ (u : Letter × ℕ). p (named number owner keys u)) t ts,
)
