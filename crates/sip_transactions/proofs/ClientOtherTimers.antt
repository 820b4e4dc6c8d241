-- The timers of the client transaction of a request that isn't an INVITE.
use Rattle.std.proofs.Common.{◌≡◌, true, [], ◌∷◌, ◌⊎◌, inl, inr, refl, sym, ap}
use Rattle.sip_timers.specs.Machine.{Starts, KeepsTimers, IsOneOf}
use Rattle.sip_transactions.specs.ClientOther.{Heard, final, fired, heard, row, runs, other_machine}
use Rattle.sip_timers.specs.declared.letter.Letter.{Letter}
use Rattle.sip_timers.specs.declared.letter.Letter.TheVariants.{E, F, K}
use Rattle.sip_transactions.specs.declared.client_other.ClientOther.{ClientOther}
use Rattle.sip_transactions.specs.declared.client_other.ClientOther.TheVariants.{Trying, Proceeding, Completed, Terminated}

-- a timer that runs after a row ran before it, or is started by it
pub kept : (state : ClientOther) (h : Heard) (letter : Letter) → runs (row state h).0 letter ≡ true
    → (runs state letter ≡ true) ⊎ Starts other_machine (row state h).1 letter
kept (Trying interval) h E r = inl refl
kept (Trying interval) h F r = inl refl
kept Proceeding h E r = inl refl
kept Proceeding h F r = inl refl
kept Completed h K r = inl refl
kept (Trying interval) final K r = inr (inl refl)
kept Proceeding final K r = inr (inl refl)
kept (Trying interval) (fired E) letter r = inl r
kept Proceeding (fired E) letter r = inl r
kept (Trying interval) (fired F) letter r = inl r
kept Proceeding (fired F) letter r = inl r
kept Completed (fired K) letter r = inl r
kept state h letter r = inl r

-- a timer that a row starts runs after it
pub started : (state : ClientOther) (h : Heard) (letter : Letter) → Starts other_machine (row state h).1 letter → runs (row state h).0 letter ≡ true
started (Trying interval) (fired E) letter (inl e) = ap (runs Proceeding) (sym e)
started (Trying interval) (fired E) letter (inr none) = absurd none
started Proceeding (fired E) letter (inl e) = ap (runs Proceeding) (sym e)
started Proceeding (fired E) letter (inr none) = absurd none
started (Trying interval) final letter (inl e) = ap (runs Completed) (sym e)
started (Trying interval) final letter (inr none) = absurd none
started Proceeding final letter (inl e) = ap (runs Completed) (sym e)
started Proceeding final letter (inr none) = absurd none
started Completed (fired K) letter s = absurd s
started state h letter s = absurd s

-- a timer that fires is started anew, or runs no more
pub anew : (state : ClientOther) (letter : Letter) → runs (row state (fired letter)).0 letter ≡ true → Starts other_machine (row state (fired letter)).1 letter
anew (Trying interval) E r = inl refl
anew (Trying interval) F r = cc
anew (Trying interval) letter r = cc
anew Proceeding E r = inl refl
anew Proceeding F r = cc
anew Proceeding letter r = cc
anew Completed K r = cc
anew Completed letter r = cc
anew Terminated letter r = cc

-- no other timer runs
pub own : (state : ClientOther) (letter : Letter) → runs state letter ≡ true → IsOneOf (E ∷ F ∷ K ∷ []) letter
own (Trying interval) E r = inl refl
own (Trying interval) F r = inr (inl refl)
own Proceeding E r = inl refl
own Proceeding F r = inr (inl refl)
own Completed K r = inr (inr (inl refl))
own state letter r = cc

pub keeps : KeepsTimers other_machine
keeps = record {
  kept = λ state input letter r. kept state (heard input) letter r;
  started = λ state input letter s. started state (heard input) letter s;
  anew = λ state letter r. anew state letter r;
}
