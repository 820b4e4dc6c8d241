-- The timers of the client transaction of an INVITE.
use Rattle.std.proofs.Common.{◌≡◌, true, [], ◌∷◌, ◌⊎◌, inl, inr, refl, sym, ap}
use Rattle.sip_timers.specs.Machine.{Starts, KeepsTimers, IsOneOf}
use Rattle.sip_transactions.specs.ClientInvite.{Heard, success, failure, fired, heard, row, runs, invite_machine}
use Rattle.sip_timers.specs.declared.letter.Letter.{Letter}
use Rattle.sip_timers.specs.declared.letter.Letter.TheVariants.{A, B, D, M}
use Rattle.sip_transactions.specs.declared.client_invite.ClientInvite.{ClientInvite}
use Rattle.sip_transactions.specs.declared.client_invite.ClientInvite.TheVariants.{Calling, Proceeding, Completed, Accepted, Terminated}

-- a timer that runs after a row ran before it, or is started by it
pub kept : (state : ClientInvite) (h : Heard) (letter : Letter) → runs (row state h).0 letter ≡ true
    → (runs state letter ≡ true) ⊎ Starts invite_machine (row state h).1 letter
kept (Calling interval) h A r = inl refl
kept (Calling interval) h B r = inl refl
kept Completed h D r = inl refl
kept Accepted h M r = inl refl
kept (Calling interval) success M r = inr (inl refl)
kept Proceeding success M r = inr (inl refl)
kept (Calling interval) failure D r = inr (inl refl)
kept Proceeding failure D r = inr (inl refl)
kept (Calling interval) (fired A) letter r = inl r
kept (Calling interval) (fired B) letter r = inl r
kept Completed (fired D) letter r = inl r
kept Accepted (fired M) letter r = inl r
kept state h letter r = inl r

-- a timer that a row starts runs after it
pub started : (state : ClientInvite) (h : Heard) (letter : Letter) → Starts invite_machine (row state h).1 letter → runs (row state h).0 letter ≡ true
started (Calling interval) (fired A) letter (inl e) = ap (runs (Calling interval)) (sym e)
started (Calling interval) (fired A) letter (inr none) = absurd none
started (Calling interval) success letter (inl e) = ap (runs Accepted) (sym e)
started (Calling interval) success letter (inr none) = absurd none
started Proceeding success letter (inl e) = ap (runs Accepted) (sym e)
started Proceeding success letter (inr none) = absurd none
started (Calling interval) failure letter (inl e) = ap (runs Completed) (sym e)
started (Calling interval) failure letter (inr none) = absurd none
started Proceeding failure letter (inl e) = ap (runs Completed) (sym e)
started Proceeding failure letter (inr none) = absurd none
started Completed (fired D) letter s = absurd s
started Accepted (fired M) letter s = absurd s
started state h letter s = absurd s

-- a timer that fires is started anew, or runs no more
pub anew : (state : ClientInvite) (letter : Letter) → runs (row state (fired letter)).0 letter ≡ true → Starts invite_machine (row state (fired letter)).1 letter
anew (Calling interval) A r = inl refl
anew (Calling interval) B r = cc
anew (Calling interval) letter r = cc
anew Proceeding letter r = cc
anew Completed D r = cc
anew Completed letter r = cc
anew Accepted M r = cc
anew Accepted letter r = cc
anew Terminated letter r = cc

-- no other timer runs
pub own : (state : ClientInvite) (letter : Letter) → runs state letter ≡ true → IsOneOf (A ∷ B ∷ D ∷ M ∷ []) letter
own (Calling interval) A r = inl refl
own (Calling interval) B r = inr (inl refl)
own Completed D r = inr (inr (inl refl))
own Accepted M r = inr (inr (inr (inl refl)))
own state letter r = cc

pub keeps : KeepsTimers invite_machine
keeps = record {
  kept = λ state input letter r. kept state (heard input) letter r;
  started = λ state input letter s. started state (heard input) letter s;
  anew = λ state letter r. anew state letter r;
}
