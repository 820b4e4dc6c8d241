-- The timers of the server transaction of an INVITE.
use Rattle.std.proofs.Common.{◌≡◌, true, [], ◌∷◌, ◌⊎◌, inl, inr, refl, sym, ap}
use Rattle.sip_timers.specs.Machine.{Starts, KeepsTimers, IsOneOf}
use Rattle.sip_transactions.specs.ServerInvite.{Heard, invite, ack, success, failure, fired, heard, row, runs, invite_machine}
use Rattle.sip_timers.specs.declared.letter.Letter.{Letter}
use Rattle.sip_timers.specs.declared.letter.Letter.TheVariants.{G, H, I, L}
use Rattle.sip_transactions.specs.declared.server_invite.ServerInvite.{ServerInvite}
use Rattle.sip_transactions.specs.declared.server_invite.ServerInvite.TheVariants.{Proceeding, Completed, Confirmed, Accepted, Terminated}

-- a timer that runs after a row ran before it, or is started by it
pub kept : (state : ServerInvite) (h : Heard) (letter : Letter) → runs (row state h).0 letter ≡ true
    → (runs state letter ≡ true) ⊎ Starts invite_machine (row state h).1 letter
kept (Proceeding true) invite letter e = inl e
kept (Proceeding answered) success L e = inr (inl refl)
kept (Proceeding answered) failure G e = inr (inl refl)
kept (Proceeding answered) failure H e = inr (inr (inl refl))
kept (Completed g) h G e = inl refl
kept (Completed g) h H e = inl refl
kept (Completed g) ack I e = inr (inl refl)
kept (Completed g) (fired G) letter e = inl e
kept (Completed g) (fired H) letter e = inl e
kept Confirmed (fired I) I e = inl refl
kept Accepted (fired L) L e = inl refl
kept state h letter e = inl e

-- a timer that a row starts runs after it
pub started : (state : ServerInvite) (h : Heard) (letter : Letter) → Starts invite_machine (row state h).1 letter → runs (row state h).0 letter ≡ true
started (Proceeding true) invite letter s = absurd s
started (Proceeding answered) success letter (inl e) = ap (runs Accepted) (sym e)
started (Proceeding answered) success letter (inr none) = absurd none
started (Proceeding answered) failure letter (inl e) = ap (runs (Completed 500)) (sym e)
started (Proceeding answered) failure letter (inr (inl e)) = ap (runs (Completed 500)) (sym e)
started (Proceeding answered) failure letter (inr (inr none)) = absurd none
started (Completed g) (fired G) letter (inl e) = ap (runs (Completed g)) (sym e)
started (Completed g) (fired G) letter (inr none) = absurd none
started (Completed g) ack letter (inl e) = ap (runs Confirmed) (sym e)
started (Completed g) ack letter (inr none) = absurd none
started Confirmed (fired I) letter s = absurd s
started Accepted (fired L) letter s = absurd s
started state h letter s = absurd s

-- a timer that fires is started anew, or runs no more
pub anew : (state : ServerInvite) (letter : Letter) → runs (row state (fired letter)).0 letter ≡ true → Starts invite_machine (row state (fired letter)).1 letter
anew (Proceeding true) letter e = cc
anew (Proceeding answered) letter e = cc
anew (Completed g) G e = inl refl
anew (Completed g) letter e = cc
anew Confirmed I e = cc
anew Confirmed letter e = cc
anew Accepted L e = cc
anew Accepted letter e = cc
anew Terminated letter e = cc

-- no other timer runs
pub own : (state : ServerInvite) (letter : Letter) → runs state letter ≡ true → IsOneOf (G ∷ H ∷ I ∷ L ∷ []) letter
own (Completed g) G e = inl refl
own (Completed g) H e = inr (inl refl)
own Confirmed I e = inr (inr (inl refl))
own Accepted L e = inr (inr (inr (inl refl)))
own state letter e = cc

pub keeps : KeepsTimers invite_machine
keeps = record {
  kept = λ state input letter e. kept state (heard input) letter e;
  started = λ state input letter s. started state (heard input) letter s;
  anew = λ state letter e. anew state letter e;
}
