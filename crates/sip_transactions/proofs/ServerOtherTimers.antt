-- The timers of the server transaction of a request that isn't an INVITE.
use Rattle.std.proofs.Common.{◌≡◌, true, [], ◌∷◌, ◌⊎◌, inl, inr, refl, sym, ap}
use Rattle.sip_timers.specs.Machine.{Starts, KeepsTimers, IsOneOf}
use Rattle.sip_transactions.specs.ServerOther.{Heard, final, fired, heard, row, runs, other_machine}
use Rattle.sip_timers.specs.declared.letter.Letter.{Letter}
use Rattle.sip_timers.specs.declared.letter.Letter.TheVariants.{J}
use Rattle.sip_transactions.specs.declared.server_other.ServerOther.{ServerOther}
use Rattle.sip_transactions.specs.declared.server_other.ServerOther.TheVariants.{Trying, Proceeding, Completed, Terminated}

-- a timer that runs after a row ran before it, or is started by it
pub kept : (state : ServerOther) (h : Heard) (letter : Letter) → runs (row state h).0 letter ≡ true
    → (runs state letter ≡ true) ⊎ Starts other_machine (row state h).1 letter
kept Trying final J e = inr (inl refl)
kept Proceeding final J e = inr (inl refl)
kept Completed (fired J) J e = inl refl
kept state h letter e = inl e

-- a timer that a row starts runs after it
pub started : (state : ServerOther) (h : Heard) (letter : Letter) → Starts other_machine (row state h).1 letter → runs (row state h).0 letter ≡ true
started Trying final letter (inl e) = ap (runs Completed) (sym e)
started Proceeding final letter (inl e) = ap (runs Completed) (sym e)
started Trying final letter (inr none) = absurd none
started Proceeding final letter (inr none) = absurd none
started Completed (fired J) letter s = absurd s
started state h letter s = absurd s

-- a timer that fires is started anew, or runs no more
pub anew : (state : ServerOther) (letter : Letter) → runs (row state (fired letter)).0 letter ≡ true → Starts other_machine (row state (fired letter)).1 letter
anew Trying letter e = cc
anew Proceeding letter e = cc
anew Completed J e = cc
anew Completed letter e = cc
anew Terminated letter e = cc

-- no other timer runs
pub own : (state : ServerOther) (letter : Letter) → runs state letter ≡ true → IsOneOf (J ∷ []) letter
own Completed J e = inl refl
own state letter e = cc

pub keeps : KeepsTimers other_machine
keeps = record {
  kept = λ state input letter e. kept state (heard input) letter e;
  started = λ state input letter s. started state (heard input) letter s;
  anew = λ state letter e. anew state letter e;
}
