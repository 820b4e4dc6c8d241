-- Why a replay is refused.
use Rattle.sip_replay.specs.Errors.{IsFaulted}
use Rattle.sip_replay.specs.declared.error.ReplayError.{ReplayError}
use Rattle.sip_replay.specs.declared.error.ReplayError.TheVariants as errors

-- why Read is answered
pub faulted_spent : (F G H : Type 0) (e : ReplayError) → (F → H) → IsFaulted F G e → IsFaulted H G e
faulted_spent F G H errors.NoMemory f h = tt
faulted_spent F G H (errors.Script line) f h = tt
faulted_spent F G H errors.Read f h = f h
faulted_spent F G H errors.Write f h = h
