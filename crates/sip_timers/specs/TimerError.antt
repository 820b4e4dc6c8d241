-- What a refusal says when it is printed.
use Rattle.std.specs.Prelude.{ℕ, List, codes}
use Rattle.sip_timers.specs.declared.error.TimerError.{TimerError}
use Rattle.sip_timers.specs.declared.error.TimerError.TheVariants.{NoMemory, TooFar}

abbrev pub words_of : TimerError → List ℕ
words_of NoMemory = codes "out of memory"
words_of TooFar = codes "a timer due too far ahead"
