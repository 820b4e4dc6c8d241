-- What an error is called, and when a step is refused.
use Rattle.std.specs.Prelude.{ℕ, Bool, ◌^◌, List, codes, nat_le, if◌then◌else◌, Option, Some, None}
use Rattle.sip_verdict.specs.state.declared.proxy_state.ProxyState.{ProxyState}
use Rattle.sip_engine.specs.declared.error.StepError.{StepError}
use Rattle.sip_engine.specs.declared.error.StepError.TheVariants.{NoMemory, MomentTooLarge, Worn}

abbrev pub words_of : StepError → List ℕ
words_of NoMemory = codes "out of memory"
words_of MomentTooLarge = codes "the moment is too large"
words_of Worn = codes "the numbers of datagrams are worn out"

-- whether a moment, or a number, is too large
abbrev pub is_too_large : ℕ → Bool
is_too_large at = nat_le (2 ^ 62) at

-- what a step at a moment is refused with before any memory is asked for
abbrev pub refusal_at : ℕ → Option StepError
refusal_at at = if is_too_large at then Some MomentTooLarge else None

-- and a datagram's
abbrev pub refusal_of : ProxyState → ℕ → Option StepError
refusal_of state at = if is_too_large at then Some MomentTooLarge else if is_too_large state.next then Some Worn else None
