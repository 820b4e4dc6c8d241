-- What a step is refused for.
use Rattle.std.specs.Prelude.{◌≡◌, ⊤, Option, Some, None}
use Rattle.sip_event.specs.declared.event.Event.{Event}
use Rattle.sip_event.specs.declared.event.Event.TheVariants.{Datagram, Time, Fault}
use Rattle.sip_engine.specs.state.declared.proxy_state.ProxyState.{ProxyState}
use Rattle.sip_engine.specs.engine_time.Faults.{failed_of}
use Rattle.sip_engine.specs.declared.error.StepError.{StepError}
use Rattle.sip_engine.specs.declared.error.StepError.TheVariants.{NoMemory}
use Rattle.sip_engine.specs.StepError.{refusal_at, refusal_of}

-- what the server refuses an event's step for, before any memory is asked for
abbrev pub refusal_of_event : ProxyState → Event → Option StepError
refusal_of_event state (Datagram at word from bytes) = refusal_of state at
refusal_of_event state (Time at) = refusal_at at
refusal_of_event state (Fault at ticket) = refusal_at at

-- an event's step needs no memory: time passes, or a packet couldn't be sent that no open request waits for
abbrev pub NeedsNoMemory : ProxyState → Event → Type 0
NeedsNoMemory state (Datagram at word from bytes) = ⊥
NeedsNoMemory state (Time at) = ⊤
NeedsNoMemory state (Fault at ticket) = failed_of ticket state.requests ≡ None

-- A step that the server refuses is refused for that, and any other for want of memory alone.
abbrev pub RefusesStep : Option StepError → StepError → Type 0
RefusesStep None e = e ≡ NoMemory
RefusesStep (Some refusal) e = e ≡ refusal
