-- A datagram that stands for one that a shorter list of events leaves out (this project's profile).
use Rattle.std.specs.Prelude.{ℕ, [], ◌∷◌}
use Rattle.sip_uri.specs.declared.addr.Addr.{Addr}
use Rattle.sip_event.specs.declared.event.Event.{Event}
use Rattle.sip_event.specs.declared.event.Event.TheVariants.{Datagram}
use Rattle.sip_event.specs.declared.event.StepOut.{StepOut}

-- nobody's address, 0.0.0.0:1
abbrev pub nobody : Addr
nobody = record { ip = 0 ∷ 0 ∷ 0 ∷ 0 ∷ []; port = 1 }

-- it came from there before any moment, so that no time passes, with the word 0, and its one byte says no message
abbrev pub left_out : Event
left_out = Datagram 0 0 nobody (0 ∷ [])

-- what its step puts out: nothing
abbrev pub silent : ℕ → StepOut
silent moment = record { at = moment; packets = []; records = [] }
