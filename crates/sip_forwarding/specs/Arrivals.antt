-- A datagram as it comes.
use Rattle.model_steps.specs.state.Arrival as States
use Rattle.model_steps.specs.state.KeptRequest.{KeptRequest}
use Rattle.sip_forwarding.specs.declared.arrival.Arrival as Declared

-- the datagram of which the definitions speak
abbrev pub arrival_of : Declared.Arrival → States.Arrival
arrival_of a = record { number = a.number; now = a.now; word = a.word; from = a.from }

-- the datagram of a request that is kept, as the request has it: where it came from stands once, in the request
abbrev pub arrived : Declared.Arrival → KeptRequest → States.Arrival
arrived a k = record (arrival_of a) { from = k.source }
