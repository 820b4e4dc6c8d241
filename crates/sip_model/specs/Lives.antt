-- What a history sent for the first time.
use Rattle.std.specs.Prelude.{false, List, [], ◌∷◌, ◌++◌}
use Rattle.sip_event.specs.declared.packet.Packet.{Packet}
use Rattle.model_steps.specs.Step.{originals}
use Rattle.sip_model.specs.Run.{Link}

-- the first sending of a packet that goes again: the same bytes to the same address for the same ticket, as an original
abbrev pub first_sending : Packet → Packet
first_sending p = record p { again = false }

-- all that a history sent for the first time, the newest step's first
abbrev pub sent_first : List Link → List Packet
sent_first [] = []
sent_first (link ∷ history) = originals link.out.packets ++ sent_first history
