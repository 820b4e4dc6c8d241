-- What is sent, joined to the request after an input.
use Rattle.std.proofs.Common.{◌≡◌, List, ap, ◌∙◌}
use Rattle.sip_event.specs.declared.packet.Packet.{Packet}
use Rattle.sip_context.specs.state.declared.open_request.OpenRequest.{OpenRequest}
use Rattle.sip_context_branches.specs.context_model.Branches.{Change}
use Rattle.sip_context.specs.declared.sent.Sent.{Sent}
use Rattle.sip_context.specs.Sent.{change_of}
use Rattle.sip_context.specs.Inputs.{changing, outcome, repeating}

-- a change, with what goes again beside it
pub changed : (r : OpenRequest) (sending : Sent) (sent : Sent) (copies wanted : List Packet) (change : Change)
    → ((x : OpenRequest) → outcome x sending ≡ changing (change_of x sent) copies) → change_of r sent ≡ change → copies ≡ wanted
    → outcome r sending ≡ changing change wanted
changed r sending sent copies wanted change a b d = a r ∙ ap (λ (c : Change). changing c copies) b ∙ ap (λ (p : List Packet). changing change p) d

-- what only goes again
pub repeated : (r after : OpenRequest) (sending : Sent) (copies wanted : List Packet)
    → ((x : OpenRequest) → outcome x sending ≡ repeating x copies) → r ≡ after → copies ≡ wanted → outcome r sending ≡ repeating after wanted
repeated r after sending copies wanted a b d = a r ∙ ap (λ (x : OpenRequest). repeating x copies) b ∙ ap (λ (p : List Packet). repeating after p) d
