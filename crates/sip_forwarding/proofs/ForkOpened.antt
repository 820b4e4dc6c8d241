-- The packets of a request that is sent to its branches, and what an event left.
use Rattle.std.proofs.Common.{◌≡◌, List, ◌++◌, ◌∙◌, ap, append_assoc}
use Rattle.sip_event.specs.declared.packet.Packet.{Packet}
use Rattle.model_steps.specs.state.declared.open_request.OpenRequest.{OpenRequest}
use Rattle.model_steps.specs.state.declared.open_request.Upward.{Upward}
use Rattle.sip_context_branches.specs.context_model.Branches.{Change}
use Rattle.sip_context.specs.declared.sent.Sent.{Sent}
use Rattle.sip_context.specs.Sent.{change_of}
use Rattle.model_steps.specs.Effect.{change_packets}

pub request_after : (r : OpenRequest) (sent : Sent) (change : Change) → change_of r sent ≡ change → r ≡ change.request
request_after r sent change is = ap (λ (c : Change). c.request) is

pub upward_after : (r : OpenRequest) (sent : Sent) (change : Change) (upward : List Upward) → change_of r sent ≡ change → upward ≡ sent.upward → upward ≡ change.upward
upward_after r sent change upward is same = same ∙ ap (λ (c : Change). c.upward) is

pub all_packets : (old tried changed all first last : List Packet) (r : OpenRequest) (sent : Sent) (change : Change) → change_of r sent ≡ change
    → tried ≡ old ++ first → changed ≡ tried ++ change_packets (change_of r sent) → all ≡ changed ++ last
    → all ≡ old ++ (first ++ change_packets change ++ last)
all_packets old tried changed all first last r sent change is is_tried is_changed is_all =
    let middle : List Packet = change_packets change in
    let front : changed ≡ old ++ (first ++ middle) =
    is_changed ∙ ap (λ (c : Change). tried ++ change_packets c) is ∙ ap (λ (v : List Packet). v ++ middle) is_tried ∙ append_assoc old first middle in
    is_all ∙ ap (λ (v : List Packet). v ++ last) front ∙ append_assoc old (first ++ middle) last
