-- Copies that are not to go.
use Rattle.std.specs.Prelude.{true, [], ◌∷◌, codes}
use Rattle.sip_hops.specs.Examples.{local}
use Rattle.sip_event.specs.declared.packet.Packet.{Packet}
use Rattle.sip_model.specs.state.declared.proxy_state.ProxyState.{ProxyState}
use Rattle.sip_model.specs.context_model.Calls.{first_branch, one_target}
use Rattle.sip_model.specs.context_model.Sending.{branch_packets}
use Rattle.sip_model.specs.steps_model.Examples.{sample}
use Rattle.sip_model.specs.steps_model.Step.{Passing}
use Rattle.sip_model.specs.Run.{Link}
use Rattle.model_laws.specs.Links.{knowing_open, sending}

-- An INVITE that was sent to port 5082 at 62,000 is to go again at 62,500: it goes at 62,200.
abbrev pub early_copy : ProxyState → ProxyState → Link
early_copy known after = sending (knowing_open known 5 62000 (one_target ∷ [])) (Passing 62200) 62200
    (branch_packets sample true one_target first_branch) after

-- At 62,500 a BYE goes as its copy, to the same port, which nobody sent.
abbrev pub other_bytes : Packet
other_bytes =
    record {
      to = local 5082;
      bytes = codes "BYE sip:help@127.0.0.1:5082 SIP/2.0\r\n\r\n";
      ticket = record { datagram = 4; branch = 1 };
      again = true;
    }

abbrev pub false_copy : ProxyState → ProxyState → Link
false_copy known after = sending (knowing_open known 5 62000 (one_target ∷ [])) (Passing 62500) 62500 (other_bytes ∷ []) after
