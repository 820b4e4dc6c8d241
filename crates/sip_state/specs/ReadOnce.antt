-- What is kept beside a request is what it says.
use Rattle.std.specs.Prelude.{◌≡◌, ℕ, Bool, List, Option, Some}
use Rattle.sip_message_form.specs.declared.message.Message.{Message}
use Rattle.sip_edit.specs.declared.branch_id.BranchId.{BranchId}
use Rattle.sip_edit.specs.Onward.{onward_base, to_target}
use Rattle.sip_edit.specs.OwnVia.{branch_text, own_via}
use Rattle.sip_state.specs.declared.server.Server.{Server}
use Rattle.sip_state.specs.declared.onward.Onward.{Onward}
use Rattle.sip_route_facts.specs.declared.route_facts.HostPort.{HostPort}
use Rattle.sip_state.specs.declared.top_via.TopVia.{TopVia}
use Rattle.sip_route_facts.specs.RouteFacts.{facts_in}
use Rattle.sip_state.specs.TopVia.{IsTopVia}
use Rattle.sip_state.specs.Names.{names_in}
use Rattle.sip_route_facts.specs.ContactHostPorts.{host_ports_in}
use Rattle.sip_state.specs.Tail.{IsTail}

-- where its Contact and Record-Route lead, if that was read
abbrev pub AreGiven : Message → Option (List HostPort) → Type 0
AreGiven m given = (places : List HostPort) → given ≡ Some places → places ≡ host_ports_in m.fields

-- what is read of a request that goes on
pub record IsOnward (m : Message) (onward : Onward) : Type 0 where
  pub routes : onward.routes ≡ facts_in m
  pub names : onward.names ≡ names_in m
  pub given : AreGiven m onward.given

-- what is read of a request
pub record IsReadOnce (m : Message) (top : TopVia) (read : Option Onward) : Type 0 where
  pub via : IsTopVia m top
  pub onward : (o : Onward) → read ≡ Some o → IsOnward m o
  pub tail : (o : Onward) → read ≡ Some o → IsTail m top.source o.tail

-- a request as it goes from a server to a target with this Request-URI and the Via of this branch (RFC 3261 16.6)
abbrev pub goes_to : Server → BranchId → Bool → List ℕ → Message → Message
goes_to server branch records_route uri m =
    to_target uri (own_via server.config.own (branch_text server.word branch.number branch.target))
    (onward_base server.config.own server.config.realm records_route m)
