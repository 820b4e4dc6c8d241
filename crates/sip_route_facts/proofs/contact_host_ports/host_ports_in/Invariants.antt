use Rattle.std.proofs.Common.{◌≡◌, ◌++◌, drop}
use Rattle.sip_route_facts.specs.ContactHostPorts.{host_ports_in}
use Rattle.sip_route_facts.proofs.contact_host_ports.host_ports_in.Given as goal

-- the places so far, and those of the fields that are left
abbrev pub invariant-loop-field : goal.invariant-loop-field
invariant-loop-field l = l.host_ports ++ host_ports_in (drop l.field-index l.fields) ≡ host_ports_in l.fields
