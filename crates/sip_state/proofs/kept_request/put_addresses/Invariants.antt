use Rattle.std.proofs.Common.{◌≡◌, ◌++◌, drop}
use Rattle.std.specs.List.{filter_map}
use Rattle.sip_route_facts.specs.ContactHostPorts.{address_there}
use Rattle.sip_state.proofs.kept_request.put_addresses.Given as goal

-- the addresses so far, and those of the places that are left
abbrev pub invariant-loop-place : goal.invariant-loop-place
invariant-loop-place l = l.out ++ filter_map (address_there l.hops.addresses) (drop l.place-index l.places) ≡ l.fn.out
    ++ filter_map (address_there l.hops.addresses) l.places
