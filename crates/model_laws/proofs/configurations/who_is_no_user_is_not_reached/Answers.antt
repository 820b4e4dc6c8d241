use Rattle.std.proofs.Common.{◌≡◌, ℕ, Bool, false, Option, Some, None, List, refl, ap}
use Rattle.sip_uri.specs.declared.uri.Uri.{Uri}
use Rattle.sip_hops.specs.declared.hop.Hop.{Hop}
use Rattle.sip_hops.specs.declared.host_address.HostAddress.{HostAddress}
use Rattle.sip_policy.specs.declared.decision.Decision.{Decision}
use Rattle.sip_targets.specs.declared.targets.Targets.{Targets}
use Rattle.sip_targets.specs.Targets.{targets_for}
use Rattle.sip_route.specs.Way.{request_uri_of}
use Rattle.sip_location.specs.Binding.{contacts_of}
use Rattle.model_laws.proofs.configurations.who_is_no_user_is_not_reached.Goals as goal

-- nobody is found who isn't known, whatever the Request-URI is
found_nowhere : (id : ℕ) (known : Bool) (uri : Option Uri) (contacts : List Uri) (hops : List Hop) (addresses : List HostAddress) → known ≡ false
    → targets_for (Decision.Allow id) known uri contacts hops addresses ≡ Targets.NotFound
found_nowhere id known None contacts hops addresses e = refl
found_nowhere id known (Some uri) contacts hops addresses e = ap (λ (t : Bool). targets_for (Decision.Allow id) t (Some uri) contacts hops addresses) e

pub returns : goal.returns
returns c = λ server rows now m q id e. found_nowhere id _ (request_uri_of server.config.own m) (contacts_of rows now q.target) server.config.hops server.config.addresses
    e
