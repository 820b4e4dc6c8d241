-- Targets (RFC 3261 16.5, 16.6 step 2).
use Rattle.std.specs.Prelude.{Bool, not, filter, List, [], codes}
use Rattle.sip_uri.specs.declared.parameters.UriParameter.{UriParameter}
use Rattle.sip_uri.specs.declared.uri.Uri.{Uri}
use Rattle.sip_uri_equality.specs.Equality.{says_same_no_case}
use Rattle.sip_hops.specs.declared.host_address.HostAddress.{HostAddress}
use Rattle.sip_hops.specs.HostAddress.{address_of}
use Rattle.sip_targets.specs.declared.target.Target.{Target}

-- whether a parameter is the `method` parameter, escapes in its name resolved
abbrev pub is_method : UriParameter → Bool
is_method p = says_same_no_case p.name (codes "method")

-- the Request-URI for a contact: without `method` and without URI headers, which no Request-URI has (RFC 3261 19.1.1, table 1)
abbrev pub target_uri : Uri → Uri
target_uri contact = record contact { parameters = filter (λ p. not (is_method p)) contact.parameters; headers = [] }

-- the target for a contact; its address is that of its URI, if it has one
abbrev pub target_for : List HostAddress → Uri → Target
target_for addresses contact = record { uri = target_uri contact; address = address_of addresses (target_uri contact) }
