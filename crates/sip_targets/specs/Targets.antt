-- The targets of a request (RFC 3261 16.5; the statuses are those of 8.2.2.1 and 16.5).
use Rattle.std.specs.Prelude.{Bool, map, if◌then◌else◌, List, [], ◌∷◌, Option, Some, None}
use Rattle.sip_uri.specs.declared.uri.Uri.{Uri}
use Rattle.sip_policy.specs.declared.decision.Decision.{Decision}
use Rattle.sip_uri.specs.declared.addr.Addr.{Addr}
use Rattle.sip_hops.specs.declared.host_address.HostAddress.{HostAddress}
use Rattle.sip_hops.specs.declared.hop.Hop.{Hop}
use Rattle.sip_hops.specs.Hop.{hop_of}
use Rattle.sip_targets.specs.declared.target.Target.{Target}
use Rattle.sip_targets.specs.declared.targets.Targets.{Targets}
use Rattle.sip_targets.specs.Target.{target_for}

-- no target: of a request that isn't let through
abbrev pub no_targets : Targets
no_targets = Targets.Bindings []

-- one target for each live contact, in their order; without one the user is unavailable
abbrev pub targets_at : List HostAddress → List Uri → Targets
targets_at addresses [] = Targets.Unavailable
targets_at addresses (contact ∷ contacts) = Targets.Bindings (map (target_for addresses) (contact ∷ contacts))

-- the Request-URI unchanged at the address of the hop; a hop that isn't configured, which no rule names, is found nowhere
abbrev pub target_by : Uri → Option Addr → Targets
target_by request_uri (Some address) = Targets.Hop request_uri address
target_by request_uri None = Targets.NotFound

-- Where a request goes that policy decided about: by a hop whoever is called; else to the live contacts of the address, if it is
-- known as a configured user's in an own domain.
-- A request that is denied or challenged goes nowhere.
abbrev pub targets_of : Decision → Bool → Uri → List Uri → List Hop → List HostAddress → Targets
targets_of (Decision.Via id hop) known request_uri contacts hops addresses = target_by request_uri (hop_of hops hop)
targets_of (Decision.Allow id) known request_uri contacts hops addresses = if known then targets_at addresses contacts else Targets.NotFound
targets_of (Decision.Deny id) known request_uri contacts hops addresses = no_targets
targets_of Decision.Challenge known request_uri contacts hops addresses = no_targets

-- the same of a request whose Request-URI may be none
abbrev pub targets_for : Decision → Bool → Option Uri → List Uri → List Hop → List HostAddress → Targets
targets_for decision known None contacts hops addresses = Targets.NotFound
targets_for decision known (Some uri) contacts hops addresses = targets_of decision known uri contacts hops addresses

-- the targets one by one, in the order of their branches; at 404 and 480 there is none
abbrev pub target_list : Targets → List Target
target_list (Targets.Bindings targets) = targets
target_list (Targets.Hop uri address) = record { uri = uri; address = Some address } ∷ []
target_list Targets.NotFound = []
target_list Targets.Unavailable = []
