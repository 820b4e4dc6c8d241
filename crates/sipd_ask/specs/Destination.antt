-- Where a request goes that policy decided about, as far as that is known without bindings.
use Rattle.std.specs.Prelude.{ℕ, Bool, if◌then◌else◌, List}
use Rattle.sip_uri.specs.declared.uri.Uri.{Uri}
use Rattle.sip_uri.specs.declared.aor.Aor.{Aor}
use Rattle.sip_policy.specs.declared.decision.Decision.{Decision}
use Rattle.sip_policy.specs.declared.operation.Operation.{Operation}
use Rattle.sip_policy.specs.User.{is_users_address}
use Rattle.sip_hops.specs.Hop.{hop_of}
use Rattle.sip_targets.specs.declared.targets.Targets.{Targets}
use Rattle.sip_targets.specs.Targets.{no_targets, targets_at, target_by}
use Rattle.sip_config_types.specs.declared.config.Config.{Config}
use Rattle.sipd_ask.specs.declared.destination.Destination.{Destination}
use Rattle.sipd_ask.specs.declared.destination.Destination.TheVariants.{Nowhere, Registrar, Bindings, Hop, NotFound}

-- whether an address of record is a configured user's in an own domain
abbrev pub is_known : Config → Aor → Bool
is_known config aor = is_users_address config.users config.own.domains aor

-- what is let through without a hop: to the registrar, or to the bindings, of a known address (RFC 3261 10.3 step 5, 16.5)
abbrev pub let_through : Config → Operation → Aor → Destination
let_through config Operation.Register aor = if is_known config aor then Registrar else NotFound
let_through config Operation.List aor = if is_known config aor then Registrar else NotFound
let_through config (Operation.Send method) aor = if is_known config aor then Bindings else NotFound

-- what is let through by a hop: a request that is sent on goes there, whoever is called
abbrev pub let_by_hop : Config → Operation → Aor → ℕ → Destination
let_by_hop config Operation.Register aor place = let_through config Operation.Register aor
let_by_hop config Operation.List aor place = let_through config Operation.List aor
let_by_hop config (Operation.Send method) aor place = Hop place

-- where a request for an address of record goes
abbrev pub destination_of : Config → Operation → Aor → Decision → Destination
destination_of config operation aor (Decision.Allow id) = let_through config operation aor
destination_of config operation aor (Decision.Via id place) = let_by_hop config operation aor place
destination_of config operation aor (Decision.Deny id) = Nowhere
destination_of config operation aor Decision.Challenge = Nowhere

-- the targets that a request to a URI has there, with these live contacts; the registrar sends it nowhere
abbrev pub targets_there : Config → Destination → Uri → List Uri → Targets
targets_there config Nowhere uri contacts = no_targets
targets_there config Registrar uri contacts = no_targets
targets_there config Bindings uri contacts = targets_at config.addresses contacts
targets_there config (Hop place) uri contacts = target_by uri (hop_of config.hops place)
targets_there config NotFound uri contacts = Targets.NotFound
