-- The targets that a decision gives, with a Request-URI or without one.
use Rattle.std.proofs.Common.{◌≡◌, ℕ, Bool, true, false, is_some, List, Option, Some, None, refl}
use Rattle.std.specs.Prelude.{if◌then◌else◌}
use Rattle.std.specs.Option.{option_map_or}
use Rattle.sip_uri.specs.declared.uri.Uri.{Uri}
use Rattle.sip_policy.specs.declared.decision.Decision.{Decision}
use Rattle.sip_hops.specs.declared.host_address.HostAddress.{HostAddress}
use Rattle.sip_hops.specs.declared.hop.Hop.{Hop}
use Rattle.sip_hops.specs.Hop.{hop_of}
use Rattle.sip_targets.specs.declared.targets.Targets.{Targets}
use Rattle.sip_targets.specs.Targets.{no_targets, target_by, targets_at, targets_for}

pub for_nothing : (decision : Decision) (known : Bool) (uri : Option Uri) (contacts : List Uri) (hops : List Hop) (addresses : List HostAddress)
    → is_some uri ≡ false → Targets.NotFound ≡ targets_for decision known uri contacts hops addresses
for_nothing decision known None contacts hops addresses none = refl
for_nothing decision known (Some uri) contacts hops addresses none = absurd cc

pub for_callee : (id : ℕ) (known : Bool) (uri : Option Uri) (contacts : List Uri) (hops : List Hop) (addresses : List HostAddress)
    → is_some uri ≡ true → (if known then targets_at addresses contacts else Targets.NotFound) ≡ targets_for (Decision.Allow id) known uri contacts hops addresses
for_callee id known None contacts hops addresses some = absurd cc
for_callee id known (Some uri) contacts hops addresses some = refl

pub for_denied : (id : ℕ) (known : Bool) (uri : Option Uri) (contacts : List Uri) (hops : List Hop) (addresses : List HostAddress)
    → is_some uri ≡ true → no_targets ≡ targets_for (Decision.Deny id) known uri contacts hops addresses
for_denied id known None contacts hops addresses some = absurd cc
for_denied id known (Some uri) contacts hops addresses some = refl

pub for_challenged : (known : Bool) (uri : Option Uri) (contacts : List Uri) (hops : List Hop) (addresses : List HostAddress)
    → is_some uri ≡ true → no_targets ≡ targets_for Decision.Challenge known uri contacts hops addresses
for_challenged known None contacts hops addresses some = absurd cc
for_challenged known (Some uri) contacts hops addresses some = refl

pub by_hop : (id hop : ℕ) (known : Bool) (uri : Option Uri) (contacts : List Uri) (hops : List Hop) (addresses : List HostAddress)
    → option_map_or (λ u. target_by u (hop_of hops hop)) uri Targets.NotFound ≡ targets_for (Decision.Via id hop) known uri contacts hops addresses
by_hop id hop known None contacts hops addresses = refl
by_hop id hop known (Some uri) contacts hops addresses = refl
