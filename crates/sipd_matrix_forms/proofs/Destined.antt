-- What the table says of a decision is what it says of where the request goes.
use Rattle.std.proofs.Common.{◌≡◌, ℕ, Bool, true, false, cond, List, codes, Option, Some, None, refl}
use Rattle.std.specs.List.{slice_get}
use Rattle.sip_uri.specs.declared.aor.Aor.{Aor}
use Rattle.sip_policy.specs.declared.decision.Decision.{Decision}
use Rattle.sip_policy.specs.declared.operation.Operation.{Operation}
use Rattle.sip_policy.specs.User.{is_users_address}
use Rattle.sip_hops.specs.declared.hop.Hop.{Hop as ConfiguredHop}
use Rattle.sip_config_types.specs.declared.config.Config.{Config}
use Rattle.sipd_ask.specs.declared.destination.Destination.{Destination}
use Rattle.sipd_ask.specs.declared.destination.Destination.TheVariants.{Registrar, Bindings, NotFound}
use Rattle.sipd_ask.specs.Destination.{destination_of}
use Rattle.sipd_matrix.specs.Cells.{hop_mark, mark_of, sent_mark}
use Rattle.sipd_matrix_forms.specs.Destinations.{hop_sign, hop_word, place_by, sign_by}
use Rattle.sipd_matrix_forms.specs.Outcome.{hop_place, place_of, place_of_known, sent_place}

abbrev is_known : Config → Aor → Bool
is_known config aor = is_users_address config.users config.own.domains aor

-- what is let through without a hop
sent_sign : (hops : List ConfiguredHop) (decision : Decision) (there : Destination) → codes "+" ≡ sign_by hops decision there → (known : Bool)
    → sent_mark known ≡ sign_by hops decision (cond known there NotFound)
sent_sign hops decision there e true = e
sent_sign hops decision there e false = refl

sent_word : (operation : Operation) (hops : List ConfiguredHop) (there : Destination) → place_of_known operation ≡ place_by hops there → (known : Bool)
    → sent_place operation known ≡ place_by hops (cond known there NotFound)
sent_word operation hops there e true = e
sent_word operation hops there e false = refl

-- what is let through by one
by_hop_sign : (hop : Option ConfiguredHop) → hop_mark hop ≡ hop_sign hop
by_hop_sign None = refl
by_hop_sign (Some hop) = refl

by_hop_word : (method : List ℕ) (known : Bool) (hop : Option ConfiguredHop) → hop_place (Operation.Send method) known hop ≡ hop_word hop
by_hop_word method known None = refl
by_hop_word method known (Some hop) = refl

pub signs : (config : Config) (operation : Operation) (aor : Aor) (decision : Decision)
    → mark_of operation config.hops (is_users_address config.users config.own.domains aor) decision
    ≡ sign_by config.hops decision (destination_of config operation aor decision)
signs config Operation.Register aor (Decision.Allow id) = sent_sign config.hops (Decision.Allow id) Registrar refl (is_known config aor)
signs config Operation.List aor (Decision.Allow id) = sent_sign config.hops (Decision.Allow id) Registrar refl (is_known config aor)
signs config (Operation.Send method) aor (Decision.Allow id) = sent_sign config.hops (Decision.Allow id) Bindings refl (is_known config aor)
signs config Operation.Register aor (Decision.Via id place) = sent_sign config.hops (Decision.Via id place) Registrar refl (is_known config aor)
signs config Operation.List aor (Decision.Via id place) = sent_sign config.hops (Decision.Via id place) Registrar refl (is_known config aor)
signs config (Operation.Send method) aor (Decision.Via id place) = by_hop_sign (slice_get config.hops place)
signs config Operation.Register aor (Decision.Deny id) = refl
signs config Operation.List aor (Decision.Deny id) = refl
signs config (Operation.Send method) aor (Decision.Deny id) = refl
signs config Operation.Register aor Decision.Challenge = refl
signs config Operation.List aor Decision.Challenge = refl
signs config (Operation.Send method) aor Decision.Challenge = refl

pub places : (config : Config) (operation : Operation) (aor : Aor) (decision : Decision)
    → place_of operation config.hops (is_users_address config.users config.own.domains aor) decision
    ≡ place_by config.hops (destination_of config operation aor decision)
places config Operation.Register aor (Decision.Allow id) = sent_word Operation.Register config.hops Registrar refl (is_known config aor)
places config Operation.List aor (Decision.Allow id) = sent_word Operation.List config.hops Registrar refl (is_known config aor)
places config (Operation.Send method) aor (Decision.Allow id) = sent_word (Operation.Send method) config.hops Bindings refl (is_known config aor)
places config Operation.Register aor (Decision.Via id place) = sent_word Operation.Register config.hops Registrar refl (is_known config aor)
places config Operation.List aor (Decision.Via id place) = sent_word Operation.List config.hops Registrar refl (is_known config aor)
places config (Operation.Send method) aor (Decision.Via id place) = by_hop_word method (is_known config aor) (slice_get config.hops place)
places config Operation.Register aor (Decision.Deny id) = refl
places config Operation.List aor (Decision.Deny id) = refl
places config (Operation.Send method) aor (Decision.Deny id) = refl
places config Operation.Register aor Decision.Challenge = refl
places config Operation.List aor Decision.Challenge = refl
places config (Operation.Send method) aor Decision.Challenge = refl
