-- What the table says of a decision, by where `decide` says that the request goes.
use Rattle.std.specs.Prelude.{ℕ, List, [], ◌++◌, codes, Option, Some, None}
use Rattle.std.specs.List.{slice_get}
use Rattle.sip_policy.specs.declared.decision.Decision.{Decision}
use Rattle.sip_hops.specs.declared.hop.Hop.{Hop as ConfiguredHop}
use Rattle.sipd_ask.specs.declared.destination.Destination.{Destination}
use Rattle.sipd_ask.specs.declared.destination.Destination.TheVariants.{Nowhere, Registrar, Bindings, Hop, NotFound}

-- ---- the sign in a cell

abbrev pub hop_sign : Option ConfiguredHop → List ℕ
hop_sign None = codes "!"
hop_sign (Some hop) = codes ">" ++ hop.name

-- what isn't let through is denied, or asked for a proof
abbrev pub refusal_sign : Decision → List ℕ
refusal_sign (Decision.Deny id) = codes "-"
refusal_sign Decision.Challenge = codes "?"
refusal_sign (Decision.Allow id) = []
refusal_sign (Decision.Via id place) = []

abbrev pub sign_by : List ConfiguredHop → Decision → Destination → List ℕ
sign_by hops decision Nowhere = refusal_sign decision
sign_by hops decision Registrar = codes "+"
sign_by hops decision Bindings = codes "+"
sign_by hops decision (Hop place) = hop_sign (slice_get hops place)
sign_by hops decision NotFound = codes "!"

-- ---- the last field of a line

abbrev pub hop_word : Option ConfiguredHop → List ℕ
hop_word None = codes "nobody"
hop_word (Some hop) = hop.name

abbrev pub place_by : List ConfiguredHop → Destination → List ℕ
place_by hops Nowhere = []
place_by hops Registrar = codes "registrar"
place_by hops Bindings = codes "bindings"
place_by hops (Hop place) = hop_word (slice_get hops place)
place_by hops NotFound = codes "nobody"
