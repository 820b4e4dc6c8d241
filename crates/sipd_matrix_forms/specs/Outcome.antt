-- What comes of a decision, in words: the verdict, and where the request goes.
use Rattle.std.specs.Prelude.{ℕ, Bool, true, false, List, [], codes, Option, Some, None}
use Rattle.std.specs.List.{slice_get}
use Rattle.sip_policy.specs.declared.decision.Decision.{Decision}
use Rattle.sip_policy.specs.declared.operation.Operation.{Operation}
use Rattle.sip_policy.specs.Decision.{decision_with}
use Rattle.sip_hops.specs.declared.hop.Hop.{Hop}
use Rattle.sip_config_types.specs.declared.config.Config.{Config}
use Rattle.sip_matrix.specs.declared.column.Column.{Column}
use Rattle.sipd_matrix.specs.Cells.{are_known, rule_at}

-- where what is let through without a hop goes: to the registrar, or to the bindings of the address; where that isn't a user's, nobody is
-- reached (RFC 3261 10.3 step 5, 16.5)
abbrev pub place_of_known : Operation → List ℕ
place_of_known Operation.Register = codes "registrar"
place_of_known Operation.List = codes "registrar"
place_of_known (Operation.Send method) = codes "bindings"

abbrev pub sent_place : Operation → Bool → List ℕ
sent_place operation true = place_of_known operation
sent_place operation false = codes "nobody"

-- where it goes by a hop: a REGISTER goes to the registrar, whatever hop the rule names
abbrev pub hop_place : Operation → Bool → Option Hop → List ℕ
hop_place (Operation.Send method) known None = codes "nobody"
hop_place (Operation.Send method) known (Some hop) = hop.name
hop_place Operation.Register known hop = sent_place Operation.Register known
hop_place Operation.List known hop = sent_place Operation.List known

-- where a request goes, if it is let through
abbrev pub place_of : Operation → List Hop → Bool → Decision → List ℕ
place_of operation hops known (Decision.Allow id) = sent_place operation known
place_of operation hops known (Decision.Via id place) = hop_place operation known (slice_get hops place)
place_of operation hops known (Decision.Deny id) = []
place_of operation hops known Decision.Challenge = []

-- the verdict
abbrev pub via_word : Operation → Option Hop → List ℕ
via_word (Operation.Send method) (Some hop) = codes "via"
via_word (Operation.Send method) None = codes "allow"
via_word Operation.Register hop = codes "allow"
via_word Operation.List hop = codes "allow"

abbrev pub verdict_of : Operation → List Hop → Decision → List ℕ
verdict_of operation hops (Decision.Allow id) = codes "allow"
verdict_of operation hops (Decision.Via id place) = via_word operation (slice_get hops place)
verdict_of operation hops (Decision.Deny id) = codes "deny"
verdict_of operation hops Decision.Challenge = codes "challenge"

-- ---- of a cell

abbrev pub decision_at : Config → Operation → Option (List ℕ) → Column → Bool → ℕ → Decision
decision_at config operation row column own piece = decision_with row (rule_at config operation row column own piece)

abbrev pub verdict_at : Config → Operation → Option (List ℕ) → Column → Bool → ℕ → List ℕ
verdict_at config operation row column own piece = verdict_of operation config.hops (decision_at config operation row column own piece)

abbrev pub place_at : Config → Operation → Option (List ℕ) → Column → Bool → ℕ → List ℕ
place_at config operation row column own piece =
    place_of operation config.hops (are_known config column) (decision_at config operation row column own piece)
