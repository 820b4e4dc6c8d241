-- Vias by what they say.
use Rattle.std.specs.Prelude.{ℕ, Bool, List, Option, option_map}
use Rattle.std.specs.Option.{option_and_then}
use Rattle.sip_header.specs.Via.{via_of}
use Rattle.sip_route.specs.Own.{is_own_via, own_branch}
use Rattle.sip_route.specs.Examples.{own}

-- whether a Via that can be read is of the server of the worked examples
abbrev pub is_own : List ℕ → Option Bool
is_own value = option_map (λ via. is_own_via own via) (via_of value)

-- the branch of a Via on top of a response to that server
abbrev pub branch_in : List ℕ → Option (List ℕ)
branch_in value = option_and_then (λ via. own_branch own via) (via_of value)
