-- The way of a request by the values of its Routes alone (RFC 3261 16.4).
use Rattle.std.specs.Prelude.{ℕ, is_some, if◌then◌else◌, List, reverse, drop, Option}
use Rattle.sip_header.specs.declared.name_addr.NameAddr.{NameAddr}
use Rattle.sip_route.specs.declared.own.Own.{Own}
use Rattle.sip_route.specs.declared.way.Way.{Way}
use Rattle.sip_route.specs.Way.{restored_of, uri_by, begins_with_own}

-- all but the last
abbrev pub all_but_last : {X : Type 0} → List X → List X
all_but_last xs = reverse (drop 1 (reverse xs))

-- without the last, where a Route is restored
abbrev pub others_than : Option NameAddr → List (List ℕ) → List (List ℕ)
others_than restored routes = if is_some restored then all_but_last routes else routes

-- without a first one that names this server
abbrev pub without_own : Own → List (List ℕ) → List (List ℕ)
without_own own routes = if begins_with_own own routes then drop 1 routes else routes

-- the way of a request by the Route that is restored
abbrev pub way_with : Own → List ℕ → List (List ℕ) → Option NameAddr → Way
way_with own uri routes restored = record { uri = uri_by restored uri; routes = without_own own (others_than restored routes) }

-- the way of a request with this Request-URI and these values of Route
abbrev pub way_by : Own → List ℕ → List (List ℕ) → Way
way_by own uri routes = way_with own uri routes (restored_of own uri routes)
