-- How two lists of parameters in order are walked side by side.
use Rattle.std.specs.Prelude.{◌≡◌, false, List, drop}
use Rattle.sip_uri.specs.declared.parameters.UriParameter.{UriParameter}
use Rattle.sip_uri_equality.specs.declared.parameter_order.Advance.{Advance}
use Rattle.sip_uri_equality.specs.declared.parameter_order.Advance.TheVariants.{Left, Right, Both, Differ}
use Rattle.sip_uri_equality.specs.Equality.{are_same_parameters}

-- what is left of the lists is the same where the lists are
abbrev pub IsAdvance : Advance → List UriParameter → List UriParameter → Type 0
IsAdvance Left ps qs = are_same_parameters ps qs ≡ are_same_parameters (drop 1 ps) qs
IsAdvance Right ps qs = are_same_parameters ps qs ≡ are_same_parameters ps (drop 1 qs)
IsAdvance Both ps qs = are_same_parameters ps qs ≡ are_same_parameters (drop 1 ps) (drop 1 qs)
IsAdvance Differ ps qs = are_same_parameters ps qs ≡ false
