-- Parameters whose first was read apart.
use Rattle.std.specs.Prelude.{List, ◌∷◌, Option, Some, None}
use Rattle.sip_header.specs.declared.parameters.Assigned.{Assigned}
use Rattle.sip_header.specs.declared.parameters.HeaderParameter.{HeaderParameter}

-- parameters behind the first of them, if that is one of two tokens
abbrev pub behind_first : Option Assigned → List HeaderParameter → List HeaderParameter
behind_first None others = others
behind_first (Some first) others = record { name = first.name.now; value = Some first.value.now } ∷ others
