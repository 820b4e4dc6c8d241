-- The values of Contact in a list of bindings.
use Rattle.std.specs.Prelude.{ℕ, List, ◌++◌, decimal, codes}

-- a URI in brackets, with the seconds that its binding has left (RFC 3261 10.3 step 8)
abbrev pub contact_value : List ℕ → ℕ → List ℕ
contact_value uri seconds = codes "<" ++ uri ++ codes ">;expires=" ++ decimal seconds
