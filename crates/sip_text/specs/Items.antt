-- Items that are changed in their places.
use Rattle.std.specs.Prelude.{List, length, take, drop, ◌++◌}

-- a list once other items were written over as many of its first
abbrev pub written : {X : Type 0} → List X → List X → List X
written old items = take (length old) (items ++ drop (length items) old)
