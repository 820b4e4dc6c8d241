-- What a page says of the steps of a day.
use Rattle.std.specs.Prelude.{ℕ, List, [], ◌∷◌, ◌++◌, map}
use Rattle.sip_audit.specs.Lines.{line_of}
use Rattle.sip_listener.specs.Heard.{Heard}

-- the lines of the log that the steps of a day give
abbrev pub day_lines : List Heard → List (List ℕ)
day_lines [] = []
day_lines (step ∷ later) = map line_of step.out.records ++ day_lines later
